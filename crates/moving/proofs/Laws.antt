-- A save moved into an output.
use mathlib.Core.Path.{◌≡◌, ◌∙◌, ap, sym}
use mathlib.Core.List.{List}
use Prim.Native.Nat.{ℕ, ◌≤◌}
use native.Mathlib.Nat.{zero-add}
use native.Mathlib.Omega.{arith}
use lib.ListN.{length, drop}
use lib.Seq.{sets}
use Rattle.cells.proofs.Stores.{sets_append}
use Rattle.save.specs.Form.{slips_at}
use Rattle.save.specs.Saved.{line_entries, stated_lines, line_in}
use Rattle.save.specs.Moves.{moved}
use Rattle.save.specs.declared.form.Form.{Form}
use Rattle.save.proofs.Bodies.{line_before, line_long}
use Rattle.save.proofs.Joined.{lines_long}

module _ (from to : Form) (s out : List ℕ) where
  -- lines in the other form, then the rest as it stands
  pub moved_stored : (n : ℕ) → n ≡ stated_lines s → slips_at from n ≤ length s
      → sets (sets out 0 (line_entries to (line_in from s) n)) (slips_at to n) (drop (slips_at from n) s) ≡ sets out 0 (moved from to s)
  unfolding moved
  moved_stored n e h =
      let lines : List ℕ = line_entries to (line_in from s) n in
      let rest : List ℕ = drop (slips_at from n) s in
      let long : length lines ≡ slips_at to n = lines_long to (line_in from s) n (λ i a. line_long from s i (omega (arith, h, line_before from i n a))) in
      rw (← e) (sym (sets_append out 0 lines rest ∙ ap (λ (k : ℕ). sets (sets out 0 lines) k rest) (zero-add (length lines) ∙ long)))
