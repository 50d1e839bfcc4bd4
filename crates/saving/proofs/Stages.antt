-- What saving and loading are told.
use mathlib.Core.Path.{◌≡◌, ◌∙◌, ap, sym}
use mathlib.Core.Bool.{true}
use mathlib.Core.List.{List, ◌++◌}
use Prim.Native.Nat.{ℕ, ◌+◌, ◌*◌, ◌≤◌}
use native.Mathlib.Omega.{arith}
use borrow.Author.Tests.{le-leb, lt-leb, leb-true}
use lib.ListN.{length}
use lib.Seq.{sets}
use Rattle.cells.proofs.Bools.{and_left, and_right}
use Rattle.cells.proofs.Stores.{sets_append}
use Rattle.book.specs.Lent.{Lent, most_slips, used_lines, used_slips, sound}
use Rattle.book.proofs.Sounds.{sound_so}
use Rattle.finding.proofs.Stands.{lines_in, slips_in, lines_few}
use Rattle.save.specs.Form.{slips_at}
use Rattle.save.specs.Saved.{saved_slip_width, line_front_at, slip_body_at, line_entries, slip_entries, end_entry, formed, saved_form}
use Rattle.save.specs.declared.form.Form.TheVariants.{New}
use Rattle.save.proofs.Bodies.{slips_most}
use Rattle.save.proofs.Forms.{either_form}
use Rattle.save.proofs.Joined.{lines_long, slips_long}
use Rattle.filling.proofs.Entries.{front_at_long, slip_at_long}

module _ (b : Lent) where
  pub slips_few : sound b ≡ true → used_slips b ≤ most_slips
  slips_few h = let s = sound_so b h in omega (arith, s.slips_fit, s.slips_most)

  -- lines, slips and the end stored one after the other are the saved form
  pub form_stored : (out : List ℕ) → sound b ≡ true
      → sets (sets (sets out 0 (line_entries New (line_front_at b.lines) (used_lines b))) (slips_at New (used_lines b)) (slip_entries (slip_body_at b.slips) (used_slips b))) (slips_at New (used_lines b) + saved_slip_width * used_slips b) (end_entry (used_lines b) (used_slips b))
      ≡ sets out 0 (saved_form b)
  unfolding saved_form formed
  form_stored out h =
      let say = sound_so b h in
      let n : ℕ = used_lines b in
      let m : ℕ = used_slips b in
      let at : ℕ = slips_at New n in
      let ls : List ℕ = line_entries New (line_front_at b.lines) n in
      let ts : List ℕ = slip_entries (slip_body_at b.slips) m in
      let l : length ls ≡ at = lines_long New (line_front_at b.lines) n (λ i x. front_at_long b.lines i (omega (arith, say.lines_in))) in
      let t : length ts ≡ saved_slip_width * m = slips_long (slip_body_at b.slips) m (λ j x. slip_at_long b.slips j (omega (arith, say.slips_in))) in
      let at-slips : 0 + length ls ≡ at = omega (arith, l) in
      let at_end : at + length ts ≡ at + saved_slip_width * m = omega (arith, t) in
      sym
      (sets_append out 0 ls (ts ++ end_entry n m)
      ∙ ap (λ (k : ℕ). sets (sets out 0 ls) k (ts ++ end_entry n m)) at-slips
      ∙ sets_append (sets out 0 ls) at ts (end_entry n m)
      ∙ ap (λ (k : ℕ). sets (sets (sets out 0 ls) at ts) k (end_entry n m)) at_end)

pub ruleset storing = (lines_in, slips_in, lines_few, slips_few, slips_most, form_stored, le-leb, lt-leb)

pub ruleset loading = (either_form, leb-true, and_left, and_right)
