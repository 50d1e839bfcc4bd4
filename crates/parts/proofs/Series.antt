-- Loops of fields, one after the other.
use mathlib.Core.Path.{◌≡◌}
use mathlib.Core.Bool.{true, false, ◌&&◌}
use mathlib.Core.List.{List}
use Prim.Native.Nat.{ℕ, suc, ◌+◌, ◌-◌, ◌*◌, ◌≤◌, ◌<◌}
use native.Mathlib.Omega.{arith}
use lib.ListN.{take, drop}
use lib.Seq.{drop-drop}
use Rattle.record.specs.Fields.{Optional}
use Rattle.record.specs.Read.{entry_width}
use Rattle.writing.specs.Write.{entries, optional_of}
use Rattle.writing.proofs.Halves.{fields_take, fields_drop}
use Rattle.parts.specs.Loops.{loop, loop_fields, is_loop, are_loops}

-- the loop with an index, of those that a table holds
pub nth_loop : (contents : List ℕ) (n j : ℕ) (table : List ℕ) → j < n
    → take loop_fields (drop (j * loop_fields) (optional_of contents (entries (n * loop_fields) table)))
    ≡ optional_of contents (entries loop_fields (drop (j * loop_fields * entry_width) table))
nth_loop contents n j table h =
    let before : j * loop_fields + (loop_fields + (n - (j + 1)) * loop_fields) ≡ n * loop_fields = omega arith in
    let from = drop (j * loop_fields * entry_width) table in
    let behind : drop (j * loop_fields) (optional_of contents (entries (n * loop_fields) table)) ≡ optional_of contents (entries (loop_fields + (n - (j + 1)) * loop_fields) from) =
    rw before at (fields_drop contents (j * loop_fields) (loop_fields + (n - (j + 1)) * loop_fields) table) in
    rw behind (fields_take contents loop_fields ((n - (j + 1)) * loop_fields) from)

-- the loops from the one with an index on
module _ (n j : ℕ) (fs : List Optional) where
  here : j < n → are_loops (n - j) (drop (j * loop_fields) fs)
      ≡ is_loop loop (take loop_fields (drop (j * loop_fields) fs)) && are_loops (n - (j + 1)) (drop ((j + 1) * loop_fields) fs)
  unfolding are_loops
  here h =
      let left : n - j ≡ suc (n - (j + 1)) = omega arith in
      let k : j * loop_fields + loop_fields ≡ (j + 1) * loop_fields = omega arith in
      rw (left, drop-drop loop_fields (j * loop_fields) fs, k)

  pub loop_broken : j < n → is_loop loop (take loop_fields (drop (j * loop_fields) fs)) ≡ false → are_loops (n - j) (drop (j * loop_fields) fs) ≡ false
  loop_broken h e = rw (here h, e)

  pub loop_passed : j < n → is_loop loop (take loop_fields (drop (j * loop_fields) fs)) ≡ true
      → are_loops (n - j) (drop (j * loop_fields) fs) ≡ are_loops (n - (j + 1)) (drop ((j + 1) * loop_fields) fs)
  loop_passed h e = rw (here h, e)

  -- with no loop left nothing is asked
  pub loops_end : n ≤ j → are_loops (n - j) (drop (j * loop_fields) fs) ≡ true
  unfolding are_loops
  loops_end h =
      let e : n - j ≡ 0 = omega arith in
      rw e

pub ruleset loops_judged = (loop_broken, loop_passed, loops_end)
