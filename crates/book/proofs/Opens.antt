-- How many the open copies of a school in a sound book can be.
use mathlib.Core.Path.{◌≡◌}
use mathlib.Core.Bool.{true}
use mathlib.Core.List.{List}
use Prim.Native.Nat.{ℕ, zero, suc, ◌+◌, ◌*◌, ◌≤◌, ◌<◌}
use native.Mathlib.Omega.{arith}
use lib.ListN.{get_or}
use Rattle.cells.specs.Search.{sum_from}
use Rattle.entry.specs.Stored.{most_copies, open_at}
use Rattle.entry.proofs.Sound.{open_bounded}
use Rattle.book.specs.Lent.{lent, used_lines, most_lines, sound}
use Rattle.book.proofs.Sounds.{sound_so}

-- a sum of figures that are each at most those of one order
sum_most : (f : ℕ → ℕ) (n i : ℕ) → ((j : ℕ) → i ≤ j → j < i + n → f j ≤ most_copies) → sum_from f n i ≤ most_copies * n
unfolding sum_from
sum_most f zero i h = omega arith
sum_most f (suc n) i h =
    omega (arith, h i (omega arith) (omega arith), sum_most f n (suc i) (λ j a b. h j (omega arith) (omega arith)))

-- of a sound book
module _ (lines slips used school : List ℕ) {r : ℕ} where
  pub open_below : sound (lent lines slips used) ≡ true → r ≡ sum_from (open_at lines school) (get_or used 0 0) 0 → r ≤ most_copies * most_lines
  unfolding used_lines
  open_below h e =
      let s = sound_so (lent lines slips used) h in
      let most = sum_most (open_at lines school) (get_or used 0 0) 0 (λ j a b. open_bounded lines school j (s.line_sound_law j (omega arith))) in
      omega (arith, e, most, s.lines_fit, s.lines_most)
