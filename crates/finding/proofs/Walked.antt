-- What the walks over entries are told.
use mathlib.Core.Path.{◌≡◌}
use mathlib.Core.Bool.{true}
use mathlib.Core.List.{List}
use Prim.Native.Nat.{ℕ, zero, suc, ◌+◌, ◌-◌, ◌*◌, ◌≤◌, ◌<◌}
use native.Mathlib.Omega.{arith}
use borrow.Author.Tests.{lt-ltb, le-ltb}
use Rattle.cells.specs.Search.{all_from, sum_from}
use Rattle.cells.proofs.Bools.{and_left, and_right}
use Rattle.cells.proofs.Searches.{first_here, first_next, first_end, all_here, all_next, all_end, sum_next, sum_end}
use Rattle.entry.specs.Stored.{most_copies, open_at, line_sound}
use Rattle.entry.proofs.Sound.{open_bounded}
use Rattle.finding.proofs.Compared.{school_other, reference_other, slip_other}

-- sound lines have at most so many copies open, for whatever school
pub open_few : (ls school : List ℕ) (n i : ℕ) → all_from (line_sound ls) n i ≡ true → sum_from (open_at ls school) n i ≤ most_copies * n
unfolding all_from sum_from
open_few ls school zero i h = omega arith
open_few ls school (suc n) i h =
    omega (arith, open_bounded ls school i (and_left (line_sound ls i) (all_from (line_sound ls) n (suc i)) h), open_few ls school n (suc i) (and_right (line_sound ls i) (all_from (line_sound ls) n (suc i)) h))

-- a sum of places, one place at a time
module _ (f : ℕ → ℕ) (n i : ℕ) where
  pub sum_left : i < n → sum_from f (n - i) i ≡ f i + sum_from f (n - (i + 1)) (i + 1)
  sum_left h = omega (arith, sum_next f n i 0 h)

  pub sum_none : n ≤ i → sum_from f (n - i) i ≡ 0
  sum_none h = omega (arith, sum_end f n i 0 h)

pub ruleset walked = (all_here, all_next, all_end, lt-ltb, le-ltb)

pub ruleset lines_sought = (first_here, first_next, first_end, school_other, reference_other)

pub ruleset slips_sought = (first_here, first_next, first_end, slip_other)

pub ruleset summed = (sum_left, sum_none, open_few)
