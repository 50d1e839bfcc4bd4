-- What the walks over the entries of a save are told.
use mathlib.Core.Path.{◌≡◌}
use Prim.Native.Nat.{ℕ, ◌+◌, ◌-◌, ◌≤◌, ◌<◌}
use native.Mathlib.Omega.{arith}
use borrow.Author.Tests.{lt-ltb, le-ltb, le-leb, lt-leb, eq-eqb, ne_eqb}
use Rattle.cells.specs.Search.{sum_from}
use Rattle.cells.proofs.Searches.{all_here, all_next, all_end, sum_next, sum_end}

-- a sum of places, one place at a time
module _ (f : ℕ → ℕ) (n i : ℕ) where
  pub sum_left : i < n → sum_from f (n - i) i ≡ f i + sum_from f (n - (i + 1)) (i + 1)
  sum_left h = omega (arith, sum_next f n i 0 h)

  pub sum_none : n ≤ i → sum_from f (n - i) i ≡ 0
  sum_none h = omega (arith, sum_end f n i 0 h)

pub ruleset walked = (all_here, all_next, all_end, lt-ltb, le-ltb, le-leb, lt-leb, eq-eqb, ne_eqb)

pub ruleset summed = (sum_left, sum_none)
