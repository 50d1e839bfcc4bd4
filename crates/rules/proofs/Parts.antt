-- How long a part of a list is.
use mathlib.Core.List.{List}
use Prim.Native.Nat.{ℕ, ◌-◌, ◌≤◌}
use native.Mathlib.Omega.{arith}
use lib.ListN.{length, length-take, length-drop}
use lib.Seq.{slice}

-- a part is no longer than from the one place to the other
pub part_most : (from to : ℕ) (s : List ℕ) → length (slice from to s) ≤ to - from
part_most from to s = simp (length-drop, length-take) (omega arith)
