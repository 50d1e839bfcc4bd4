-- What it says of a field's length that the field is of a class.
use mathlib.Core.Path.{◌≡◌}
use mathlib.Core.Bool.{true}
use mathlib.Core.List.{List}
use Prim.Native.Nat.{ℕ, ◌≤◌}
use lib.Dec.{leb}
use lib.ListN.{length}
use borrow.Author.Tests.{leb-true}
use Rattle.cells.specs.Bytes.{within}
use Rattle.cells.proofs.Bools.{and_left, and_right}
use Rattle.signs.specs.Class.{all_of, of_class}
use Rattle.signs.specs.declared.Class.{Class}

-- a field of least to most bytes of a class has at most that many
pub at_most : (k : Class) (least most : ℕ) (s : List ℕ) → of_class k least most s ≡ true → length s ≤ most
unfolding of_class
at_most k least most s e =
    leb-true (length s) most (and_right (leb least (length s)) (leb (length s) most) (and_left (within least most (length s)) (all_of k s) e))
