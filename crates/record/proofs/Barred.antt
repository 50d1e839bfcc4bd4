-- The bytes that a guarded field may not hold.
use mathlib.Core.Path.{◌≡◌}
use mathlib.Core.Bool.{not, not-not}
use Prim.Native.Nat.{ℕ}
use Rattle.signs.specs.Class.{barred, belongs}
use Rattle.signs.specs.declared.Class.TheVariants.{Unbarred}

-- a byte is barred just where it is not of the class of the others
pub not_unbarred : (b : ℕ) → not (belongs Unbarred b) ≡ barred b
unfolding belongs
not_unbarred b = not-not (barred b)
