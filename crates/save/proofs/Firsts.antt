-- The key of an entry against the keys of earlier entries.
use mathlib.Core.Path.{◌≡◌, refl}
use mathlib.Core.List.{List}
use Prim.Native.Nat.{ℕ}
use lib.ListN.{take}
use Rattle.save.specs.Entries.{is_new, is_first}

-- no earlier entry has the key of the entry at i: that key is new there
pub first_new : (width : ℕ) (body : ℕ → List ℕ) (i : ℕ) → is_first width body i ≡ is_new width body (take width (body i)) i
unfolding is_first is_new
first_new width body i = refl
