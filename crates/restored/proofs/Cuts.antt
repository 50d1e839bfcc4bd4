-- Lists cut: a part and what follows it, a front stored, and numbers with their bytes.
use mathlib.Core.Path.{◌≡◌, ◌∙◌, ap, sym}
use mathlib.Core.List.{List, ◌++◌}
use Prim.Native.Nat.{ℕ, zero, suc, ◌+◌, ◌*◌, ◌/◌, ◌%◌, ◌≤◌, ◌<◌}
use native.Mathlib.Nat.{zero-add, add-zero}
use native.Mathlib.Omega.{arith}
use lib.Dec.{ltb}
use lib.ListN.{length, get_or, drop, take-append-drop}
use lib.Seq.{slice, slice-cons, sets, sets-eq, drop-drop, slice_empty}
use borrow.Author.Tests.{ltb-true}
use Rattle.cells.specs.Little.{le_at, le_bytes}
use Rattle.cells.proofs.Parts.{take_from}
use Rattle.signs.proofs.Runs.{all_at}
use Rattle.restored.specs.Restored.{Bytes}

-- a part and what follows it
pub part_and_rest : (s : List ℕ) (a w : ℕ) → slice a (a + w) s ++ drop (a + w) s ≡ drop a s
part_and_rest s a w = rw (← take_from w a s, ← drop-drop w a s) (take-append-drop w (drop a s))

-- a run stored at the front
pub stored_front : (d xs : List ℕ) (w : ℕ) → length xs ≡ w → w ≤ length d → sets d 0 xs ≡ xs ++ drop w d
stored_front d xs w e h = sets-eq xs d 0 (omega arith) ∙ ap (λ (k : ℕ). xs ++ drop k d) (zero-add (length xs) ∙ e)

-- the bytes of the number that stands in bytes are these
pub bytes_back : (s : List ℕ) → Bytes s → (w p : ℕ) → p + w ≤ length s → le_bytes w (le_at s p w) ≡ slice p (p + w) s
unfolding le_at le_bytes
bytes_back s h zero p r = rw add-zero (sym (slice_empty p s))
bytes_back s h (suc w) p r =
    let x : ℕ = get_or s p 0 in
    let n : ℕ = le_at s (suc p) w in
    let small : x < 256 = ltb-true x 256 (all_at (λ b. ltb b 256) s p h (omega arith)) in
    let low : (x + 256 * n) % 256 ≡ x = omega arith in
    let high : (x + 256 * n) / 256 ≡ n = omega arith in
    let e : p + suc w ≡ suc p + w = omega arith in
    rw (low, high, bytes_back s h w (suc p) (omega arith), slice-cons p (p + suc w) s 0 (omega arith) r, e)
