-- What the classes of bytes have to do with each other. Who changes a class proves these again, and nothing above.
use mathlib.Core.Path.{◌≡◌}
use mathlib.Core.Bool.{true, not}
use Prim.Native.Nat.{ℕ, ◌<◌}
use native.Mathlib.Omega.{arith}
use borrow.Author.Tests.{leb-true, le-leb, lt-ltb}
use lib.Dec.{leb, ltb}
use Rattle.cells.specs.Bytes.{within}
use Rattle.cells.proofs.Bools.{split, and_left, and_right}
use Rattle.signs.specs.Class.{plain, unassigned, belongs}
use Rattle.signs.specs.declared.Class.TheVariants.{Allowed, Digit}

-- a plain byte is allowed
pub plain_allowed : (b : ℕ) → plain b ≡ true → belongs Allowed b ≡ true
unfolding belongs
plain_allowed b e = rw e

-- an allowed byte is a byte
pub allowed_byte : (b : ℕ) → belongs Allowed b ≡ true → ltb b 256 ≡ true
unfolding belongs
allowed_byte b e =
    let below : (least most : ℕ) → most < 256 → within least most b ≡ true → ltb b 256 ≡ true
    = λ least most h w. let u = leb-true b most (and_right (leb least b) (leb b most) w) in lt-ltb b 256 (omega arith) in
    split (within 32 126 b) (below 32 126 (omega arith))
    (λ ascii. split (within 160 255 b) (below 160 255 (omega arith))
    (λ latin. below 128 159 (omega arith) (and_left (within 128 159 b) (not (unassigned b)) (rw (ascii, latin) at e))))

-- a digit is allowed
pub digit_allowed : (b : ℕ) → belongs Digit b ≡ true → belongs Allowed b ≡ true
unfolding belongs
digit_allowed b e =
    let l = leb-true 48 b (and_left (leb 48 b) (leb b 57) e) in
    let u = leb-true b 57 (and_right (leb 48 b) (leb b 57) e) in
    rw (le-leb 32 b (omega arith), le-leb b 126 (omega arith))
