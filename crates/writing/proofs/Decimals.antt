-- Numbers stored as decimal digits: how many bytes they are, and the last of them first.
use mathlib.Core.Path.{◌≡◌, refl, ◌∙◌}
use mathlib.Core.List.{List, [], ◌∷◌}
use Prim.Native.Nat.{ℕ, zero, suc, ◌+◌, ◌^◌, ◌/◌, ◌%◌}
use native.Mathlib.Numerals.{add-one}
use native.Mathlib.Omega.{arith}
use lib.Dec.{ltb}
use lib.ListN.{length, set, length-append, length-replicate}
use lib.Seq.{sets}
use Rattle.cells.proofs.Bools.{split}
use Rattle.cells.proofs.Stores.{sets_last}
use Rattle.writing.specs.Digits.{digits_of, unwritable, number_bytes}

-- each is as many bytes as its width says
pub digits_length : (w n : ℕ) → length (digits_of w n) ≡ w
unfolding digits_of
digits_length zero n = refl
digits_length (suc w) n = length-append (digits_of w (n / 10)) ((48 + n % 10) ∷ []) ∙ rw (digits_length w (n / 10)) (omega arith)

pub unwritable_length : (w : ℕ) → length (unwritable w) ≡ w
unfolding unwritable
unwritable_length w = length-replicate w 0

pub number_length : (w n : ℕ) → length (number_bytes w n) ≡ w
unfolding number_bytes
number_length w n =
    split (ltb n (10 ^ w))
    (λ e. rw e (digits_length w n))
    (λ e. rw e (unwritable_length w))

-- the last digit stored leaves those before it to store
pub digits_back : (l : List ℕ) (at w n : ℕ) → sets l at (digits_of (w + 1) n) ≡ sets (set l (at + w) (48 + n % 10)) at (digits_of w (n / 10))
unfolding digits_of
digits_back l at w n = rw add-one (sets_last l at (digits_of w (n / 10)) (48 + n % 10) ∙ rw (digits_length w (n / 10)))
