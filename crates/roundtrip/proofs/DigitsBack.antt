-- A number that is written in digits, read back.
use mathlib.Core.Path.{◌≡◌, ◌∙◌, sym, refl}
use mathlib.Core.Bool.{true}
use mathlib.Core.List.{List, [], ◌∷◌, ◌++◌}
use Prim.Native.Nat.{ℕ, zero, suc, ◌+◌, ◌*◌, ◌^◌, ◌/◌, ◌%◌, ◌-◌, ◌<◌}
use native.Mathlib.Nat.{pow-suc, mul_assoc}
use native.Mathlib.Omega.{arith}
use borrow.Author.Tests.{le-leb}
use Rattle.signs.specs.Class.{digit, belongs, all_of}
use Rattle.rules.specs.Number.{number_from, number}
use Rattle.signs.specs.declared.Class.TheVariants.{Digit}
use Rattle.writing.specs.Digits.{digits_of}
use Rattle.cells.specs.Bytes.{all}
use Rattle.cells.proofs.Lists.{all_append}

-- the last digit written is a digit
digit_byte : (n : ℕ) → digit (48 + n % 10) ≡ true
digit_byte n = rw (le-leb 48 (48 + n % 10) (omega arith), le-leb (48 + n % 10) 57 (omega arith))

-- so is each
pub digits_all : (w n : ℕ) → all_of Digit (digits_of w n) ≡ true
unfolding digits_of all_of all belongs
digits_all zero n = refl
digits_all (suc w) n =
    let ih = digits_all w (n / 10) in
    rw (all_append, ih, digit_byte n)

-- digits that stand after others complete the number that those spell
pub number_append : (m : ℕ) (xs ys : List ℕ) → number_from m (xs ++ ys) ≡ number_from (number_from m xs) ys
unfolding number_from
number_append m [] ys = refl
number_append m (x ∷ xs) ys = number_append (m * 10 + (x - 48)) xs ys

-- w digits of a number below 10 ^ w spell it, after any number
pub number_after : (m w n : ℕ) → n < 10 ^ w → number_from m (digits_of w n) ≡ m * 10 ^ w + n
unfolding digits_of number_from
number_after m zero n h = omega arith
number_after m (suc w) n h =
    let l : n < 10 ^ w * 10 = rw pow-suc at h in
    let s : n / 10 < 10 ^ w = omega arith in
    let ih = number_after m w (n / 10) s in
    let e : m * (10 ^ w * 10) ≡ m * 10 ^ w * 10 = sym (mul_assoc m (10 ^ w) 10) in
    number_append m (digits_of w (n / 10)) _ ∙ rw (ih, pow-suc, e) (omega arith)

-- w digits of a number below 10 ^ w spell it
pub number_of_digits : (w n : ℕ) → n < 10 ^ w → number (digits_of w n) ≡ n
number_of_digits w n h = number_after 0 w n h ∙ omega arith
