-- Digits are written back from the number that they spell.
use mathlib.Core.Path.{◌≡◌, ◌∙◌, sym}
use mathlib.Core.Bool.{true}
use mathlib.Core.List.{List, [], ◌∷◌, ◌++◌, append-nil, append_assoc}
use Prim.Native.Nat.{ℕ, suc, ◌+◌, ◌*◌, ◌/◌, ◌%◌, ◌<◌}
use native.Mathlib.Nat.{add-zero}
use native.Mathlib.Omega.{arith}
use borrow.Author.Tests.{leb-true}
use lib.Dec.{leb}
use lib.ListN.{length}
use Rattle.cells.specs.Bytes.{all}
use Rattle.cells.proofs.Bools.{and_left, and_right}
use Rattle.signs.specs.Class.{digit}
use Rattle.rules.specs.Number.{digit_value, number_from, number}
use Rattle.rules.proofs.Digits.{digit_small}
use Rattle.writing.specs.Digits.{digits_of}

-- a number with one digit after it, taken apart again
module _ (n d : ℕ) (h : d < 10) where
  pub tens_back : (n * 10 + d) / 10 ≡ n
  tens_back = omega arith

  pub ones_back : (n * 10 + d) % 10 ≡ d
  ones_back = omega arith

-- a digit is 48 and what it counts
pub digit_back : (b : ℕ) → digit b ≡ true → 48 + digit_value b ≡ b
digit_back b e = omega (arith, leb-true 48 b (and_left (leb 48 b) (leb b 57) e))

-- digits that spell a number after w digits of another are written after them
pub digits_after : (w n : ℕ) (xs : List ℕ) → all digit xs ≡ true → digits_of (w + length xs) (number_from n xs) ≡ digits_of w n ++ xs
unfolding all number_from digits_of
digits_after w n [] e = rw (add-zero w) (sym (append-nil (digits_of w n)))
digits_after w n (x ∷ xs) e =
    let d = and_left (digit x) (all digit xs) e in
    let small = digit_small x d in
    let ih = digits_after (suc w) (n * 10 + digit_value x) xs (and_right (digit x) (all digit xs) e) in
    let l : w + suc (length xs) ≡ suc w + length xs = omega arith in
    rw l
    (ih ∙ rw (tens_back n (digit_value x) small, ones_back n (digit_value x) small, digit_back x d) (append_assoc (digits_of w n) (x ∷ []) xs))

-- w digits are the last w digits of the number that they spell
pub digits_back : (w : ℕ) (xs : List ℕ) → length xs ≡ w → all digit xs ≡ true → digits_of w (number xs) ≡ xs
unfolding digits_of
digits_back w xs l e =
    let z : w ≡ 0 + length xs = omega arith in
    rw z (digits_after 0 0 xs e)
