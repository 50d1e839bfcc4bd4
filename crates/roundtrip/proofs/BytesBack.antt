-- Bytes that keep a field's rule and are read as a value, written again.
use mathlib.Core.Path.{◌≡◌, ◌∙◌, ap}
use mathlib.Core.Bool.{true, ◌&&◌}
use mathlib.Core.List.{List}
use Prim.Native.Nat.{ℕ, ◌+◌, ◌^◌, ◌≤◌, ◌<◌}
use native.Mathlib.Nat.{zero-add}
use native.Mathlib.Omega.{arith}
use borrow.Author.Tests.{lt-ltb, leb-true, eqb-true, ne_eqb}
use lib.Dec.{eqb, leb, lit<}
use lib.ListN.{length, take, replicate}
use lib.Seq.{slice, take_all, length-slice}
use Rattle.cells.specs.Bytes.{within, all}
use Rattle.cells.proofs.Bools.{split, and_left, and_right}
use Rattle.cells.proofs.Parts.{parts_join}
use Rattle.cells.proofs.Lists.{all_weaker, all_take, all_drop}
use Rattle.signs.specs.Class.{belongs, all_of, of_class, digit}
use Rattle.rules.specs.Number.{number_from, number}
use Rattle.rules.specs.Day.{real_day, day_of, day_width, is_day, dated, day_kept}
use Rattle.rules.specs.Rule.{expected}
use Rattle.rules.specs.Values.{expected_of}
use Rattle.signs.specs.declared.Class.{Class}
use Rattle.signs.specs.declared.Class.TheVariants.{Digit, Blank, Zero}
use Rattle.rules.proofs.Days.{dated_day, kept_day}
use Rattle.rules.proofs.Digits.{width}
use Rattle.signs.proofs.Fits.{at_most}
use Rattle.writing.specs.Digits.{digits_of, number_bytes}
use Rattle.writing.specs.Typed.{day_digits, day_bytes, is_no_day, delivery_day_bytes, expected_bytes}
use Rattle.roundtrip.proofs.Sequences.{all_one}
use Rattle.roundtrip.proofs.NumbersBack.{digits_back}
use Rattle.roundtrip.proofs.ValuesBack.{first_year_law}

-- what exactly w bytes of a class are
module _ (c : Class) (w : ℕ) (s : List ℕ) (e : of_class c w w s ≡ true) where
  pub of_length : length s ≡ w
  unfolding of_class
  of_length =
      let l = leb-true w (length s) (and_left _ (leb (length s) w) (and_left _ (all_of c s) e)) in
      let m = at_most c w w s e in
      omega arith

  pub of_all : all_of c s ≡ true
  unfolding of_class
  of_all = and_right (within w w (length s)) _ e

-- w digits, read as a number
pub number_bytes_law : (w : ℕ) (s : List ℕ) → of_class Digit w w s ≡ true → number_bytes w (number s) ≡ s
unfolding number_bytes all_of belongs
number_bytes_law w s e =
    let l = of_length Digit w s e in
    let a : all digit s ≡ true = of_all Digit w s e in
    let k : number s < 10 ^ w = rw (zero-add, l) at (width 0 0 s (lit< tt) a) in
    rw (lt-ltb (number s) (10 ^ w) k) (digits_back w s l a)

-- w zeros are w digits
pub zeros_digits : (w : ℕ) (s : List ℕ) → of_class Zero w w s ≡ true → of_class Digit w w s ≡ true
unfolding of_class all_of belongs
zeros_digits w s e =
    let a = all_weaker (λ (b : ℕ). eqb b 48) digit (λ b q. rw (eqb-true b 48 q)) s (of_all Zero w s e) in
    rw (and_left (within w w (length s)) _ e, a)

-- w zeros, and w blanks, are one byte over and over
pub zeros_are : (w : ℕ) (s : List ℕ) → of_class Zero w w s ≡ true → s ≡ replicate w 48
unfolding all_of belongs
zeros_are w s e = all_one 48 s (of_all Zero w s e) ∙ ap (λ (n : ℕ). replicate n 48) (of_length Zero w s e)

pub blanks_are : (w : ℕ) (s : List ℕ) → of_class Blank w w s ≡ true → s ≡ replicate w 32
unfolding all_of belongs
blanks_are w s e = all_one 32 s (of_all Blank w s e) ∙ ap (λ (n : ℕ). replicate n 32) (of_length Blank w s e)

-- eight digits of a real day
module _ (s : List ℕ) (e : is_day s ≡ true) where
  eight : length s ≡ 8
  unfolding is_day
  eight = eqb-true (length s) 8 (and_left _ (all_of Digit s && real_day (day_of s)) e)

  all_digits : all digit s ≡ true
  unfolding is_day all_of belongs
  all_digits = and_left _ (real_day (day_of s)) (and_right (eqb (length s) 8) _ e)

  real : real_day (day_of s) ≡ true
  unfolding is_day
  real = and_right (all_of Digit s) _ (and_right (eqb (length s) 8) _ e)

  -- the digits of a part of the day
  part_digits : (at w : ℕ) → at + w ≤ 8 → digits_of w (number (slice at (at + w) s)) ≡ slice at (at + w) s
  part_digits at w h =
      let l = eight in
      let k : at + w ≤ length s = omega arith in
      digits_back w (slice at (at + w) s) (rw (length-slice at (at + w) s k) (omega arith)) (all_drop digit at (take (at + w) s) (all_take digit (at + w) s all_digits))

  day_digits_law : day_digits (day_of s) ≡ s
  unfolding day_digits day_of
  day_digits_law =
      rw (part_digits 0 4 (omega arith), part_digits 4 2 (omega arith), part_digits 6 2 (omega arith), parts_join 4 2 2 s, parts_join 0 4 4 s)
      (take_all 8 s (omega (arith, eight)))

  -- so they are the bytes of the day that is kept
  pub day_bytes_law : day_bytes (day_kept s) ≡ s
  unfolding day_bytes
  day_bytes_law = rw (kept_day s e, real) day_digits_law

  -- in a goods record
  pub goods_day_bytes : delivery_day_bytes (day_kept s) ≡ s
  unfolding delivery_day_bytes is_no_day
  goods_day_bytes =
      let k = ap real_day (kept_day s e) ∙ real in
      rw (ne_eqb (day_kept s).year 0 (λ q. omega (arith, first_year_law (day_kept s) k))) day_bytes_law

  -- as an expected date
  on_day_bytes : expected_bytes (expected_of s) ≡ s
  unfolding expected_bytes expected_of
  on_day_bytes = rw (dated_day s e) (rw (kept_day s e) at day_bytes_law)

-- eight zeros, the date of a closing record
pub closing_day_bytes : (s : List ℕ) → of_class Zero day_width day_width s ≡ true → delivery_day_bytes (day_kept s) ≡ s
unfolding delivery_day_bytes is_no_day dated is_day real_day all_of all belongs day_of number_from
closing_day_bytes s e = rw (zeros_are day_width s e)

-- eight zeros, and eight blanks, where a date may be expected
zeros_expected : (s : List ℕ) → of_class Zero day_width day_width s ≡ true → expected_bytes (expected_of s) ≡ s
unfolding expected_bytes expected_of dated is_day real_day all_of all belongs day_of number_from
zeros_expected s e = rw (zeros_are day_width s e)

blanks_expected : (s : List ℕ) → of_class Blank day_width day_width s ≡ true → expected_bytes (expected_of s) ≡ s
unfolding expected_bytes expected_of dated is_day real_day all_of all belongs day_of number_from
blanks_expected s e = rw (blanks_are day_width s e)

-- an expected date: a day, eight zeros or eight blanks
pub expected_bytes_law : (s : List ℕ) → expected s ≡ true → expected_bytes (expected_of s) ≡ s
unfolding expected
expected_bytes_law s e =
    split (is_day s) (λ q. on_day_bytes s q)
    (λ q. split (of_class Zero day_width day_width s) (λ z. zeros_expected s z) (λ z. blanks_expected s (rw (q, z) at e)))
