-- Values that are written into a field, read back: a value outside its range is written as bytes that are not allowed.
use mathlib.Core.Path.{◌≡◌, ◌∙◌, ap, sym, refl}
use mathlib.Core.Bool.{true, ◌&&◌, false≢true}
use mathlib.Core.List.{List}
use Prim.Native.Nat.{ℕ, zero, suc, ◌^◌, ◌≤◌, ◌<◌}
use native.Mathlib.Omega.{arith}
use borrow.Author.Tests.{ltb-true, ltb-false, leb-true, eqb-true, ne_eqb}
use lib.Dec.{eqb, leb, ltb}
use lib.ListN.{length, get_or, replicate, get_or-eq_default}
use Rattle.cells.specs.Bytes.{within, all}
use Rattle.cells.proofs.Bools.{split, and_left, and_right}
use Rattle.cells.proofs.Lists.{all_append}
use Rattle.signs.specs.Class.{belongs, all_of}
use Rattle.rules.specs.Number.{number_from, number}
use Rattle.rules.specs.Day.{first_year, last_year, leap, month_lengths, month_days, real_day, day_of, day_width, is_day, dated, day_kept}
use Rattle.rules.specs.Values.{expected_of}
use Rattle.signs.specs.declared.Class.TheVariants.{Digit, Allowed}
use Rattle.rules.specs.declared.day.Day.{Day}
use Rattle.std.specs.Prelude.{Some}
use Rattle.rules.specs.declared.expected.Expected.{Expected}
use Rattle.rules.specs.declared.expected.Expected.TheVariants.{On, Zeros, Blanks}
use Rattle.signs.proofs.Runs.{all_at}
use Rattle.rules.proofs.Days.{dated_real}
use Rattle.writing.specs.Digits.{digits_of, unwritable, number_bytes}
use Rattle.writing.specs.Typed.{day_digits, day_bytes, is_no_day, delivery_day_bytes, expected_bytes}
use Rattle.roundtrip.proofs.DigitsBack.{digits_all, number_of_digits}

-- each byte of a list may stand in a record
abbrev pub AllAllowed : List ℕ → Type 0
AllAllowed s = all (belongs Allowed) s ≡ true

-- bytes that stand for no value are not allowed
pub not_allowed : (w : ℕ) → 0 < w → AllAllowed (unwritable w) → ⊥
unfolding unwritable all belongs
not_allowed zero h e = omega arith
not_allowed (suc w) h e = false≢true e

-- a number
pub number_back : (w n : ℕ) → 0 < w → AllAllowed (number_bytes w n) → number (number_bytes w n) ≡ n
unfolding number_bytes
number_back w n h a =
    split (ltb n (10 ^ w)) (λ e. rw e (number_of_digits w n (ltb-true n (10 ^ w) e))) (λ e. absurd (not_allowed w h (rw e at a)))

-- no month has more than 31 days, and past the twelfth there is none
length_most : (m : ℕ) → get_or month_lengths m 0 ≤ 31
unfolding all
length_most m =
    split (ltb m 13) (λ e. leb-true _ 31 (all_at (λ (n : ℕ). leb n 31) month_lengths m refl (ltb-true m 13 e)))
    (λ e. rw (get_or-eq_default month_lengths 0 (ltb-false m 13 e)) (omega arith))

days_most : (y m : ℕ) → month_days y m ≤ 31
unfolding month_days
days_most y m = split (eqb m 2 && leap y) (λ e. rw e (omega arith)) (λ e. rw e (length_most m))

month_most : (y m : ℕ) → 1 ≤ month_days y m → m ≤ 12
unfolding month_days
month_most y m h =
    split (ltb m 13) (λ e. omega (arith, ltb-true m 13 e))
    (λ e.
    let p : 13 ≤ m = ltb-false m 13 e in
    absurd (omega (arith, rw (ne_eqb m 2 (λ q. omega arith), get_or-eq_default month_lengths 0 p) at h)))

-- a day is written as eight digits
digits_eight : (d : Day) → length (day_digits d) ≡ day_width
unfolding day_digits digits_of
digits_eight d = refl

digits_only : (d : Day) → all_of Digit (day_digits d) ≡ true
unfolding day_digits all_of
digits_only d = rw (all_append, digits_all 4 d.year, all_append, digits_all 2 d.month, digits_all 2 d.day)

-- the parts of a real day have no more digits than are written
module _ (d : Day) (e : real_day d ≡ true) where
  real_year : within first_year last_year d.year ≡ true
  unfolding real_day
  real_year = and_left _ (within 1 (month_days d.year d.month) d.day) e

  real_day_law : within 1 (month_days d.year d.month) d.day ≡ true
  unfolding real_day
  real_day_law = and_right (within first_year last_year d.year) _ e

  pub first_year_law : 1 ≤ d.year
  first_year_law = leb-true 1 d.year (and_left _ (leb d.year last_year) real_year)

  last_year_law : d.year ≤ 9999
  last_year_law = leb-true d.year last_year (and_right (leb first_year d.year) _ real_year)

  last_day : (1 ≤ d.day) × (d.day ≤ month_days d.year d.month)
  last_day =
      let n = month_days d.year d.month in
      (leb-true 1 d.day (and_left _ (leb d.day n) real_day_law), leb-true d.day n (and_right (leb 1 d.day) _ real_day_law))

  -- so its digits are its own
  digits_of_day : day_of (day_digits d) ≡ d
  unfolding day_of day_digits digits_of
  digits_of_day =
      let l = last_day in
      let m = month_most d.year d.month (omega arith) in
      let n = days_most d.year d.month in
      λ i. record {
        year = number_of_digits 4 d.year (omega (arith, last_year_law)) i;
        month = number_of_digits 2 d.month (omega arith) i;
        day = number_of_digits 2 d.day (omega arith) i;
      }

  -- and eight of them, so they are judged to be the day
  judged_back : dated (day_digits d) ≡ Some d
  judged_back = dated_real (day_digits d) (digits_eight d) (digits_only d) (ap real_day digits_of_day ∙ e) ∙ ap Some digits_of_day

-- a day
pub day_back : (d : Day) → AllAllowed (day_bytes d) → day_kept (day_bytes d) ≡ d
unfolding day_bytes
day_back d a = split (real_day d) (λ e. rw (e, judged_back d e)) (λ e. absurd (not_allowed day_width (omega arith) (rw e at a)))

-- the date of a closing record
no_day_back : (d : Day) → is_no_day d ≡ true → day_kept (replicate day_width 48) ≡ d
unfolding is_no_day dated is_day real_day all_of all belongs day_of number_from
no_day_back d e =
    let y = eqb-true d.year 0 (and_left _ (eqb d.month 0 && eqb d.day 0) e) in
    let r = and_right (eqb d.year 0) (eqb d.month 0 && eqb d.day 0) e in
    let m = eqb-true d.month 0 (and_left _ (eqb d.day 0) r) in
    let n = eqb-true d.day 0 (and_right (eqb d.month 0) _ r) in
    λ i. record { year = sym y i; month = sym m i; day = sym n i }

-- a delivery's date
pub delivery_day_back : (d : Day) → AllAllowed (delivery_day_bytes d) → day_kept (delivery_day_bytes d) ≡ d
unfolding delivery_day_bytes
delivery_day_back d a = split (is_no_day d) (λ e. rw e (no_day_back d e)) (λ e. rw e (day_back d (rw e at a)))

-- an expected date
pub on_back : (d : Day) → real_day d ≡ true → expected_of (day_digits d) ≡ On d
unfolding expected_of
on_back d e = rw (judged_back d e)

pub expected_back : (x : Expected) → AllAllowed (expected_bytes x) → expected_of (expected_bytes x) ≡ x
unfolding expected_bytes day_bytes expected_of dated is_day real_day all_of all belongs day_of number_from
expected_back (On d) a = split (real_day d) (λ e. rw e (on_back d e)) (λ e. absurd (not_allowed day_width (omega arith) (rw e at a)))
expected_back Zeros a = refl
expected_back Blanks a = refl
