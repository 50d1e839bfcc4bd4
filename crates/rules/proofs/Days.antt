-- Days, by the tests that the code makes.
use mathlib.Core.Path.{◌≡◌, ◌∙◌, ap, sym, refl}
use mathlib.Core.Bool.{true, false, ◌&&◌}
use mathlib.Core.List.{List}
use Prim.Native.Nat.{ℕ, zero, suc, ◌+◌, ◌/◌, ◌%◌, ◌≤◌}
use native.Mathlib.Omega.{arith}
use borrow.Author.Tests.{eq-eqb, ne_eqb}
use lib.ListN.{length, get_or}
use lib.Seq.{slice, take_all}
use Rattle.cells.specs.Bytes.{all}
use Rattle.cells.proofs.Bools.{split, and_true}
use Rattle.cells.proofs.Parts.{next, nothing}
use Rattle.signs.specs.Class.{digit, belongs, all_of}
use Rattle.rules.specs.Day.{day_width, month_lengths, day_of, real_day, is_day, dated, day_kept}
use Rattle.signs.specs.declared.Class.TheVariants.{Digit}
use Rattle.rules.specs.declared.day.Day.{Day}
use Rattle.std.specs.Prelude.{Some, None}

-- what digits are judged to be, by the first test that fails (their number, each byte, the day), and what is so of them then
module _ (s : List ℕ) where
  -- not eight bytes
  pub dated_long : (length s ≡ 8 → ⊥) → dated s ≡ None
  unfolding dated is_day
  dated_long h = rw (ne_eqb (length s) 8 h)

  -- eight bytes, and one is no digit
  pub dated_other : length s ≡ 8 → all_of Digit s ≡ false → dated s ≡ None
  unfolding dated is_day
  dated_other h e = rw (eq-eqb (length s) 8 h, e)

  -- eight digits, and there is no such day
  pub dated_unreal : length s ≡ 8 → all_of Digit s ≡ true → real_day (day_of s) ≡ false → dated s ≡ None
  unfolding dated is_day
  dated_unreal h e f = rw (eq-eqb (length s) 8 h, e, f)

  -- eight digits of a real day
  pub dated_real : length s ≡ 8 → all_of Digit s ≡ true → real_day (day_of s) ≡ true → dated s ≡ Some (day_of s)
  unfolding dated is_day
  dated_real h e f = rw (eq-eqb (length s) 8 h, e, f)

  -- a day is judged to be its own, and kept
  pub dated_day : is_day s ≡ true → dated s ≡ Some (day_of s)
  unfolding dated
  dated_day e = rw e

  pub kept_day : is_day s ≡ true → day_kept s ≡ day_of s
  kept_day e = rw (dated_day e)

  -- judged to be a real day, they are a day
  pub real_day_law : (d : Day) → dated s ≡ Some d → is_day s ≡ true
  unfolding dated
  real_day_law d h = split (is_day s) (λ e. e) (λ e. let z = rw e at h in cc)

  -- judged to be none, they are none
  pub no_day_law : dated s ≡ None → is_day s ≡ false
  unfolding dated
  no_day_law h = split (is_day s) (λ e. let z = rw e at h in cc) (λ e. e)

-- the months other than the second have 31 and 30 days in turn, the seventh and the eighth both 31
pub long_month : (m : ℕ) → (m ≡ 2 → ⊥) → 1 ≤ m → m ≤ 12 → 30 + (m + m / 8) % 2 ≡ get_or month_lengths m 0
long_month zero ne l h = absurd (omega arith)
long_month (suc zero) ne l h = refl
long_month (suc (suc zero)) ne l h = absurd (ne refl)
long_month (suc (suc (suc zero))) ne l h = refl
long_month (suc (suc (suc (suc zero)))) ne l h = refl
long_month (suc (suc (suc (suc (suc zero))))) ne l h = refl
long_month (suc (suc (suc (suc (suc (suc zero)))))) ne l h = refl
long_month (suc (suc (suc (suc (suc (suc (suc zero))))))) ne l h = refl
long_month (suc (suc (suc (suc (suc (suc (suc (suc zero)))))))) ne l h = refl
long_month (suc (suc (suc (suc (suc (suc (suc (suc (suc zero))))))))) ne l h = refl
long_month (suc (suc (suc (suc (suc (suc (suc (suc (suc (suc zero)))))))))) ne l h = refl
long_month (suc (suc (suc (suc (suc (suc (suc (suc (suc (suc (suc zero))))))))))) ne l h = refl
long_month (suc (suc (suc (suc (suc (suc (suc (suc (suc (suc (suc (suc zero)))))))))))) ne l h = refl
long_month (suc (suc (suc (suc (suc (suc (suc (suc (suc (suc (suc (suc (suc m))))))))))))) ne l h = absurd (omega arith)

-- eight bytes are digits where each of them is one
pub eight_digits : (s : List ℕ) → length s ≡ day_width
    → all_of Digit s ≡ digit (get_or s 0 0) && (digit (get_or s 1 0) && (digit (get_or s 2 0) && (digit (get_or s 3 0) && (digit (get_or s 4 0) && (digit (get_or s 5 0) && (digit (get_or s 6 0) && digit (get_or s 7 0)))))))
unfolding all_of all belongs
eight_digits s h =
    let whole : slice 0 8 s ≡ s = take_all 8 s (omega arith) in
    ap (all_of Digit) (sym whole)
    ∙ rw (next s 0 8 (omega arith) (omega arith), next s 1 8 (omega arith) (omega arith), next s 2 8 (omega arith) (omega arith), next s 3 8 (omega arith) (omega arith), next s 4 8 (omega arith) (omega arith), next s 5 8 (omega arith) (omega arith), next s 6 8 (omega arith) (omega arith), next s 7 8 (omega arith) (omega arith), nothing 8 8 s (omega arith), and_true (digit (get_or s 7 0))) refl
