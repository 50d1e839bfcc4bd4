-- Days of the Gregorian calendar (RULES 1.3).
use Rattle.std.specs.Prelude.{ℕ, ◌%◌, Bool, not, ◌&&◌, ◌||◌, List, [], ◌∷◌, eqb, length, get_or, None, Option, Some}
use Rattle.std.proofs.Math.Seq.{slice}
use Rattle.cells.specs.Bytes.{pick, within}
use Rattle.signs.specs.Class.{all_of}
use Rattle.rules.specs.Number.{number}
use Rattle.signs.specs.declared.Class.TheVariants.{Digit}
use Rattle.rules.specs.declared.day.Day.{Day}

abbrev pub first_year : ℕ
first_year = 1

abbrev pub last_year : ℕ
last_year = 9999

-- every fourth year but the hundredth, and every four hundredth
unfoldable pub leap : ℕ → Bool
leap y = eqb (y % 4) 0 && (not (eqb (y % 100) 0) || eqb (y % 400) 0)

-- the days of the months 1 to 12 in a year that is no leap year
abbrev pub month_lengths : List ℕ
month_lengths = 0 ∷ 31 ∷ 28 ∷ 31 ∷ 30 ∷ 31 ∷ 30 ∷ 31 ∷ 31 ∷ 30 ∷ 31 ∷ 30 ∷ 31 ∷ []

-- the days of a month, 0 where there is no such month
unfoldable pub month_days : ℕ → ℕ → ℕ
month_days y m = pick (eqb m 2 && leap y) 29 (get_or month_lengths m 0)

unfoldable pub real_day : Day → Bool
real_day d = within first_year last_year d.year && within 1 (month_days d.year d.month) d.day

-- the parts of a day in eight digits: four of the year, two of the month, two of the day
unfoldable pub day_of : List ℕ → Day
day_of s = record { year = number (slice 0 4 s); month = number (slice 4 6 s); day = number (slice 6 8 s) }

abbrev pub day_width : ℕ
day_width = 8

unfoldable pub is_day : List ℕ → Bool
is_day s = eqb (length s) day_width && (all_of Digit s && real_day (day_of s))

-- a day as its constructor judges digits
unfoldable pub dated : List ℕ → Option Day
dated s = pick (is_day s) (Some (day_of s)) None

-- the day 0 of month 0 of year 0, which is no real day
abbrev pub no_day : Day
no_day = record { year = 0; month = 0; day = 0 }

-- a day as it was judged, and the day 0 where there is none
abbrev pub day_in : Option Day → Day
day_in (Some d) = d
day_in None = no_day

-- the day that a typed value keeps: as the constructor judged it, and the day 0 of month 0 of year 0 where there is none
abbrev pub day_kept : List ℕ → Day
day_kept s = day_in (dated s)
