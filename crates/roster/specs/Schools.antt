-- The roster as a list of schools, what is told of an account (RULES 6.5, 8), and the bytes of a school.
use Rattle.std.specs.Prelude.{ℕ, ◌<◌, ◌^◌, ◌≡◌, Bool, ◌&&◌, List, [], ◌∷◌, ◌++◌, leb, length, get_or, None, Option, Some, Result, Ok, Err}
use Rattle.cells.specs.Bytes.{pick, same}
use Rattle.cells.specs.Little.{le_bytes}
use Rattle.cells.specs.Search.{first_from}
use Rattle.roster.specs.Roster.{address_width, qualifier_width, ceiling_width, most_schools}
use Rattle.roster.specs.declared.schools.School.{School}
use Rattle.roster.specs.declared.schools.AccountTold.{AccountTold}
use Rattle.roster.specs.declared.schools.Refused.{Refused}
use Rattle.roster.specs.declared.schools.Refused.TheVariants.{WrongRoom, NotOnRoster}

-- a school with nothing in it, which stands past the last
abbrev pub no_school : School
no_school = record { address = []; qualifier = []; ceiling = 0 }

-- the school has this account
unfoldable pub is_of : School → List ℕ → List ℕ → Bool
is_of s address qualifier = same s.address address && same s.qualifier qualifier

unfoldable pub is_account : List School → List ℕ → List ℕ → ℕ → Bool
is_account schools address qualifier i = is_of (get_or schools i no_school) address qualifier

-- the first school with an account
unfoldable pub find_school : List School → List ℕ → List ℕ → Option ℕ
find_school schools address qualifier = first_from (is_account schools address qualifier) (length schools) 0

-- the ceiling of the school with an index, 0 past the last
unfoldable pub ceiling_of : List School → ℕ → ℕ
ceiling_of schools i = (get_or schools i no_school).ceiling

-- what the schools say of an account
unfoldable pub standing_among : List School → Option ℕ → Option ℕ
standing_among schools None = None
standing_among schools (Some i) = Some (ceiling_of schools i)

unfoldable pub standing_of : List School → List ℕ → List ℕ → Option ℕ
standing_of schools address qualifier = standing_among schools (find_school schools address qualifier)

-- a refusal has no ceiling
unfoldable pub not_told : ℕ → AccountTold
not_told number = record { answer = number; place = 0; ceiling = 0 }

unfoldable pub told_of : Option ℕ → AccountTold
told_of (Some ceiling) = record { answer = 0; place = 0; ceiling = ceiling }
told_of None = not_told 24

-- what is told of an account: 20 first
unfoldable pub account_told : List School → List ℕ → List ℕ → AccountTold
account_told schools address qualifier = pick (leb (length schools) most_schools) (told_of (standing_of schools address qualifier)) (not_told 20)

-- the number of a refusal
abbrev pub refused_number : Refused → ℕ
refused_number WrongRoom = 20
refused_number NotOnRoster = 24

-- an account that does not stand among the schools is refused
abbrev pub said_of : Option ℕ → Result ℕ Refused
said_of (Some ceiling) = Ok ceiling
said_of None = Err NotOnRoster

-- what n schools say of an account that stands so among them: its ceiling, or why there is none
unfoldable pub said : ℕ → Option ℕ → Result ℕ Refused
said n standing = pick (leb n most_schools) (said_of standing) (Err WrongRoom)

-- and as it is told
unfoldable pub told_as : Result ℕ Refused → AccountTold
told_as (Ok ceiling) = told_of (Some ceiling)
told_as (Err refused) = not_told (refused_number refused)

-- the 16 bytes of a school
unfoldable pub bytes_of_one : School → List ℕ
bytes_of_one s = (s.address ++ s.qualifier) ++ le_bytes ceiling_width s.ceiling

unfoldable pub bytes_of : List School → List ℕ
bytes_of [] = []
bytes_of (s ∷ ss) = bytes_of_one s ++ bytes_of ss

-- what the type says of a school in memory: ten bytes, two bytes, and a number of four
pub record Formed (s : School) : Type 0 where
  pub address_is : length s.address ≡ address_width
  pub qualifier_is : length s.qualifier ≡ qualifier_width
  pub ceiling_fits : s.ceiling < 2 ^ 32

abbrev pub AllFormed : List School → Type 0
AllFormed [] = Unit {0}
AllFormed (s ∷ ss) = Formed s × AllFormed ss
