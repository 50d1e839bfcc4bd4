-- The roster in bytes and the roster as an array of schools, the statement: both say the same of an account.
use Rattle.std.specs.Prelude.{ℕ, ◌≡◌, ◌⊎◌, List, ◌++◌, leb, length, None}
use Rattle.cells.specs.Bytes.{pick}
use Rattle.roster.specs.Roster.{address_width, qualifier_width, most_schools, roster_sound, standing}
use Rattle.roster.specs.Schools.{standing_of, not_told, told_of, account_told, bytes_of, AllFormed}
use Rattle.roster.specs.declared.schools.School.{School}

-- of schools as they stand in memory
pub record Agreement : Type 0 where
  -- an account stands on the bytes as it stands among the schools
  pub standings : (ss : List School) (address qualifier : List ℕ) → AllFormed ss → length address ≡ address_width
      → standing (bytes_of ss) (address ++ qualifier) ≡ standing_of ss address qualifier
  -- the bytes are a roster just where there are at most 64 schools
  pub rosters : (ss : List School) → AllFormed ss → roster_sound (bytes_of ss) ≡ leb (length ss) most_schools
  -- an address of another length than 10, or a qualifier of another than 2, is on no roster
  pub lengths : (ss : List School) (address qualifier : List ℕ) → AllFormed ss → (length address ≡ address_width → ⊥) ⊎ (length qualifier ≡ qualifier_width → ⊥)
      → standing_of ss address qualifier ≡ None
  -- so what is told of an account is told by the bytes
  pub tellings : (ss : List School) (address qualifier : List ℕ) → AllFormed ss → length address ≡ address_width
      → account_told ss address qualifier ≡ pick (roster_sound (bytes_of ss)) (told_of (standing (bytes_of ss) (address ++ qualifier))) (not_told 20)
