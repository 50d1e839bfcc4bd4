-- The cases of the roster hold of the definitions, by computation.
use mathlib.Core.Path.{◌≡◌, refl}
use Rattle.cells.specs.Bytes.{same}
use Rattle.cells.specs.Little.{le_at, le_bytes}
use Rattle.cells.specs.Search.{first_from}
use Rattle.roster.specs.Roster.{entries, roster_sound, account_at, account_is, ceiling_at, find_account, standing_at, standing}
use Rattle.roster.specs.Schools.{is_of, is_account, find_school, ceiling_of, standing_among, standing_of, not_told, told_of, account_told, bytes_of_one, bytes_of}
use Rattle.roster.specs.Cases.{three, three_schools, standings, standings_are, sizes, sizes_are, tellings, tellings_are}

pub record Computed : Type 0 where
  -- which entry speaks for an account
  pub standing_cases : standings ≡ standings_are
  -- the schools of the cases are the entries of the cases
  pub form_cases : bytes_of three_schools ≡ three
  -- which sizes are a roster's
  pub size_cases : sizes ≡ sizes_are
  -- what is told of an account
  pub telling_cases : tellings ≡ tellings_are

pub computed : Computed
unfolding same le_at le_bytes first_from entries roster_sound account_at account_is ceiling_at find_account standing_at standing is_of is_account find_school ceiling_of standing_among standing_of not_told told_of account_told bytes_of_one bytes_of standings standings_are sizes sizes_are tellings tellings_are
computed = record { standing_cases = refl; form_cases = refl; size_cases = refl; telling_cases = refl }
