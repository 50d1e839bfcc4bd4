-- The roster in lent bytes (RULES 6.5): whole entries, at most 64; the first entry with an account speaks for it.
use Rattle.std.specs.Prelude.{ℕ, ◌+◌, ◌*◌, ◌/◌, ◌%◌, Bool, ◌&&◌, List, eqb, leb, length, None, Option, Some}
use Rattle.std.proofs.Math.Seq.{slice}
use Rattle.cells.specs.Bytes.{same}
use Rattle.cells.specs.Little.{le_at}
use Rattle.cells.specs.Search.{first_from}

-- an entry is 16 bytes: address 10, qualifier 2, ceiling 4; the first two are the account
abbrev pub entry_width : ℕ
entry_width = 16

abbrev pub address_width : ℕ
address_width = 10

abbrev pub qualifier_width : ℕ
qualifier_width = 2

abbrev pub account_width : ℕ
account_width = 12

abbrev pub ceiling_width : ℕ
ceiling_width = 4

-- the most entries
abbrev pub most_schools : ℕ
most_schools = 64

-- the highest ceiling that an entry can state
abbrev pub highest_ceiling : ℕ
highest_ceiling = 4294967295

-- how many whole entries there are
unfoldable pub entries : List ℕ → ℕ
entries roster = length roster / entry_width

-- whole entries and nothing more, at most 64; there may be none
unfoldable pub roster_sound : List ℕ → Bool
roster_sound roster = eqb (length roster % entry_width) 0 && leb (entries roster) most_schools

-- the account of an entry, and whether it is this one
unfoldable pub account_at : List ℕ → ℕ → List ℕ
account_at roster i = slice (entry_width * i) (entry_width * i + account_width) roster

unfoldable pub account_is : List ℕ → List ℕ → ℕ → Bool
account_is roster account i = same (account_at roster i) account

-- the ceiling of an entry
unfoldable pub ceiling_at : List ℕ → ℕ → ℕ
ceiling_at roster i = le_at roster (entry_width * i + account_width) ceiling_width

-- the first entry with an account
unfoldable pub find_account : List ℕ → List ℕ → Option ℕ
find_account roster account = first_from (account_is roster account) (entries roster) 0

-- an entry that is found has a ceiling; where none is, the account is not on the roster
unfoldable pub standing_at : List ℕ → Option ℕ → Option ℕ
standing_at roster None = None
standing_at roster (Some i) = Some (ceiling_at roster i)

-- what the roster says of an account
unfoldable pub standing : List ℕ → List ℕ → Option ℕ
standing roster account = standing_at roster (find_account roster account)
