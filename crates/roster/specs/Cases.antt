-- Cases of the roster: which entry speaks, sizes, and what is told of an account in both forms.
use Rattle.std.specs.Prelude.{ℕ, ◌*◌, Bool, true, false, List, [], ◌∷◌, ◌++◌, replicate, take, None, Option, Some}
use Prim.Native.String.{String}
use Rattle.cells.specs.Bytes.{bytes}
use Rattle.cells.specs.Little.{le_bytes}
use Rattle.roster.specs.Roster.{entry_width, ceiling_width, roster_sound, standing}
use Rattle.roster.specs.Schools.{account_told}
use Rattle.roster.specs.declared.schools.School.{School}
use Rattle.roster.specs.declared.schools.AccountTold.{AccountTold}

-- an entry in bytes: an account, twelve letters long, and a ceiling
abbrev pub entry : String → ℕ → List ℕ
entry account ceiling = bytes account ++ le_bytes ceiling_width ceiling

-- three schools, the last of them an account that stands already
abbrev pub three : List ℕ
three = entry "43210     VD" 500 ++ (entry "43211     VD" 70000 ++ entry "43210     VD" 9)

-- an account in its place, at the end, twice, under another qualifier, one byte off, cut short, and on no roster at all
unfoldable pub standings : List (Option ℕ)
standings =
    standing three (bytes "43211     VD")
    ∷ standing (entry "43211     VD" 7 ++ three) (bytes "43210     VD")
    ∷ standing three (bytes "43210     VD")
    ∷ standing three (bytes "43210     IB")
    ∷ standing three (bytes "43201     VD")
    ∷ standing three (bytes "43211     V")
    ∷ standing [] (bytes "43210     VD")
    ∷ standing (entry "43210     VD" 4294967295) (bytes "43210     VD")
    ∷ []

unfoldable pub standings_are : List (Option ℕ)
standings_are = Some 70000 ∷ Some 500 ∷ Some 500 ∷ None ∷ None ∷ None ∷ None ∷ Some 4294967295 ∷ []

-- sizes: none, one, 64 and 65 entries, and one byte less and more than whole entries
unfoldable pub sizes : List Bool
sizes =
    roster_sound []
    ∷ roster_sound (take entry_width three)
    ∷ roster_sound (replicate (64 * entry_width) 0)
    ∷ roster_sound (replicate (65 * entry_width) 0)
    ∷ roster_sound (take 15 three)
    ∷ roster_sound (take 17 three)
    ∷ roster_sound (take 47 three)
    ∷ []

unfoldable pub sizes_are : List Bool
sizes_are = true ∷ true ∷ true ∷ false ∷ false ∷ false ∷ false ∷ []

-- the same schools as an array
abbrev pub school : String → String → ℕ → School
school address qualifier ceiling = record { address = bytes address; qualifier = bytes qualifier; ceiling = ceiling }

abbrev pub three_schools : List School
three_schools = school "43210     " "VD" 500 ∷ school "43211     " "VD" 70000 ∷ school "43210     " "VD" 9 ∷ []

abbrev told : ℕ → ℕ → AccountTold
told answer ceiling = record { answer = answer; place = 0; ceiling = ceiling }

-- two accounts, one that stands twice, another qualifier, the address's last blank moved to the qualifier, no schools, 64 and 65 of them
unfoldable pub tellings : List AccountTold
tellings =
    account_told three_schools (bytes "43211     ") (bytes "VD")
    ∷ account_told three_schools (bytes "43210     ") (bytes "VD")
    ∷ account_told three_schools (bytes "43210     ") (bytes "IB")
    ∷ account_told three_schools (bytes "43210    ") (bytes " VD")
    ∷ account_told [] (bytes "43210     ") (bytes "VD")
    ∷ account_told (replicate 63 (school "43211     " "VD" 1) ++ take 1 three_schools) (bytes "43210     ") (bytes "VD")
    ∷ account_told (replicate 64 (school "43211     " "VD" 1) ++ take 1 three_schools) (bytes "43210     ") (bytes "VD")
    ∷ []

unfoldable pub tellings_are : List AccountTold
tellings_are = told 0 70000 ∷ told 0 500 ∷ told 24 0 ∷ told 24 0 ∷ told 24 0 ∷ told 0 500 ∷ told 20 0 ∷ []
