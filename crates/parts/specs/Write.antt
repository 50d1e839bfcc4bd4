-- Writing a record with parts (RULES 5.4).
use Rattle.std.specs.Prelude.{ℕ, zero, suc, ◌+◌, ◌*◌, ◌/◌, min, Bool, not, ◌||◌, List, [], ◌∷◌, ◌++◌, eqb, ltb, length, drop, get_or, Err, Ok}
use Rattle.cells.specs.Bytes.{pick}
use Rattle.record.specs.Fields.{Optional}
use Rattle.record.specs.Read.{entry_width}
use Rattle.writing.specs.Write.{entries, Outcome, outcome, write}
use Rattle.parts.specs.Loops.{is_bundle, most_parts, are_loops}
use Rattle.parts.specs.Entries.{others_among}
use Rattle.parts.specs.Part.{part_width}
use Rattle.parts.specs.Fields.{lent_fields}
use Rattle.parts.specs.Answers.{not_written}
use Rattle.parts.specs.declared.answer.Refusal.TheVariants.{SmallRoom, Broken, TooMany}
use Rattle.parts.specs.Verdicts.{Verdict}

-- the contents of fields, one after the other, and the fields' entries in a table, where the first content stands at a place
unfoldable pub contents_of : List Optional → List ℕ
contents_of [] = []
contents_of (f ∷ fs) = f.content ++ contents_of fs

unfoldable pub listed : ℕ → List Optional → List ℕ
listed at [] = []
listed at (f ∷ fs) = f.id ∷ at ∷ length f.content ∷ listed (at + length f.content) fs

-- the first n entries of a table, for contents that stand so many bytes further on
unfoldable pub moved : ℕ → ℕ → List ℕ → List ℕ
moved by zero table = []
moved by (suc n) table = get_or table 0 0 ∷ (by + get_or table 1 0) ∷ get_or table 2 0 ∷ moved by n (drop entry_width table)

-- how many entries of a table are there, of so many
unfoldable pub entries_there : ℕ → List ℕ → ℕ
entries_there count table = min count (length table / entry_width)

-- all fields, those of a table and then more, as one table: the contents of the others stand before those that are lent
abbrev pub table_with : List Optional → List ℕ → ℕ → List ℕ
table_with more table count = moved (length (contents_of more)) (entries_there count table) table ++ listed 0 more

abbrev pub contents_with : List Optional → List ℕ → List ℕ
contents_with more contents = contents_of more ++ contents

-- writing (RULES 5.1) of all these fields
unfoldable pub write_with : List Optional → List ℕ → List ℕ → ℕ → List ℕ → List ℕ → Outcome
write_with more fixed table count contents out = write fixed (table_with more table count) (count + length more) (contents_with more contents) out

-- an entry of the table begins a loop
unfoldable pub has_loop : List ℕ → ℕ → Bool
has_loop table count = ltb (others_among (entries (entries_there count table) table)) (entries_there count table)

-- 26: parts and no bundle; a bundle and no parts, or a loop begun in the table
unfoldable pub is_misplaced : List ℕ → List ℕ → ℕ → ℕ → Bool
is_misplaced fixed table count n = pick (is_bundle fixed) (eqb n 0 || has_loop table count) (ltb 0 n)

-- or a loop with another qualifier than it asks for
unfoldable pub is_broken : List ℕ → List ℕ → ℕ → List ℕ → ℕ → Bool
is_broken fixed table count parts n = is_misplaced fixed table count n || not (are_loops n (lent_fields n parts 0))

-- 27, 23, 26
unfoldable pub parts_refused : List ℕ → List ℕ → ℕ → List ℕ → ℕ → Verdict
parts_refused fixed table count parts n =
    pick (ltb most_parts n) (Err TooMany)
    (pick (ltb (length parts) (n * part_width)) (Err SmallRoom)
    (pick (is_broken fixed table count parts n) (Err Broken)
    (Ok n)))

-- then the rest over all fields
unfoldable pub written_with : Verdict → List ℕ → List ℕ → ℕ → List ℕ → List ℕ → List ℕ → Outcome
written_with (Err r) fixed table count contents parts out = outcome (not_written r) out
written_with (Ok n) fixed table count contents parts out = write_with (lent_fields n parts 0) fixed table count contents out

unfoldable pub write_parts : List ℕ → List ℕ → ℕ → List ℕ → List ℕ → ℕ → List ℕ → Outcome
write_parts fixed table count contents parts n out =
    written_with (parts_refused fixed table count parts n) fixed table count contents parts out
