-- Demand 2 for parts, the statements: exactly the bundles that RULES 2.5 lays down are read into parts and written from them; parts read after writing are the same parts, and a record written from what was read of it is the same bytes.
use Rattle.std.specs.Prelude.{ℕ, ◌-◌, ◌*◌, ◌≤◌, ◌≡◌, true, false, List, ◌++◌, length, take, drop, Ok, Some}
use Rattle.record.specs.Layout.{fixed_width, kind_of}
use Rattle.record.specs.Fields.{Optional}
use Rattle.record.specs.Read.{entry_width, optional_fields}
use Rattle.record.specs.declared.layout.Kind.{Kind}
use Rattle.writing.specs.Write.{Outcome, outcome, entries, optional_of, record_text}
use Rattle.writing.specs.Widths.{all_inside}
use Rattle.roundtrip.specs.Record.{IsRecord, Makes}
use Rattle.roundtrip.specs.Demand2.{written, read_call, Tabled}
use Rattle.parts.specs.Loops.{is_bundle, loop_fields, most_parts, are_loops, others_in}
use Rattle.parts.specs.Part.{part_width, lent_parts}
use Rattle.parts.specs.Fields.{lent_fields}
use Rattle.parts.specs.Answers.{read_of}
use Rattle.parts.specs.Read.{Outcome as Read, read_parts}
use Rattle.parts.specs.Write.{is_misplaced, write_parts}
use Rattle.parts.specs.declared.part.Part.{Part}

-- the two calls that the demand speaks of, as their contracts fix them: `unpacking::read_parts` and `packing::write_parts`
abbrev pub parts_call : List ℕ → List ℕ → Read
parts_call s room = read_parts s room

abbrev pub write_parts_call : List ℕ → List ℕ → ℕ → List ℕ → List ℕ → ℕ → List ℕ → Outcome
write_parts_call fixed table count contents parts n out = write_parts fixed table count contents parts n out

-- a lent room is large enough for every bundle
abbrev pub LargeRoom : List ℕ → Type 0
LargeRoom room = most_parts * part_width ≤ length room

-- the fields of a bundle of n parts: others, none of which begins a loop, and then n loops, at least one and at most eight
pub record Bundled (fields : List Optional) (n : ℕ) : Type 0 where
  pub others : List Optional
  pub loops : List Optional
  pub in_order : fields ≡ others ++ loops
  pub none_begins : others_in others ≡ length others
  pub some : 1 ≤ n
  pub few : n ≤ most_parts
  pub so_many : length loops ≡ n * loop_fields
  pub loops_stand : are_loops n loops ≡ true

-- what a record has to be for n parts to be read from it: a bundle of them, or no bundle and none
pub record Parted (s : List ℕ) (n : ℕ) : Type 0 where
  pub count : ℕ
  pub fields_are_same : Tabled s (optional_fields count s)
  pub bundle : is_bundle s ≡ true → Bundled (optional_fields count s) n
  pub no_bundle : is_bundle s ≡ false → n ≡ 0

-- READ EXACTLY: reading parts answers 0 for the texts of records that are no bundle or a bundle as it should be, where the room is large, with the number of their parts, and for nothing else
pub record PartsReadExactly (s room : List ℕ) : Type 0 where
  pub only_records : (parts_call s room).said.answer ≡ 0 → LargeRoom room × IsRecord s × Parted s (parts_call s room).said.parts
  pub all_records : LargeRoom room → (n : ℕ) → IsRecord s → Parted s n → (parts_call s room).said ≡ read_of (Ok n)

-- reading the parts of a text with any large room is done, and these are the parts that then stand in the room
pub record PartsBack (text : List ℕ) (n : ℕ) (ps : List Part) : Type 0 where
  pub reads : (room : List ℕ) → LargeRoom room → (parts_call text room).said ≡ read_of (Ok n)
  pub same_parts : (room : List ℕ) → LargeRoom room → lent_parts n (parts_call text room).room 0 ≡ ps

-- what writing with parts needs: no more parts than may be, in the room, where they belong and with the qualifiers that a loop asks for; and with their fields behind those of the table a record that the output has room for
pub record CanWriteParts (fixed table : List ℕ) (count : ℕ) (contents parts : List ℕ) (n : ℕ) (out : List ℕ) : Type 0 where
  pub few : n ≤ most_parts
  pub lent : n * part_width ≤ length parts
  pub placed : is_misplaced fixed table count n ≡ false
  pub loops_stand : are_loops n (lent_fields n parts 0) ≡ true
  pub listed : count * entry_width ≤ length table
  pub inside : all_inside contents (entries count table) ≡ true
  pub makes : Makes fixed (optional_of contents (entries count table) ++ lent_fields n parts 0)
  pub room : length (record_text fixed (optional_of contents (entries count table) ++ lent_fields n parts 0)) ≤ length out

-- WRITE EXACTLY: writing with parts answers 0 where all that is there, and nowhere else; and then that record stands at the front of the output
pub record PartsWriteExactly (fixed table : List ℕ) (count : ℕ) (contents parts : List ℕ) (n : ℕ) (out : List ℕ) : Type 0 where
  pub only_records : (write_parts_call fixed table count contents parts n out).said.answer ≡ 0 → CanWriteParts fixed table count contents parts n out
  pub all_records : CanWriteParts fixed table count contents parts n out
      → write_parts_call fixed table count contents parts n out
      ≡ outcome (record { answer = 0; place = 0; length = length (record_text fixed (optional_of contents (entries count table) ++ lent_fields n parts 0)) })
      (record_text fixed (optional_of contents (entries count table) ++ lent_fields n parts 0)
      ++ drop (length (record_text fixed (optional_of contents (entries count table) ++ lent_fields n parts 0))) out)

-- READ AFTER WRITE: a text that was written with parts begins with the fixed part; reading its parts gives the same parts; and a check of it finds the table's fields, then the parts'
pub record PartsReadBack (fixed table : List ℕ) (count : ℕ) (contents parts : List ℕ) (n : ℕ) (text : List ℕ) : Type 0 where
  pub same_fixed : take (length fixed) text ≡ fixed
  pub same_parts : PartsBack text n (lent_parts n parts 0)
  pub fields_are_same : Tabled text (optional_of contents (entries count table) ++ lent_fields n parts 0)
  -- those of the table are as many as were given, and none of a bundle's begins a loop
  pub as_many : length (optional_of contents (entries count table)) ≡ count
  pub before_parts : is_bundle fixed ≡ true → others_in (optional_of contents (entries count table) ++ lent_fields n parts 0) ≡ count

-- WRITE AFTER READ: what writing says of a record s from which n parts were read, with the table that a check filled less ten fields for each part, the record itself as lent contents, and the parts as they stand in the room: done, and the same bytes stand at the front of the output
abbrev pub PartsWrittenBack : List ℕ → List ℕ → ℕ → List ℕ → List ℕ → ℕ → List ℕ → Type 0
PartsWrittenBack fixed table fields s room n out =
    write_parts_call fixed table (fields - n * loop_fields) s room n out ≡ outcome (record { answer = 0; place = 0; length = length s }) (s ++ drop (length s) out)

-- DEMAND 2 FOR PARTS, for all inputs and so for every number of parts, 0 to 8
pub record PartsDemand2 : Type 0 where
  -- reading parts answers 0 for records whose parts are as they should be, where the room is large, and for nothing else
  pub read_exactly : (s room : List ℕ) → PartsReadExactly s room
  -- writing with parts answers 0 where all fields make a record and the output has room for it, and nowhere else
  pub write_exactly : (fixed table : List ℕ) (count : ℕ) (contents parts : List ℕ) (n : ℕ) (out : List ℕ) → PartsWriteExactly fixed table count contents parts n out
  -- read after write gives the parts, and the table's fields before them
  pub read_after_write : (fixed table : List ℕ) (count : ℕ) (contents parts : List ℕ) (n : ℕ) (out : List ℕ)
      → (write_parts_call fixed table count contents parts n out).said.answer ≡ 0
      → PartsReadBack fixed table count contents parts n (written (write_parts_call fixed table count contents parts n out))
  -- write after read gives the bytes
  pub write_after_read : (k : Kind) (s table room out : List ℕ) → kind_of s ≡ Some k → (read_call s table).said.answer ≡ 0
      → (parts_call s room).said.answer ≡ 0 → length s ≤ length out
      → PartsWrittenBack (take (fixed_width k) s) (read_call s table).table (read_call s table).said.fields s (parts_call s room).room (parts_call s room).said.parts out
