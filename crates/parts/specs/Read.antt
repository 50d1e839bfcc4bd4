-- Reading the parts of a record into a lent room (RULES 4.5).
use Rattle.std.specs.Prelude.{ℕ, ◌*◌, Bool, List, ◌++◌, eqb, ltb, length, drop, Err, Ok}
use Rattle.cells.specs.Bytes.{pick}
use Rattle.record.specs.Answers.{refusal_number, refusal_place}
use Rattle.record.specs.Fields.{Optional}
use Rattle.record.specs.Read.{judged, optional_fields}
use Rattle.record.specs.Verdicts.{Verdict as Judged}
use Rattle.parts.specs.Loops.{is_bundle, most_parts, loops_of, loop_count, whole_loops}
use Rattle.parts.specs.Part.{part_width, parts_of, room_of}
use Rattle.parts.specs.Answers.{read_of}
use Rattle.parts.specs.declared.answer.Refusal.TheVariants.{SmallRoom, Broken, TooMany}
use Rattle.parts.specs.Verdicts.{Verdict}
use Rattle.parts.specs.declared.answer.PartsRead.{PartsRead}

-- 26, then 27, of fields that begin with a 1019, or of none
unfoldable pub loops_judged : List Optional → Verdict
loops_judged fs =
    pick (eqb (length fs) 0) (Err Broken)
    (pick (whole_loops fs) (pick (ltb most_parts (loop_count fs)) (Err TooMany) (Ok (loop_count fs)))
    (Err Broken))

-- the parts of a record with these fields; what is no bundle has none
unfoldable pub parts_judged : Bool → List Optional → Verdict
parts_judged bundle fs = pick bundle (loops_judged (loops_of fs)) (Ok 0)

-- what reading parts says, and the room afterwards
pub record Outcome : Type 0 where
  pub said : PartsRead
  pub room : List ℕ

abbrev pub outcome : PartsRead → List ℕ → Outcome
outcome r o = record { said = r; room = o }

-- the parts in front of the room, or the room as it was
unfoldable pub room_after : Verdict → List Optional → List ℕ → List ℕ
room_after (Err r) fs room = room
room_after (Ok n) fs room = room_of (parts_of n (loops_of fs)) ++ drop (n * part_width) room

abbrev pub parts_read : Verdict → List Optional → List ℕ → Outcome
parts_read v fs room = outcome (read_of v) (room_after v fs room)

-- 1 to 10, then by the fields
unfoldable pub bundle_read : Judged → List ℕ → List ℕ → Outcome
bundle_read (Err r) s room = outcome (record { answer = refusal_number r; place = refusal_place r; parts = 0 }) room
bundle_read (Ok n) s room = parts_read (parts_judged (is_bundle s) (optional_fields n s)) (optional_fields n s) room

-- 23, then the rest
unfoldable pub read_parts : List ℕ → List ℕ → Outcome
read_parts s room =
    pick (ltb (length room) (most_parts * part_width)) (outcome (read_of (Err SmallRoom)) room)
    (bundle_read (judged s) s room)
