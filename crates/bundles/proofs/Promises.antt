-- What the promises of reading and writing parts give: two results that satisfy one are equal, and a refusal changes nothing lent.
use mathlib.Core.Path.{◌≡◌, ◌∙◌, ap, sym, refl}
use mathlib.Core.Bool.{Bool, true, false}
use mathlib.Core.List.{List}
use Prim.Native.Nat.{ℕ, ◌+◌, ◌*◌}
use lib.Dec.{ltb}
use lib.ListN.{length}
use Rattle.cells.specs.Bytes.{pick}
use Rattle.record.specs.Fields.{Optional}
use Rattle.record.specs.Read.{judged, optional_fields}
use Rattle.record.specs.Verdicts.{Verdict as Judged}
use Rattle.std.specs.Prelude.{Err, Ok}
use Rattle.writing.specs.Write.{Outcome, outcome}
use Rattle.writing.specs.declared.answer.Written.{Written}
use Rattle.roundtrip.proofs.Promises.{refusal_keeps}
use Rattle.parts.specs.Loops.{is_bundle, most_parts}
use Rattle.parts.specs.Part.{part_width}
use Rattle.parts.specs.Fields.{lent_fields}
use Rattle.parts.specs.Answers.{read_of}
use Rattle.parts.specs.Read.{parts_judged, Outcome as Read, outcome as told, room_after, bundle_read, read_parts}
use Rattle.parts.specs.Write.{table_with, contents_with, write_with, parts_refused, written_with, write_parts}
use Rattle.parts.specs.declared.answer.Refusal.TheVariants.{SmallRoom}
use Rattle.parts.specs.Verdicts.{Verdict}
use Rattle.parts.specs.declared.answer.PartsRead.{PartsRead}

-- the answer, place and number of parts, and the room at exit, are fixed by what is lent
pub parts_unique : (s room : List ℕ) (said said' : PartsRead) (exit exit' : List ℕ) → told said exit ≡ read_parts s room → told said' exit' ≡ read_parts s room
    → (said ≡ said') × (exit ≡ exit')
parts_unique s room said said' exit exit' p q =
    let e = p ∙ sym q in
    (ap (λ (o : Read). o.said) e, ap (λ (o : Read). o.room) e)

-- and so are the answer, place and length, and the output at exit
pub write_parts_unique : (fixed table : List ℕ) (count : ℕ) (contents parts : List ℕ) (n : ℕ) (out : List ℕ) (said said' : Written) (exit exit' : List ℕ)
    → outcome said exit ≡ write_parts fixed table count contents parts n out
    → outcome said' exit' ≡ write_parts fixed table count contents parts n out
    → (said ≡ said') × (exit ≡ exit')
write_parts_unique fixed table count contents parts n out said said' exit exit' p q =
    let e = p ∙ sym q in
    (ap (λ (o : Outcome). o.said) e, ap (λ (o : Outcome). o.out) e)

-- a verdict that is not answered 0 leaves a room as it was
verdict_keeps : (v : Verdict) (fs : List Optional) (room : List ℕ) → ((read_of v).answer ≡ 0 → ⊥) → room_after v fs room ≡ room
unfolding read_of room_after
verdict_keeps (Err r) fs room h = refl
verdict_keeps (Ok n) fs room h = absurd (h refl)

record_keeps : (v : Judged) (s room : List ℕ) → ((bundle_read v s room).said.answer ≡ 0 → ⊥) → (bundle_read v s room).room ≡ room
unfolding bundle_read
record_keeps (Err r) s room h = refl
record_keeps (Ok n) s room h = verdict_keeps (parts_judged (is_bundle s) (optional_fields n s)) (optional_fields n s) room h

-- reading parts that does not answer 0 leaves the room as it was
pub parts_refusal_keeps : (s room : List ℕ) → ((read_parts s room).said.answer ≡ 0 → ⊥) → (read_parts s room).room ≡ room
unfolding read_parts
parts_refusal_keeps s room = go (ltb (length room) (most_parts * part_width))
  where
    go : (b : Bool) → let o = pick b (told (read_of (Err SmallRoom)) room) (bundle_read (judged s) s room) in (o.said.answer ≡ 0 → ⊥) → o.room ≡ room
    go true h = refl
    go false h = record_keeps (judged s) s room h

-- writing with parts that does not answer 0 leaves the output as it was
written_keeps : (v : Verdict) (fixed table : List ℕ) (count : ℕ) (contents parts out : List ℕ)
    → ((written_with v fixed table count contents parts out).said.answer ≡ 0 → ⊥)
    → (written_with v fixed table count contents parts out).out ≡ out
unfolding written_with write_with
written_keeps (Err r) fixed table count contents parts out h = refl
written_keeps (Ok n) fixed table count contents parts out h =
    refusal_keeps fixed (table_with (lent_fields n parts 0) table count) (count + length (lent_fields n parts 0)) (contents_with (lent_fields n parts 0) contents) out h

pub write_parts_refusal_keeps : (fixed table : List ℕ) (count : ℕ) (contents parts : List ℕ) (n : ℕ) (out : List ℕ)
    → ((write_parts fixed table count contents parts n out).said.answer ≡ 0 → ⊥)
    → (write_parts fixed table count contents parts n out).out ≡ out
unfolding write_parts
write_parts_refusal_keeps fixed table count contents parts n out h = written_keeps (parts_refused fixed table count parts n) fixed table count contents parts out h
