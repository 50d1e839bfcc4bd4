-- Demand 2 for parts, write after read: a record whose parts were read, written with them and the fields before them, gives the same bytes.
use mathlib.Core.Path.{◌≡◌, ◌∙◌, ap, ap₂, sym, refl, subst}
use mathlib.Core.Bool.{true, false}
use mathlib.Core.List.{List, [], ◌++◌}
use Prim.Native.Nat.{ℕ, ◌+◌, ◌-◌, ◌*◌, ◌≤◌}
use native.Mathlib.Omega.{arith}
use borrow.Author.Tests.{ne_eqb}
use lib.Dec.{eqb}
use lib.ListN.{length, take, drop, length-append, length-drop, take-append-drop, drop_of_length-le}
use lib.Seq.{take_at}
use Rattle.cells.proofs.Bools.{split}
use Rattle.record.specs.Layout.{fixed_width, kind_of}
use Rattle.record.specs.Answers.{checked_of}
use Rattle.record.specs.Fields.{Optional}
use Rattle.record.specs.Read.{entry_width, optional_fields}
use Rattle.record.specs.declared.answer.Checked.{Checked}
use Rattle.record.specs.declared.layout.Kind.{Kind}
use Rattle.std.specs.Prelude.{Some}
use Rattle.writing.specs.Write.{Outcome, outcome, entries, optional_of, record_text}
use Rattle.writing.specs.Widths.{all_inside}
use Rattle.writing.proofs.Halves.{fields_take, inside_take}
use Rattle.roundtrip.specs.Record.{Makes, CanWrite}
use Rattle.roundtrip.specs.Demand2.{read_call, write_call, WritesBack}
use Rattle.roundtrip.proofs.Whole.{Whole, made_whole}
use Rattle.roundtrip.proofs.ReadExactly.{table_large, fits_said, fits_table}
use Rattle.roundtrip.proofs.WriteExactly.{write_exactly}
use Rattle.roundtrip.proofs.WriteAfterRead.{write_after_read}
use Rattle.parts.specs.Loops.{is_bundle, loop_fields, most_parts, are_loops, others_in, loops_of}
use Rattle.parts.specs.Part.{part_width, parts_of, room_of}
use Rattle.parts.specs.Fields.{lent_fields}
use Rattle.parts.specs.Answers.{read_of}
use Rattle.parts.specs.Read.{Outcome as Read, room_after}
use Rattle.parts.specs.Write.{has_loop, is_misplaced}
use Rattle.bundles.specs.Demand2.{parts_call, write_parts_call, CanWriteParts, PartsWrittenBack}
use Rattle.bundles.proofs.Kept.{sound_drop}
use Rattle.bundles.proofs.LentBack.{room_length}
use Rattle.bundles.proofs.PartsBack.{all_stored, parts_length, loops_back}
use Rattle.bundles.proofs.Others.{others_most, others_front}
use Rattle.bundles.proofs.ReadDone.{Done, done, count_is, judged_bundle, judged_none}
use Rattle.bundles.proofs.Fronts.{bundle_front}
use Rattle.bundles.proofs.WriteDone.{can_done}
use Rattle.bundles.proofs.ReadAfterWrite.{whole_sound, begun_not}

-- a record of a kind that was checked with a table, and n parts of which were read into a room
module _ (k : Kind) (s table room out : List ℕ) (g : kind_of s ≡ Some k) (a : (read_call s table).said.answer ≡ 0) (d : Done s room) (long : length s ≤ length out) where
  abbrev fixed : List ℕ
  fixed = take (fixed_width k) s

  abbrev total : ℕ
  total = d.count

  abbrev n : ℕ
  n = d.n

  abbrev filled : List ℕ
  filled = (read_call s table).table

  abbrev fields : List Optional
  fields = optional_fields total s

  abbrev lent : List ℕ
  lent = room_of (parts_of n (loops_of fields)) ++ drop (n * part_width) room

  abbrev own : ℕ
  own = total - n * loop_fields

  counted : (read_call s table).said.fields ≡ total
  unfolding checked_of
  counted = ap (λ (c : Checked). c.fields) (fits_said s table (table_large s table a) total d.fits)

  -- plain writing gives the record back
  plain : WritesBack fixed filled total s out
  plain = subst (λ (m : ℕ). WritesBack fixed filled m s out) counted (write_after_read k s table out g a long)

  can : CanWrite fixed filled total s out
  can = (write_exactly fixed filled total s out).only_records (ap (λ (o : Outcome). o.said.answer) plain)

  -- so its fixed part and its fields are the record
  named : optional_of s (entries total filled) ≡ fields
  named = fits_table s table (table_large s table a) total d.fits

  text_same : record_text fixed fields ≡ s
  text_same =
      let t = record_text fixed fields in
      let w : write_call fixed filled total s out ≡ outcome (record { answer = 0; place = 0; length = length t }) (t ++ drop (length t) out) =
      (write_exactly fixed filled total s out).all_records can
      ∙ ap (λ (fs : List Optional). outcome (record { answer = 0; place = 0; length = length (record_text fixed fs) }) (record_text fixed fs ++ drop (length (record_text fixed fs)) out)) named in
      let e = sym w ∙ plain in
      let l : length t ≡ length s = ap (λ (o : Outcome). o.said.length) e in
      sym (take_at t (drop (length t) out) (length s) l) ∙ ap (λ (o : Outcome). take (length s) o.out) e ∙ take_at s (drop (length s) out) (length s) refl

  makes : Makes fixed fields
  makes = subst (Makes fixed) named can.makes

  whole : Whole makes.parts.kind fixed fields
  whole = made_whole fixed fields makes

  same_bundle : is_bundle s ≡ is_bundle fixed
  same_bundle = ap is_bundle (sym (take-append-drop (fixed_width k) s)) ∙ bundle_front makes.parts.kind fixed whole.named whole.wide (drop (fixed_width k) s)

  -- all fields are so many, of which the parts have ten each
  module _ (few : n * loop_fields ≤ total) where
    split_total : own + n * loop_fields ≡ total
    split_total = omega arith

    own_fields : optional_of s (entries own filled) ≡ take own fields
    own_fields =
        sym (fields_take s own (n * loop_fields) filled)
        ∙ ap (take own) (ap (λ (m : ℕ). optional_of s (entries m filled)) split_total ∙ named)

    own_inside : all_inside s (entries own filled) ≡ true
    own_inside = inside_take s own (n * loop_fields) filled (rw split_total can.lent)

    own_listed : own * entry_width ≤ length filled
    own_listed = omega (arith, can.listed)

    -- what writing with parts needs is there, where the parts are lent, placed and have the fields behind those
    module _ (most : n ≤ most_parts) (wide : n * part_width ≤ length lent) (placed : is_misplaced fixed filled own n ≡ false)
        (behind : lent_fields n lent 0 ≡ drop own fields) (loops : are_loops n (drop own fields) ≡ true) where
      together : optional_of s (entries own filled) ++ lent_fields n lent 0 ≡ fields
      together = ap₂ (λ (x y : List Optional). x ++ y) own_fields behind ∙ take-append-drop own fields

      can_parts : CanWriteParts fixed filled own s lent n out
      can_parts = record {
        few = most;
        lent = wide;
        placed = placed;
        loops_stand = ap (are_loops n) behind ∙ loops;
        listed = own_listed;
        inside = own_inside;
        makes = subst (Makes fixed) (sym together) makes;
        room = subst (λ (fs : List Optional). length (record_text fixed fs) ≤ length out) (sym together) (rw text_same long);
      }

      back : write_parts_call fixed filled own s lent n out ≡ outcome (record { answer = 0; place = 0; length = length s }) (s ++ drop (length s) out)
      back =
          can_done fixed filled own s lent n out can_parts
          ∙ ap (λ (t : List ℕ). outcome (record { answer = 0; place = 0; length = length t }) (t ++ drop (length t) out)) (ap (record_text fixed) together ∙ text_same)

  abbrev Back : Type 0
  Back = write_parts_call fixed filled own s lent n out ≡ outcome (record { answer = 0; place = 0; length = length s }) (s ++ drop (length s) out)

  -- a bundle
  bundle_back : is_bundle s ≡ true → Back
  unfolding loops_of is_misplaced
  bundle_back b =
      let l = judged_bundle s total n d.parts b in
      let o = others_most fields in
      let c = count_is s total in
      let len : length (drop (others_in fields) fields) ≡ n * loop_fields = l.long in
      let e : others_in fields ≡ own = omega (arith, length-drop (others_in fields) fields, len, o, c) in
      let few : n * loop_fields ≤ total = omega (arith, length-drop (others_in fields) fields, len, o, c) in
      let sound = sound_drop (others_in fields) fields (whole_sound makes.parts.kind fixed fields whole) in
      let stored = all_stored n (loops_of fields) l.are sound in
      let wide : n * part_width ≤ length lent =
      omega (arith, length-append (room_of (parts_of n (loops_of fields))) (drop (n * part_width) room), room_length (parts_of n (loops_of fields)) stored, parts_length n (loops_of fields)) in
      let begun : has_loop filled own ≡ false =
      begun_not fixed filled own n (own_listed few) s (ap others_in (own_fields few) ∙ ap (λ (m : ℕ). others_in (take m fields)) (sym e) ∙ others_front fields ∙ e) in
      let some : eqb n 0 ≡ false = ne_eqb n 0 (λ q. omega (arith, l.some, q)) in
      back few l.few wide (rw (← same_bundle, b, some, begun))
      (loops_back n (loops_of fields) lent 0 (drop (n * part_width) room) l.long l.are sound refl ∙ ap (λ (m : ℕ). drop m fields) e)
      (ap (λ (m : ℕ). are_loops n (drop m fields)) (sym e) ∙ l.are)

  -- what is none
  none_back : is_bundle s ≡ false → Back
  unfolding is_misplaced lent_fields are_loops
  none_back b =
      let z = judged_none s total n d.parts b in
      let c = count_is s total in
      let nothing : lent_fields n lent 0 ≡ [] = ap (λ (m : ℕ). lent_fields m lent 0) z in
      let nor : drop own fields ≡ [] = drop_of_length-le fields {i = own} (omega (arith, c, z)) in
      back (omega (arith, z)) (omega (arith, z)) (omega (arith, z)) (rw (← same_bundle, b, z)) (nothing ∙ sym nor) (ap (λ (m : ℕ). are_loops m (drop own fields)) z)

  -- either way
  pub record_back : Back
  record_back = split (is_bundle s) bundle_back none_back

pub parts_write_after_read : (k : Kind) (s table room out : List ℕ) → kind_of s ≡ Some k → (read_call s table).said.answer ≡ 0
    → (parts_call s room).said.answer ≡ 0 → length s ≤ length out
    → PartsWrittenBack (take (fixed_width k) s) (read_call s table).table (read_call s table).said.fields s (parts_call s room).room (parts_call s room).said.parts out
unfolding read_of room_after
parts_write_after_read k s table room out g a e long =
    let d = done s room e in
    let fixed = take (fixed_width k) s in
    let filled = (read_call s table).table in
    let r = outcome (record { answer = 0; place = 0; length = length s }) (s ++ drop (length s) out) in
    subst (λ (o : Read). write_parts_call fixed filled ((read_call s table).said.fields - o.said.parts * loop_fields) s o.room o.said.parts out ≡ r) (sym d.says)
    (subst (λ (m : ℕ). write_parts_call fixed filled (m - d.n * loop_fields) s (lent k s table room out g a d long) d.n out ≡ r) (sym (counted k s table room out g a d long))
    (record_back k s table room out g a d long))
