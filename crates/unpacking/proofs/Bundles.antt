-- The parts of a bundle, read by the tests that the code makes.
use mathlib.Core.Path.{◌≡◌, ◌∙◌, ap, sym, refl}
use mathlib.Core.Bool.{true, false}
use mathlib.Core.List.{List}
use Prim.Native.Nat.{ℕ, ◌*◌, ◌≤◌, ◌<◌}
use borrow.Author.Tests.{lt-ltb, le-ltb}
use lib.ListN.{length, drop}
use Rattle.record.specs.Answers.{refusal_number, refusal_place, checked_of}
use Rattle.record.specs.Fields.{Optional}
use Rattle.record.specs.Read.{judged, entry_width, optional_start, optional_fields, Outcome, outcome as checks, check}
use Rattle.record.specs.declared.answer.Checked.{Checked}
use Rattle.record.specs.declared.answer.Refusal.{Refusal as Fault}
use Rattle.record.specs.Verdicts.{Verdict as Judged}
use Rattle.std.specs.Prelude.{Err, Ok}
use Rattle.reader.proofs.Fitting.{fits_known}
use Rattle.reader.proofs.Stages.{check_refused, check_fits}
use Rattle.writing.specs.Widths.{all_inside}
use Rattle.writing.specs.Write.{entries, optional_of}
use Rattle.roundtrip.specs.Demand2.{LargeTable}
use Rattle.roundtrip.proofs.EntriesBack.{stored_inside}
use Rattle.roundtrip.proofs.ReadExactly.{check_done, fits_said, fits_table, fits_fields}
use Rattle.parts.specs.Loops.{most_parts, is_bundle, loops_of}
use Rattle.parts.specs.Part.{part_width, parts_of, room_of}
use Rattle.parts.specs.Answers.{read_of}
use Rattle.parts.specs.Read.{loops_judged, parts_judged, outcome, room_after, bundle_read, read_parts}
use Rattle.parts.specs.declared.answer.Refusal.TheVariants.{SmallRoom}

module _ (s room : List ℕ) where
  -- 23
  pub small_room : length room < most_parts * part_width → read_parts s room ≡ outcome (read_of (Err SmallRoom)) room
  unfolding read_parts
  small_room h = rw (lt-ltb _ _ h)

  module _ (wide : most_parts * part_width ≤ length room) where
    -- 1 to 10
    no_record : (r : Fault) → judged s ≡ Err r
        → read_parts s room ≡ outcome (record { answer = refusal_number r; place = refusal_place r; parts = 0 }) room
    unfolding read_parts bundle_read
    no_record r e = rw (le-ltb _ _ wide, e)

    -- a record with n optional fields: no bundle has no parts, and leaves the room as it was
    module _ (n : ℕ) (e : judged s ≡ Ok n) where
      pub no_bundle : is_bundle s ≡ false → read_parts s room ≡ outcome (read_of (Ok 0)) room
      unfolding read_parts bundle_read parts_judged room_after parts_of room_of
      no_bundle b = rw (le-ltb _ _ wide, e, b)

      -- 26 and 27, or the parts in front of the room
      pub bundle_parts : is_bundle s ≡ true → (fs : List Optional) → fs ≡ optional_fields n s
          → read_parts s room ≡ outcome (read_of (loops_judged (loops_of fs))) (room_after (loops_judged (loops_of fs)) fs room)
      unfolding read_parts bundle_read parts_judged
      bundle_parts b fs named = rw (le-ltb _ _ wide, e, b, named)

-- what a check with a large table said, and the table that it left
module _ (s lent : List ℕ) (large : LargeTable lent) (r : Checked) (t : List ℕ) (q : checks r t ≡ check s lent) where
  said : r ≡ (check s lent).said
  said = ap (λ (o : Outcome). o.said) q

  -- another answer than 0 is the answer of reading parts too
  by_verdict : (room : List ℕ) → most_parts * part_width ≤ length room → (r.answer ≡ 0 → ⊥) → (v : Judged) → judged s ≡ v
      → read_parts s room ≡ outcome (record { answer = r.answer; place = r.place; parts = 0 }) room
  unfolding checked_of
  by_verdict room wide h (Err x) e =
      let k : r ≡ checked_of (Err x) = said ∙ ap (λ (o : Outcome). o.said) (check_refused s lent large x e) in
      no_record s room wide x e ∙ rw k
  by_verdict room wide h (Ok n) e = absurd (h (ap (λ (c : Checked). c.answer) (said ∙ fits_said s lent large n e)))

  pub not_read : (room : List ℕ) → most_parts * part_width ≤ length room → (r.answer ≡ 0 → ⊥)
      → read_parts s room ≡ outcome (record { answer = r.answer; place = r.place; parts = 0 }) room
  not_read room wide h = by_verdict room wide h (judged s) refl

  -- with answer 0 the record fits, with as many fields as are told
  module _ (a : r.answer ≡ 0) where
    pub record_holds : judged s ≡ Ok r.fields
    unfolding checked_of
    record_holds =
        let d = check_done s lent (ap (λ (c : Checked). c.answer) (sym said) ∙ a) in
        d.1 ∙ ap (λ (c : Checked). Ok c.fields) (sym (said ∙ fits_said s lent large d.0 d.1))

    left_so : t ≡ (check s lent).table
    left_so = ap (λ (o : Outcome). o.table) q

    -- which the table names
    pub fields_named : optional_of s (entries r.fields t) ≡ optional_fields r.fields s
    fields_named =
        ap (λ (x : List ℕ). optional_of s (entries r.fields x)) left_so ∙ fits_table s lent large r.fields record_holds

    -- with their contents inside the record
    pub fields_inside : all_inside s (entries r.fields t) ≡ true
    unfolding optional_start
    fields_inside =
        let k = fits_known s r.fields record_holds in
        ap (λ (x : List ℕ). all_inside s (entries r.fields x)) left_so
        ∙ rw (check_fits s lent large r.fields record_holds, k.1)
        (stored_inside s r.fields _ (drop (r.fields * entry_width) lent) (fits_fields k.0 s r.fields k.1 record_holds))
