-- Write exactly: writing answers 0 where its parts make a record and the output has room for it, and nowhere else.
use mathlib.Core.Path.{◌≡◌, ◌∙◌, refl}
use mathlib.Core.Bool.{true}
use mathlib.Core.List.{List, ◌++◌}
use Prim.Native.Nat.{ℕ, ◌≤◌}
use native.Mathlib.Omega.{arith}
use borrow.Author.Tests.{le-ltb}
use lib.ListN.{length, drop}
use Rattle.cells.specs.Bytes.{all}
use Rattle.cells.proofs.Bools.{and_left, and_right}
use Rattle.cells.proofs.Lists.{all_append}
use Rattle.signs.specs.Class.{belongs}
use Rattle.signs.specs.declared.Class.TheVariants.{Allowed}
use Rattle.signs.proofs.Runs.{run_all, all_whole}
use Rattle.record.specs.Layout.{most_bytes, most_fields, kind_of}
use Rattle.record.specs.Fields.{Optional}
use Rattle.record.specs.declared.layout.Kind.{Kind}
use Rattle.writing.specs.Write.{refusal_number, fixed_judged, entries, optional_of, optional_text, record_text, fields_judged, length_judged, write_judged, written_of, outcome, write}
use Rattle.writing.specs.declared.answer.Refusal.{Refusal}
use Rattle.writing.specs.declared.answer.Refusal.TheVariants.{FixedField, TooManyFields, SmallTable, Content, Group, TooLong, SmallOutput}
use Rattle.writing.specs.Verdicts.{Verdict}
use Rattle.std.specs.Prelude.{Err, Ok, None}
use Rattle.writing.proofs.Stages.{fixed_fits, fields_fit, fixed_passed, write_fits}
use Rattle.writing.proofs.Fitting.{Fitting, fitting, fits_inside}
use Rattle.roundtrip.specs.Record.{CanWrite}
use Rattle.roundtrip.specs.Demand2.{write_call, WriteExactly}
use Rattle.roundtrip.proofs.Texts.{contents_allowed, text_allowed}
use Rattle.roundtrip.proofs.Fixed.{faultless_kept, faultless_allowed, faultless}
use Rattle.writing.proofs.Halves.{entries_length, fields_length}
use Rattle.roundtrip.proofs.EntriesKept.{accepted_kept, accepted_allowed, kept_accepted}
use Rattle.roundtrip.proofs.Whole.{Whole, made_whole, whole_made}

-- a refusal has no answer 0
never_done : (r : Refusal) → refusal_number r ≡ 0 → ⊥
unfolding refusal_number
never_done (FixedField i) e = omega arith
never_done TooManyFields e = omega arith
never_done SmallTable e = omega arith
never_done (Content i) e = omega arith
never_done (Group i) e = omega arith
never_done TooLong e = omega arith
never_done SmallOutput e = omega arith

-- so the answer 0 is that of a record that fits
done_fits : (v : Verdict) → (written_of v).answer ≡ 0 → (n : ℕ) × (v ≡ Ok n)
unfolding written_of
done_fits (Err r) e = absurd (never_done r e)
done_fits (Ok n) e = (n, refl)

-- a fixed part, a table of so many entries, lent contents and an output
module _ (fixed table : List ℕ) (count : ℕ) (contents out : List ℕ) where
  abbrev fields : List Optional
  fields = optional_of contents (entries count table)

  abbrev text : List ℕ
  text = record_text fixed fields

  -- the entries name as many fields
  pub as_many : length fields ≡ count
  as_many = fields_length contents (entries count table) ∙ entries_length count table

  -- what makes a record is accepted, given the table, the contents and the output
  module _ (k : Kind) (w : Whole k fixed fields) (c : CanWrite fixed table count contents out) where
    -- each byte of the fixed part and of the contents is allowed
    both_allowed : (all (belongs Allowed) fixed ≡ true) × (contents_allowed fields ≡ true)
    unfolding record_text
    both_allowed =
        let a = rw (all_append (belongs Allowed) fixed (optional_text fields), text_allowed fields) at w.allowed in
        (and_left (all (belongs Allowed) fixed) (contents_allowed fields) a, and_right (all (belongs Allowed) fixed) (contents_allowed fields) a)

    fixed_done : fixed_judged (kind_of fixed) fixed ≡ Ok 0
    fixed_done =
        rw w.named (fixed_fits k fixed w.wide (faultless k fixed w.wide w.unbroken (all_whole (belongs Allowed) fixed both_allowed.0)))

    fields_done : fields_judged k contents None 0 (entries count table) ≡ Ok 0
    fields_done = kept_accepted k contents None 0 (entries count table) c.lent w.kept both_allowed.1

    length_done : length_judged (length text) out ≡ Ok (length text)
    unfolding length_judged
    length_done = rw (le-ltb most_bytes (length text) w.short, le-ltb (length out) (length text) c.room)

    whole_done : write_judged fixed table count contents out ≡ Ok (length text)
    whole_done =
        let few : count ≤ most_fields = omega (arith, as_many, w.few) in
        fixed_passed fixed table count contents out 0 fixed_done
        ∙ rw w.named (fields_fit k fixed table count contents out few c.listed 0 fields_done ∙ length_done)

  -- and it is written
  can_done : CanWrite fixed table count contents out
      → write_call fixed table count contents out ≡ outcome (record { answer = 0; place = 0; length = length text }) (text ++ drop (length text) out)
  unfolding written_of
  can_done c =
      write_fits fixed table count contents out (length text)
      (whole_done c.makes.parts.kind (made_whole fixed fields c.makes) c)

  -- what writing accepts makes a record
  accepted_whole : (k : Kind) (n : ℕ) → Fitting k fixed table count contents out n → Whole k fixed fields
  unfolding record_text
  accepted_whole k n a =
      let f = run_all (belongs Allowed) fixed (faultless_allowed k fixed a.wide a.sound) in
      record {
        named = a.named;
        wide = a.wide;
        unbroken = faultless_kept k fixed a.sound;
        kept = accepted_kept k contents None 0 (entries count table) a.kept.0 a.kept.1;
        few = omega (arith, as_many, a.few);
        short = omega (arith, a.long, a.short);
        allowed = rw (all_append (belongs Allowed) fixed (optional_text fields), f, text_allowed fields) (accepted_allowed k contents None 0 (entries count table) a.kept.0 a.kept.1);
      }

  -- so where writing answers 0, what it needs was there
  done_can : (write_call fixed table count contents out).said.answer ≡ 0 → CanWrite fixed table count contents out
  unfolding write
  done_can e =
      let d = done_fits (write_judged fixed table count contents out) e in
      let f = fitting fixed table count contents out d.0 d.1 in
      let l = f.1.long in
      record {
        listed = f.1.listed;
        lent = fits_inside fixed table count contents out d.0 d.1;
        makes = whole_made fixed fields f.0 (accepted_whole f.0 d.0 f.1);
        room = omega (arith, f.1.room);
      }

  -- writing answers 0 where its parts make a record and the output has room for it, and nowhere else
  pub write_exactly : WriteExactly fixed table count contents out
  write_exactly = record { only_records = done_can; all_records = can_done }
