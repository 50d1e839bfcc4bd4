-- Read exactly: reading answers 0 for the texts of records and for nothing else, and finds their parts.
use mathlib.Core.Path.{◌≡◌, ◌∙◌, ap, sym, refl}
use mathlib.Core.List.{List}
use Prim.Native.Nat.{ℕ, ◌+◌, ◌*◌, ◌≤◌}
use native.Mathlib.Nat.{zero-add}
use native.Mathlib.Omega.{arith}
use borrow.Author.Tests.{ltb-true, ltb-false, le-ltb}
use lib.Dec.{ltb}
use lib.ListN.{length, take, drop, replicate, length-append, take-append-drop}
use lib.Seq.{length-take-le, drop_at, take-append_seam}
use Rattle.cells.proofs.Bools.{split}
use Rattle.signs.specs.Class.{belongs}
use Rattle.signs.specs.declared.Class.TheVariants.{Allowed}
use Rattle.signs.proofs.Runs.{run_all, all_whole}
use Rattle.record.specs.Layout.{most_fields, layout, fixed_width, kind_of, first_broken}
use Rattle.record.specs.Answers.{refusal_number, checked_of}
use Rattle.record.specs.Fields.{head_width, walk, judge, Optional, fields_of}
use Rattle.record.specs.Read.{judged, kind_judged, entry_width, optional_start, optional_fields, Outcome, check}
use Rattle.record.specs.declared.answer.Refusal.{Refusal}
use Rattle.record.specs.declared.answer.Refusal.TheVariants.{TooLong, UnknownKind, TooShort, Byte, FixedField, NoField, LastField, TooManyFields, Content, Group, SmallTable}
use Rattle.record.specs.Verdicts.{Verdict}
use Rattle.std.specs.Prelude.{Err, Ok, Option, Some, None}
use Rattle.record.specs.declared.layout.Kind.{Kind}
use Rattle.reader.proofs.Stages.{by_kind, kind_rest, judge_fits, small_table, check_fits}
use Rattle.reader.proofs.Fitting.{Fitting, fitting, fits_known, fits_long, fits_count}
use Rattle.writing.specs.Write.{entries, optional_of, optional_text, record_text}
use Rattle.roundtrip.specs.Record.{Parts, fixed_part, MakesRecord, IsRecord}
use Rattle.roundtrip.specs.Demand2.{LargeTable, Tabled, ReadExactly, ReadsParts}
use Rattle.roundtrip.proofs.Texts.{AllWritable, text_least, text_walked, text_fields}
use Rattle.roundtrip.proofs.Fronts.{date_inside, kind_front, broken_front}
use Rattle.roundtrip.proofs.FieldsBack.{Fields, walked_fields, text_back}
use Rattle.roundtrip.proofs.EntriesBack.{fields_back}
use Rattle.roundtrip.proofs.OptionalKept.{fields_count, kept_writable, text_judged, judged_kept}
use Rattle.roundtrip.proofs.Whole.{Whole, parts_whole, whole_made}

-- no refusal is answered 0
refused_not : (r : Refusal) → refusal_number r ≡ 0 → ⊥
unfolding refusal_number
refused_not TooLong e = omega arith
refused_not UnknownKind e = omega arith
refused_not (TooShort p) e = omega arith
refused_not (Byte p) e = omega arith
refused_not (FixedField p) e = omega arith
refused_not (NoField p) e = omega arith
refused_not (LastField p) e = omega arith
refused_not (TooManyFields p) e = omega arith
refused_not (Content p) e = omega arith
refused_not (Group p) e = omega arith
refused_not SmallTable e = omega arith

-- a verdict that is answered 0 fits
pub verdict_fits : (v : Verdict) → (checked_of v).answer ≡ 0 → (n : ℕ) × (v ≡ Ok n)
unfolding checked_of
verdict_fits (Err r) e = absurd (refused_not r e)
verdict_fits (Ok n) e = (n, refl)

-- a check answered 0: the table was large
pub table_large : (s lent : List ℕ) → (check s lent).said.answer ≡ 0 → LargeTable lent
unfolding checked_of
table_large s lent e =
    split (ltb (length lent) (most_fields * entry_width))
    (λ h. absurd (refused_not SmallTable (rw (small_table s lent (ltb-true (length lent) (most_fields * entry_width) h)) at e)))
    (λ h. ltb-false (length lent) (most_fields * entry_width) h)

-- and the record fits
pub check_done : (s lent : List ℕ) → (check s lent).said.answer ≡ 0 → (n : ℕ) × (judged s ≡ Ok n)
unfolding check
check_done s lent e = verdict_fits (judged s) (rw (le-ltb (length lent) (most_fields * entry_width) (table_large s lent e)) at e)

-- a check of a record that fits, with a large table, is done with so many fields, and the entries in the table name them
module _ (s lent : List ℕ) (h : LargeTable lent) (n : ℕ) (e : judged s ≡ Ok n) where
  pub fits_said : (check s lent).said ≡ checked_of (Ok n)
  fits_said = ap (λ (o : Outcome). o.said) (check_fits s lent h n e)

  pub fits_table : optional_of s (entries n (check s lent).table) ≡ optional_fields n s
  unfolding optional_fields
  fits_table = rw (check_fits s lent h n e) (fields_back s n (optional_start (kind_of s)) (drop (n * entry_width) lent))

-- a fixed part and optional fields that make a record, read
module _ (k : Kind) (fixed : List ℕ) (fs : List Optional) (w : Whole k fixed fs) where
  abbrev text : List ℕ
  text = record_text fixed fs

  -- its kind is that of the fixed part
  pub whole_kind : kind_of text ≡ Some k
  unfolding record_text
  whole_kind = kind_front fixed (optional_text fs) (omega (arith, date_inside k, w.wide)) ∙ w.named

  -- its optional part starts behind the fixed part
  behind : drop (fixed_width k) text ≡ optional_text fs
  unfolding record_text
  behind = drop_at fixed (optional_text fs) (fixed_width k) w.wide

  -- both walks over it pass each field
  sound : AllWritable fs
  sound = kept_writable k None fs w.kept

  walked : walk most_fields 0 (fixed_width k) (drop (fixed_width k) text) ≡ Ok (length fs)
  walked = rw behind (text_walked fs sound most_fields 0 (fixed_width k) w.few ∙ ap Ok (zero-add (length fs)))

  well : judge k (length fs) None (fixed_width k) (drop (fixed_width k) text) ≡ Ok 0
  well = rw behind (text_judged k None (fixed_width k) fs w.kept)

  -- none of its fixed fields is broken
  unbroken : first_broken (layout k) text ≡ length (layout k)
  unfolding record_text
  unbroken = broken_front k fixed (optional_text fs) (omega (arith, w.wide)) ∙ w.unbroken

  -- it is long enough
  long : fixed_width k + head_width ≤ length text
  unfolding record_text
  long = omega (arith, text_least fs, length-append fixed (optional_text fs), w.wide)

  -- so reading says that it fits
  pub whole_fits : judged text ≡ Ok (length fs)
  whole_fits =
      by_kind text w.short
      ∙ ap (λ (j : Option Kind). kind_judged j text) whole_kind
      ∙ kind_rest k text long (all_whole (belongs Allowed) text w.allowed) unbroken
      ∙ judge_fits k (fixed_width k) (drop (fixed_width k) text) (length fs) walked 0 well

  -- its optional fields are those that it was made of
  pub whole_fields : optional_fields (length fs) text ≡ fs
  unfolding optional_fields optional_start
  whole_fields = rw (whole_kind, behind) (text_fields fs sound)

  -- and the check names them in the table
  pub whole_tabled : Tabled text fs
  whole_tabled = record {
    reads = λ lent h. fits_said text lent h (length fs) whole_fits;
    fields_are_same = λ lent h. fits_table text lent h (length fs) whole_fits ∙ whole_fields;
  }

-- of parts that make a record reading finds the kind, the fixed part and the optional fields
pub reads_parts : (r : Parts) → MakesRecord r → ReadsParts r
unfolding record_text
reads_parts r m =
    let w = parts_whole r m in
    record {
      same_kind = whole_kind r.kind (fixed_part r) r.optional w;
      same_fixed = take-append_seam (fixed_part r) (optional_text r.optional);
      same_optional = whole_tabled r.kind (fixed_part r) r.optional w;
    }

-- the fixed part and the optional part of a record of a kind
abbrev pub fixed_of : Kind → List ℕ → List ℕ
fixed_of k s = take (fixed_width k) s

abbrev pub optional_from : Kind → List ℕ → List ℕ
optional_from k s = drop (fixed_width k) s

-- a record of a kind that fits with n optional fields
module _ (k : Kind) (s : List ℕ) (n : ℕ) (g : kind_of s ≡ Some k) (e : judged s ≡ Ok n) where
  -- what is known of it
  fit : Fitting k s n
  fit = fitting k s n g e

  -- it has so many fields, then the last
  pub fits_fields : Fields n (optional_from k s)
  fits_fields = walked_fields most_fields (fixed_width k) (optional_from k s) n fit.walked

  -- its fixed part and its fields are the record again
  pub fits_text : record_text (fixed_of k s) (fields_of n (optional_from k s)) ≡ s
  unfolding record_text
  fits_text = rw (text_back n (optional_from k s) fits_fields) (take-append-drop (fixed_width k) s)

  -- its fixed part is as long as the kind's
  fixed_long : length (fixed_of k s) ≡ fixed_width k
  fixed_long = length-take-le (fixed_width k) s (omega (arith, fit.wide))

  -- is of its kind
  fixed_kind : kind_of (fixed_of k s) ≡ Some k
  fixed_kind =
      sym (kind_front (fixed_of k s) (optional_from k s) (omega (arith, fixed_long, date_inside k)))
      ∙ ap kind_of (take-append-drop (fixed_width k) s)
      ∙ g

  -- and breaks no rule
  fixed_unbroken : first_broken (layout k) (fixed_of k s) ≡ length (layout k)
  fixed_unbroken =
      sym (broken_front k (fixed_of k s) (optional_from k s) (omega (arith, fixed_long)))
      ∙ ap (first_broken (layout k)) (take-append-drop (fixed_width k) s)
      ∙ fit.kept

  -- so they make a record
  pub fits_whole : Whole k (fixed_of k s) (fields_of n (optional_from k s))
  fits_whole = record {
    named = fixed_kind;
    wide = fixed_long;
    unbroken = fixed_unbroken;
    kept = judged_kept k n None (fixed_width k) (optional_from k s) fit.whole.0 fits_fields fit.whole.1;
    few = rw (fields_count n (optional_from k s)) (fits_count s n e);
    short = rw fits_text (fits_long s n e);
    allowed = rw fits_text (run_all (belongs Allowed) s fit.allowed);
  }

-- what fits is a record
pub fits_record : (s : List ℕ) (n : ℕ) → judged s ≡ Ok n → IsRecord s
fits_record s n e =
    let k = fits_known s n e in
    let m = whole_made _ _ k.0 (fits_whole k.0 s n k.1 e) in
    record {
      parts = m.parts;
      makes = m.makes;
      text = ap (λ (x : List ℕ). record_text x m.parts.optional) m.same_fixed ∙ ap (record_text _) m.same_optional ∙ fits_text k.0 s n k.1 e;
    }

-- reading answers 0 for the texts of records, where the table is large, and for nothing else
pub read_exactly : (s lent : List ℕ) → ReadExactly s lent
unfolding checked_of
read_exactly s lent = record {
  only_records = λ e. let d = check_done s lent e in (table_large s lent e, fits_record s d.0 d.1);
  all_records = λ h r. rw (← r.text) (rw ((reads_parts r.parts r.makes).same_optional.reads lent h));
}

-- so a record fits
pub record_fits : (s : List ℕ) → IsRecord s → (n : ℕ) × (judged s ≡ Ok n)
record_fits s r =
    let lent : List ℕ = replicate (most_fields * entry_width) 0 in
    check_done s lent ((read_exactly s lent).all_records (omega arith) r)
