-- The stages of writing the fields of a table and then those of lent parts, one after the other, by the tests that the code makes.
use mathlib.Core.Path.{◌≡◌, ◌∙◌, ap, sym, refl}
use mathlib.Core.Bool.{true}
use mathlib.Core.List.{List, ◌++◌}
use Prim.Native.Nat.{ℕ, ◌+◌, ◌-◌, ◌*◌, ◌≤◌, ◌<◌}
use native.Mathlib.Omega.{arith}
use borrow.Author.Tests.{lt-ltb, le-ltb, ltb-true, ltb-false}
use lib.Dec.{ltb}
use Rattle.cells.proofs.Bools.{split}
use lib.ListN.{length, drop}
use lib.Seq.{sets}
use Rattle.record.specs.Layout.{most_bytes, most_fields, fixed_width, kind_of}
use Rattle.record.specs.Fields.{Optional}
use Rattle.record.specs.Read.{entry_width}
use Rattle.record.specs.declared.layout.Kind.{Kind}
use Rattle.record.proofs.Layouts.{total_most}
use Rattle.writing.specs.Widths.{width_after, all_inside}
use Rattle.writing.specs.Write.{◌next◌, entries, optional_of, fixed_judged, lent_judged, fields_judged, record_text, length_judged, rest_judged, write_judged, written_of, outcome, output_after, write}
use Rattle.writing.specs.declared.answer.Refusal.{Refusal}
use Rattle.writing.specs.declared.answer.Refusal.TheVariants.{TooManyFields, SmallTable, Content}
use Rattle.writing.specs.Verdicts.{Verdict}
use Rattle.std.specs.Prelude.{Err, Ok, None}
use Rattle.writing.proofs.Stages.{many_refused, table_refused, fields_refused, fields_fit}
use Rattle.writing.proofs.Fitting.{fitting, fields_inside, fits_inside, fits_stored, next_err, next_ok}
use Rattle.parts.specs.Loops.{loop_fields, most_parts, are_loops}
use Rattle.parts.specs.Fields.{lent_fields}
use Rattle.parts.specs.Write.{table_with, contents_with, write_with}
use Rattle.lent_parts.specs.Faults.{first_fault, fields_text}
use Rattle.packing.specs.Judged.{rest_with, judged_with}
use Rattle.parts.proofs.Joined.{table_short, table_long, table_whole}
use Rattle.parts.proofs.Together.{named_together, inside_together}
use Rattle.parts.proofs.Lent.{lent_long}
use Rattle.packing.proofs.Stored.{joined_wide}
use Rattle.packing.proofs.Faulted.{faulted, fits_faultless}
use Rattle.packing.proofs.Judging.{judged_together}

-- 8 over all fields, 23, then 9 and 10 of the table's fields and of the parts'
module _ (k : Kind) (fixed table : List ℕ) (count : ℕ) (contents room : List ℕ) (n : ℕ) (out : List ℕ) where
  pub all_many : most_fields < count + n * loop_fields → rest_with (lent_fields n room 0) k fixed table count contents out ≡ Err TooManyFields
  unfolding rest_with
  all_many h = many_refused k fixed _ _ _ out (rw (lent_long n room 0) h)

  module _ (few : count + n * loop_fields ≤ most_fields) where
    -- all fields are few enough
    sum : count + length (lent_fields n room 0) ≤ most_fields
    sum = rw (lent_long n room 0) few

    pub table_small : length table < count * entry_width → rest_with (lent_fields n room 0) k fixed table count contents out ≡ Err SmallTable
    unfolding rest_with
    table_small h = table_refused k fixed _ _ _ out sum (table_short (lent_fields n room 0) table count h)

    module _ (h : count * entry_width ≤ length table) (loops : are_loops n (lent_fields n room 0) ≡ true) where
      -- the one table is long enough
      whole : (count + length (lent_fields n room 0)) * entry_width ≤ length (table_with (lent_fields n room 0) table count)
      whole = table_long (lent_fields n room 0) table count h

      -- what is said of all fields, by what is said of the table's
      said : (u : Verdict) → fields_judged k contents None 0 (entries count table) ≡ u
          → let more = lent_fields n room 0 in
          fields_judged k (contents_with more contents) None 0 (entries (count + length more) (table_with more table count)) ≡ (u next faulted count more)
      said u a = judged_together k table contents count room n h loops ∙ rw a

      pub first_refused : (r : Refusal) → fields_judged k contents None 0 (entries count table) ≡ Err r
          → rest_with (lent_fields n room 0) k fixed table count contents out ≡ Err r
      unfolding rest_with ◌next◌
      first_refused r a = fields_refused k fixed _ _ _ out sum whole r (said (Err r) a)

      module _ (m : ℕ) (a : fields_judged k contents None 0 (entries count table) ≡ Ok m) where
        pub second_refused : first_fault (lent_fields n room 0) < n * loop_fields
            → rest_with (lent_fields n room 0) k fixed table count contents out ≡ Err (Content (count + first_fault (lent_fields n room 0)))
        unfolding rest_with ◌next◌ faulted
        second_refused b =
            let more = lent_fields n room 0 in
            fields_refused k fixed _ _ _ out sum whole (Content (count + first_fault more))
            (said (Ok m) a ∙ rw (lt-ltb (first_fault more) (length more) (rw (lent_long n room 0) b)))

        -- then the length, reckoned of the table and of the parts
        pub all_fit : n * loop_fields ≤ first_fault (lent_fields n room 0)
            → rest_with (lent_fields n room 0) k fixed table count contents out
            ≡ length_judged (width_after (length fixed) (entries count table) + length (fields_text (lent_fields n room 0))) out
        unfolding rest_with ◌next◌ faulted
        all_fit b =
            let more = lent_fields n room 0 in
            let es = entries count table in
            fields_fit k fixed _ _ _ out sum whole 0 (said (Ok m) a ∙ rw (le-ltb (first_fault more) (length more) (rw (lent_long n room 0) b)))
            ∙ ap (λ (w : ℕ). length_judged w out)
            (ap (λ (fs : List Optional). length (record_text fixed fs)) (named_together table contents count more h)
            ∙ joined_wide fixed contents es more (fields_inside k contents None 0 es m a))

-- the stages one after the other
module _ (k : Kind) (fixed table : List ℕ) (count : ℕ) (contents room : List ℕ) (n : ℕ) (out : List ℕ) where
  abbrev more : List Optional
  more = lent_fields n room 0

  abbrev last : Verdict
  last = length_judged (width_after (length fixed) (entries count table) + length (fields_text more)) out

  module _ (loops : are_loops n more ≡ true) (sum : count + n * loop_fields ≤ most_fields) (h : count * entry_width ≤ length table) where
    by_fault : (m : ℕ) → fields_judged k contents None 0 (entries count table) ≡ Ok m
        → rest_with more k fixed table count contents out ≡ (faulted count more next last)
    unfolding faulted ◌next◌
    by_fault m a =
        split (ltb (first_fault more) (length more))
        (λ t. rw t (second_refused k fixed table count contents room n out sum h loops m a (rw lent_long at (ltb-true _ _ t))))
        (λ t. rw t (all_fit k fixed table count contents room n out sum h loops m a (rw lent_long at (ltb-false _ _ t))))

    by_fields : (u : Verdict) → fields_judged k contents None 0 (entries count table) ≡ u
        → rest_with more k fixed table count contents out ≡ (u next (faulted count more next last))
    unfolding ◌next◌
    by_fields (Err r) a = first_refused k fixed table count contents room n out sum h loops r a
    by_fields (Ok m) a = by_fault m a

  pub with_is : n ≤ most_parts → are_loops n more ≡ true
      → rest_with more k fixed table count contents out
      ≡ (lent_judged (most_fields - n * loop_fields) table count next (fields_judged k contents None 0 (entries count table) next (faulted count more next last)))
  unfolding lent_judged ◌next◌
  with_is few loops =
      split (ltb (most_fields - n * loop_fields) count)
      (λ t. let g = ltb-true _ _ t in rw t (all_many k fixed table count contents room n out (omega arith)))
      (λ t. let g = ltb-false _ _ t in rw t (
      split (ltb (length table) (count * entry_width))
      (λ u. rw u (table_small k fixed table count contents room n out (omega arith) (ltb-true _ _ u)))
      (λ u. rw u (by_fields loops (omega arith) (ltb-false _ _ u) _ refl))))

-- by the first fault that was found, or none
module _ (i : ℕ) (room : List ℕ) (n : ℕ) where
  pub fault_told : (f : ℕ) → first_fault (lent_fields n room 0) ≡ f → f < n * loop_fields → faulted i (lent_fields n room 0) ≡ Err (Content (i + f))
  unfolding faulted
  fault_told f e h = rw (e, lent_long, lt-ltb f (n * loop_fields) h)

  pub none_told : first_fault (lent_fields n room 0) ≡ n * loop_fields → faulted i (lent_fields n room 0) ≡ Ok 0
  unfolding faulted
  none_told e = rw (e, lent_long, le-ltb (n * loop_fields) (n * loop_fields) (omega arith))

pub ruleset with_staged = (with_is, fault_told, none_told, next_err, next_ok)

-- 5 before them
module _ (fixed table : List ℕ) (count : ℕ) (contents room : List ℕ) (n : ℕ) (out : List ℕ) where
  pub with_kind : judged_with (lent_fields n room 0) fixed table count contents out
      ≡ (fixed_judged (kind_of fixed) fixed next rest_judged (kind_of fixed) fixed (table_with (lent_fields n room 0) table count) (count + length (lent_fields n room 0)) (contents_with (lent_fields n room 0) contents) out)
  unfolding judged_with write_judged
  with_kind = refl

-- all that is known of a record with parts that is written, of m bytes
pub record Placed (fixed table : List ℕ) (count : ℕ) (contents room : List ℕ) (n : ℕ) (out : List ℕ) (m : ℕ) : Type 0 where
  pub narrow : length fixed ≤ 108
  pub few : count ≤ most_fields
  pub tabled : count * entry_width ≤ length table
  pub inside : all_inside contents (entries count table) ≡ true
  pub faultless : first_fault (lent_fields n room 0) ≡ n * loop_fields
  pub wide : width_after (length fixed) (entries count table) + length (fields_text (lent_fields n room 0)) ≡ m
  pub short : m ≤ most_bytes
  pub there : m ≤ length out

module _ (fixed table : List ℕ) (count : ℕ) (contents room : List ℕ) (n : ℕ) (out : List ℕ) where
  module _ (m : ℕ) (e : judged_with (lent_fields n room 0) fixed table count contents out ≡ Ok m) where
    -- a record that is written is all that
    pub placed : are_loops n (lent_fields n room 0) ≡ true → Placed fixed table count contents room n out m
    unfolding judged_with fixed_width
    placed loops =
        let more = lent_fields n room 0 in
        let f = fitting fixed (table_with more table count) (count + length more) (contents_with more contents) out m e in
        let t = table_whole more table count f.1.listed in
        let i = sym (inside_together table contents count more t) ∙ fits_inside fixed (table_with more table count) (count + length more) (contents_with more contents) out m e in
        let j = sym (judged_together f.0 table contents count room n t loops) ∙ f.1.kept.1 in
        let w = joined_wide fixed contents (entries count table) more i in
        record {
          narrow = omega (arith, f.1.wide, total_most f.0);
          few = omega (arith, f.1.few);
          tabled = t;
          inside = i;
          faultless = fits_faultless (fields_judged f.0 contents None 0 (entries count table)) count more f.1.kept.0 j ∙ lent_long n room 0;
          wide = sym w ∙ ap (λ (fs : List Optional). length (record_text fixed fs)) (sym (named_together table contents count more t)) ∙ f.1.long;
          short = f.1.short;
          there = f.1.room;
        }

    -- stored at the front of the output, it is what is to be written
    named : record_text fixed (optional_of (contents_with (lent_fields n room 0) contents) (entries (count + length (lent_fields n room 0)) (table_with (lent_fields n room 0) table count)))
        ≡ record_text fixed (optional_of contents (entries count table) ++ lent_fields n room 0)
    unfolding judged_with
    named =
        let more = lent_fields n room 0 in
        let f = fitting fixed (table_with more table count) (count + length more) (contents_with more contents) out m e in
        ap (record_text fixed) (named_together table contents count more (table_whole more table count f.1.listed))

    pub with_stored : sets out 0 (record_text fixed (optional_of contents (entries count table) ++ lent_fields n room 0))
        ≡ record_text fixed (optional_of contents (entries count table) ++ lent_fields n room 0) ++ drop m out
    unfolding judged_with
    with_stored =
        let more = lent_fields n room 0 in
        rw (← named) (fits_stored fixed (table_with more table count) (count + length more) (contents_with more contents) out m e)

  -- so with what is judged, writing is done
  by_verdict : (v : Verdict) → judged_with (lent_fields n room 0) fixed table count contents out ≡ v
      → output_after v (record_text fixed (optional_of (contents_with (lent_fields n room 0) contents) (entries (count + length (lent_fields n room 0)) (table_with (lent_fields n room 0) table count)))) out
      ≡ output_after v (record_text fixed (optional_of contents (entries count table) ++ lent_fields n room 0)) out
  unfolding output_after
  by_verdict (Err r) e = refl
  by_verdict (Ok m) e = rw (named m e)

  pub with_written : write_with (lent_fields n room 0) fixed table count contents out
      ≡ outcome (written_of (judged_with (lent_fields n room 0) fixed table count contents out))
      (output_after (judged_with (lent_fields n room 0) fixed table count contents out) (record_text fixed (optional_of contents (entries count table) ++ lent_fields n room 0)) out)
  unfolding judged_with write_with write
  with_written =
      ap (λ (o : List ℕ). outcome (written_of (judged_with (lent_fields n room 0) fixed table count contents out)) o) (by_verdict _ refl)
