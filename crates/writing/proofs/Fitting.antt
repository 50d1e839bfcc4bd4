-- What a record that is written is known to be.
use mathlib.Core.Path.{◌≡◌, ◌∙◌, ap, sym, refl}
use mathlib.Core.Bool.{Bool, true, false}
use mathlib.Core.List.{List, [], ◌∷◌, ◌++◌}
use Prim.Native.Nat.{ℕ, ◌+◌, ◌*◌, ◌≤◌}
use native.Mathlib.Nat.{zero-add}
use native.Mathlib.Omega.{arith}
use borrow.Author.Tests.{eqb-true, ltb-false}
use lib.Dec.{eqb, ltb}
use lib.ListN.{length, drop}
use lib.Seq.{sets, sets-eq}
use Rattle.cells.specs.Bytes.{pick}
use Rattle.cells.proofs.Bools.{split}
use Rattle.record.specs.Layout.{most_bytes, most_fields, layout, fixed_width, kind_of}
use Rattle.record.specs.Contents.{group_kept}
use Rattle.record.specs.Read.{entry_width}
use Rattle.record.specs.declared.layout.Kind.{Kind}
use Rattle.std.specs.Prelude.{Err, None, Ok, Option, Some}
use Rattle.record.proofs.Layouts.{total_most}
use Rattle.writing.specs.Widths.{width_after, capped, all_inside}
use Rattle.writing.specs.Write.{◌next◌, first_faulty, fixed_judged, entries, optional_of, next_id, entry_kept, fields_judged, record_text, length_judged, lent_judged, rest_judged, write_judged}
use Rattle.writing.specs.declared.answer.Refusal.{Refusal}
use Rattle.writing.specs.Verdicts.{Verdict}
use Rattle.writing.specs.declared.entries.Entry.{Entry}
use Rattle.writing.proofs.Contents.{kept_inside}
use Rattle.writing.proofs.Widths.{record_wide, capped_judged}

-- a test that refuses where it holds, or where it does not, and does not refuse
refuses_true : (b : Bool) (r : Refusal) (v : Verdict) (n : ℕ) → pick b (Err r) v ≡ Ok n → (b ≡ false) × (v ≡ Ok n)
refuses_true true r v n e = absurd (cc)
refuses_true false r v n e = (refl, e)

pub refuses_false : (b : Bool) (v : Verdict) (r : Refusal) (n : ℕ) → pick b v (Err r) ≡ Ok n → (b ≡ true) × (v ≡ Ok n)
refuses_false true v r n e = (refl, e)
refuses_false false v r n e = absurd (cc)

-- a verdict that fits after a stage: the stage fits too, and so does the rest
then_first : (a b : Verdict) (n : ℕ) → (a next b) ≡ Ok n → (m : ℕ) × (a ≡ Ok m)
unfolding ◌next◌
then_first (Err r) b n e = absurd (cc)
then_first (Ok m) b n e = (m, refl)

then_second : (a b : Verdict) (n : ℕ) → (a next b) ≡ Ok n → b ≡ Ok n
unfolding ◌next◌
then_second (Err r) b n e = absurd (cc)
then_second (Ok m) b n e = e

-- fields that fit: each content stands inside the lent bytes
pub fields_inside : (k : Kind) (contents : List ℕ) (before : Option ℕ) (i : ℕ) (es : List Entry) (m : ℕ)
    → fields_judged k contents before i es ≡ Ok m → all_inside contents es ≡ true
unfolding fields_judged all_inside
fields_inside k contents before i [] m h = refl
fields_inside k contents before i (e ∷ es) m h =
    let a = refuses_false (entry_kept k contents e) _ _ m h in
    let b = refuses_false (group_kept before e.id (next_id es)) _ _ m a.1 in
    rw (kept_inside contents e k a.0) (fields_inside k contents (Some e.id) (i + 1) es m b.1)

-- a fixed part that fits is of a kind, as long as that, and without a faulty field
pub fixed_known : (j : Option Kind) (fixed : List ℕ) (m : ℕ) → fixed_judged j fixed ≡ Ok m
    → (k : Kind) × (j ≡ Some k) × (length fixed ≡ fixed_width k) × (first_faulty k fixed ≡ length (layout k))
unfolding fixed_judged
fixed_known None fixed m e = absurd (cc)
fixed_known (Some k) fixed m e =
    let a = refuses_false (eqb (length fixed) (fixed_width k)) _ _ m e in
    let b = refuses_false (eqb (first_faulty k fixed) (length (layout k))) _ _ m a.1 in
    (k, refl, eqb-true _ _ a.0, eqb-true _ _ b.0)

-- which is no longer than a delivery's
pub fixed_most : (fixed : List ℕ) (m : ℕ) → fixed_judged (kind_of fixed) fixed ≡ Ok m → length fixed ≤ 108
unfolding fixed_width
fixed_most fixed m e =
    let k = fixed_known (kind_of fixed) fixed m e in
    omega (arith, total_most k.0)

-- a length that fits is within the most and within the output
length_fits : (w : ℕ) (out : List ℕ) (n : ℕ) → length_judged w out ≡ Ok n → (w ≡ n) × (w ≤ most_bytes) × (w ≤ length out)
unfolding length_judged
length_fits w out n e =
    let a = refuses_true (ltb most_bytes w) _ _ n e in
    let b = refuses_true (ltb (length out) w) _ _ n a.1 in
    let q : Ok w ≡ Ok n = b.1 in
    ((cc), ltb-false _ _ a.0, ltb-false _ _ b.0)

-- all that is known of a record of a kind that is written, of n bytes
pub record Fitting (k : Kind) (fixed table : List ℕ) (count : ℕ) (contents out : List ℕ) (n : ℕ) : Type 0 where
  pub named : kind_of fixed ≡ Some k
  pub wide : length fixed ≡ fixed_width k
  pub sound : first_faulty k fixed ≡ length (layout k)
  pub few : count ≤ most_fields
  pub listed : count * entry_width ≤ length table
  pub kept : (m : ℕ) × (fields_judged k contents None 0 (entries count table) ≡ Ok m)
  pub long : length (record_text fixed (optional_of contents (entries count table))) ≡ n
  pub short : n ≤ most_bytes
  pub room : n ≤ length out

module _ (fixed table : List ℕ) (count : ℕ) (contents out : List ℕ) (n : ℕ) (e : write_judged fixed table count contents out ≡ Ok n) where
  -- a record that fits is all that
  pub fitting : (k : Kind) × Fitting k fixed table count contents out n
  unfolding write_judged rest_judged
  fitting =
      let one = then_first (fixed_judged (kind_of fixed) fixed) _ n e in
      let k = fixed_known (kind_of fixed) fixed one.0 one.1 in
      let rest : rest_judged (Some k.0) fixed table count contents out ≡ Ok n =
      ap (λ (j : Option Kind). rest_judged j fixed table count contents out) (sym k.1) ∙ then_second (fixed_judged (kind_of fixed) fixed) _ n e in
      let a = refuses_true (ltb most_fields count) _ _ n rest in
      let b = refuses_true (ltb (length table) (count * entry_width)) _ _ n a.1 in
      let two = then_first (fields_judged k.0 contents None 0 (entries count table)) _ n b.1 in
      let l = length_fits _ out n (then_second (fields_judged k.0 contents None 0 (entries count table)) _ n b.1) in (
        k.0,
        record {
          named = k.1;
          wide = k.2;
          sound = k.3;
          few = ltb-false _ _ a.0;
          listed = ltb-false _ _ b.0;
          kept = two;
          long = l.0;
          short = (omega arith);
          room = (omega arith);
        },
      )

  -- its contents stand inside the lent bytes
  pub fits_inside : all_inside contents (entries count table) ≡ true
  fits_inside = let f = fitting in fields_inside f.0 contents None 0 (entries count table) f.1.kept.0 f.1.kept.1

  -- it is as long as reckoned
  pub fits_width : width_after (length fixed) (entries count table) ≡ n
  fits_width = sym (record_wide fixed contents (entries count table) fits_inside) ∙ fitting.1.long

  -- stored at the front of the output, it is what is to be written
  pub fits_stored : sets out 0 (record_text fixed (optional_of contents (entries count table)))
      ≡ record_text fixed (optional_of contents (entries count table)) ++ drop n out
  fits_stored =
      let f = fitting.1 in
      sets-eq (record_text fixed (optional_of contents (entries count table))) out 0 (rw f.long (omega arith))
      ∙ rw (zero-add, f.long)

-- the stages one after the other, the length as it is reckoned
pub next_err : (r : Refusal) (b : Verdict) → ◌≡◌ {A = Verdict} (Err r next b) (Err r)
unfolding ◌next◌
next_err r b = refl

pub next_ok : (n : ℕ) (b : Verdict) → ◌≡◌ {A = Verdict} (Ok n next b) b
unfolding ◌next◌
next_ok n b = refl

module _ (k : Kind) (fixed table : List ℕ) (count : ℕ) (contents out : List ℕ) where
  reckoned_judged : (v : Verdict) → v ≡ fields_judged k contents None 0 (entries count table)
      → (v next length_judged (length (record_text fixed (optional_of contents (entries count table)))) out)
      ≡ (v next length_judged (capped most_bytes (width_after (length fixed) (entries count table))) out)
  unfolding ◌next◌
  reckoned_judged (Err r) e = refl
  reckoned_judged (Ok m) e =
      let es = entries count table in
      rw (record_wide fixed contents es (fields_inside k contents None 0 es m (sym e))) (sym (capped_judged (width_after (length fixed) es) out))

  pub rest_is : rest_judged (Some k) fixed table count contents out
      ≡ (lent_judged most_fields table count
      next (fields_judged k contents None 0 (entries count table)
      next length_judged (capped most_bytes (width_after (length fixed) (entries count table))) out))
  unfolding rest_judged lent_judged ◌next◌
  rest_is =
      split (ltb most_fields count) (λ e. rw e)
      (λ e. rw e (split (ltb (length table) (count * entry_width)) (λ g. rw g) (λ g. rw g (reckoned_judged (fields_judged k contents None 0 (entries count table)) refl))))

pub ruleset staged = (rest_is, next_err, next_ok)
