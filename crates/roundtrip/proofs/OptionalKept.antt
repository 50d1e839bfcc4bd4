-- Optional fields that are kept are those that reading judges well.
use mathlib.Core.Path.{◌≡◌, ◌∙◌, ap, sym, refl}
use mathlib.Core.Bool.{true, ◌&&◌}
use mathlib.Core.List.{List, [], ◌∷◌}
use Prim.Native.Nat.{ℕ, zero, suc, ◌+◌, ◌<◌}
use borrow.Author.Tests.{ltb-true, lt-ltb}
use lib.Dec.{ltb}
use lib.ListN.{length, drop}
use Rattle.cells.specs.Bytes.{all}
use Rattle.cells.proofs.Bools.{and_left, and_right}
use Rattle.record.specs.Contents.{content_kept, group_kept}
use Rattle.record.specs.Fields.{last_id, head_width, not_star, id_of, content_width, content_of, field_width, after_field, judge, Optional, fields_of}
use Rattle.std.specs.Prelude.{Ok, Some, Option}
use Rattle.record.specs.declared.layout.Kind.{Kind}
use Rattle.reader.proofs.Fitting.{passed}
use Rattle.writing.specs.Write.{optional_text}
use Rattle.roundtrip.specs.Record.{id_after, optional_kept}
use Rattle.roundtrip.proofs.Sequences.{all_front}
use Rattle.roundtrip.proofs.Texts.{Writable, AllWritable, text_id, text_content, text_after, text_starts, last_id_law}
use Rattle.roundtrip.proofs.FieldsBack.{Fields}

-- the first n fields are n
pub fields_count : (n : ℕ) (t : List ℕ) → length (fields_of n t) ≡ n
unfolding fields_of
fields_count zero t = refl
fields_count (suc n) t = ap suc (fields_count n (after_field t))

-- what the first of fields that are kept is, and the others
pub record FirstKept (k : Kind) (before : Option ℕ) (f : Optional) (fs : List Optional) : Type 0 where
  pub below : f.id < last_id
  pub plain : all not_star f.content ≡ true
  pub content : content_kept k f.id f.content ≡ true
  pub group : group_kept before f.id (id_after fs) ≡ true
  pub others : optional_kept k (Some f.id) fs ≡ true

-- optional fields of a record of a kind
module _ (k : Kind) where
  pub first_kept : (before : Option ℕ) (f : Optional) (fs : List Optional) → optional_kept k before (f ∷ fs) ≡ true → FirstKept k before f fs
  unfolding optional_kept
  first_kept before f fs e =
      let one = and_left (ltb f.id last_id && all not_star f.content) _ e in
      let two = and_right (ltb f.id last_id && all not_star f.content) _ e in
      let three = and_right (content_kept k f.id f.content) _ two in
      record {
        below = ltb-true f.id last_id (and_left _ (all not_star f.content) one);
        plain = and_right (ltb f.id last_id) _ one;
        content = and_left (content_kept k f.id f.content) _ two;
        group = and_left _ (optional_kept k (Some f.id) fs) three;
        others = and_right (group_kept before f.id (id_after fs)) _ three;
      }

  -- each that is kept can be told from what follows it
  pub kept_writable : (before : Option ℕ) (fs : List Optional) → optional_kept k before fs ≡ true → AllWritable fs
  kept_writable before [] e = tt
  kept_writable before (f ∷ fs) e =
      let a = first_kept before f fs e in
      (record { below = a.below; plain = a.plain }, kept_writable (Some f.id) fs a.others)

  -- the ID that stands first in their text is that of the first
  text_next : (fs : List Optional) → AllWritable fs → id_of (optional_text fs) ≡ id_after fs
  unfolding optional_text
  text_next [] w = last_id_law
  text_next (f ∷ fs) w = text_id f (optional_text fs) w.0

  -- reading judges their text well
  pub text_judged : (before : Option ℕ) (p : ℕ) (fs : List Optional) → optional_kept k before fs ≡ true → judge k (length fs) before p (optional_text fs) ≡ Ok 0
  unfolding optional_text judge
  text_judged before p [] e = refl
  text_judged before p (f ∷ fs) e =
      let a = first_kept before f fs e in
      let w : Writable f = record { below = a.below; plain = a.plain } in
      let s = text_starts fs in
      rw (
        text_content f (optional_text fs) w s,
        text_after f (optional_text fs) w s,
        text_id f (optional_text fs) w,
        a.content,
        text_next fs (kept_writable (Some f.id) fs a.others),
        a.group,
      )
      (text_judged (Some f.id) _ fs a.others)

  -- the ID of the first field that stands in t is the ID after those before it
  next_of : (n : ℕ) (t : List ℕ) → Fields n t → id_after (fields_of n t) ≡ id_of t
  unfolding fields_of
  next_of zero t h = sym (ap id_of h ∙ last_id_law)
  next_of (suc n) t h = refl

  -- no star stands in the content of a field
  content_plain : (t : List ℕ) → all not_star (content_of t) ≡ true
  unfolding content_of content_width
  content_plain t = all_front not_star (drop head_width t)

  -- fields that stand in t and that reading judges well are kept
  pub judged_kept : (n : ℕ) (before : Option ℕ) (p : ℕ) (t : List ℕ) (m : ℕ) → Fields n t → judge k n before p t ≡ Ok m → optional_kept k before (fields_of n t) ≡ true
  unfolding judge optional_kept fields_of
  judged_kept zero before p t m h e = refl
  judged_kept (suc n) before p t m h e =
      let one = passed (content_kept k (id_of t) (content_of t)) _ _ m e in
      let two = passed (group_kept before (id_of t) (id_of (after_field t))) _ _ m one.1 in
      rw (lt-ltb (id_of t) last_id h.0.small, content_plain t, one.0, next_of n (after_field t) h.1, two.0)
      (judged_kept n (Some (id_of t)) (p + field_width t) (after_field t) m h.1 two.1)
