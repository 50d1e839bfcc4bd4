-- Entries that writing accepts are those that name, inside the lent contents, optional fields that are kept, of bytes that are allowed.
use mathlib.Core.Path.{◌≡◌, refl}
use mathlib.Core.Bool.{true, ◌&&◌}
use mathlib.Core.List.{List, [], ◌∷◌}
use Prim.Native.Nat.{ℕ, ◌+◌}
use borrow.Author.Tests.{lt-ltb}
use lib.Dec.{ltb}
use Rattle.cells.specs.Bytes.{all}
use Rattle.cells.proofs.Bools.{and_left, and_right}
use Rattle.signs.specs.Class.{allowed, belongs}
use Rattle.signs.specs.declared.Class.TheVariants.{Allowed}
use Rattle.record.specs.Contents.{content_kept, group_kept}
use Rattle.record.specs.Fields.{last_id, not_star}
use Rattle.record.specs.declared.layout.Kind.{Kind}
use Rattle.writing.specs.Write.{content_byte, content_in, optional_in, optional_of, inside, writable, next_id, entry_kept, fields_judged}
use Rattle.writing.specs.Widths.{all_inside}
use Rattle.writing.specs.declared.answer.Refusal.TheVariants.{Content, Group}
use Rattle.std.specs.Prelude.{Ok, Some, Option}
use Rattle.writing.specs.declared.entries.Entry.{Entry}
use Rattle.writing.proofs.Fitting.{refuses_false}
use Rattle.roundtrip.specs.Record.{id_after, optional_kept}
use Rattle.roundtrip.proofs.Sequences.{all_and}
use Rattle.roundtrip.proofs.Texts.{contents_allowed}
use Rattle.roundtrip.proofs.OptionalKept.{first_kept}

-- entries of a record of a kind, with the lent contents
module _ (k : Kind) (contents : List ℕ) where
  -- the ID after the entries is that after the fields that they name
  next_id_law : (es : List Entry) → id_after (optional_of contents es) ≡ next_id es
  unfolding optional_of optional_in next_id
  next_id_law [] = refl
  next_id_law (e ∷ es) = refl

  -- what an accepted entry and those after it have passed
  record Passed (before : Option ℕ) (i : ℕ) (e : Entry) (es : List Entry) (m : ℕ) : Type 0 where
    below : ltb e.id last_id ≡ true
    bytes : all (belongs Allowed) (content_in contents e) && all not_star (content_in contents e) ≡ true
    content : content_kept k e.id (content_in contents e) ≡ true
    group : group_kept before e.id (next_id es) ≡ true
    others : fields_judged k contents (Some e.id) (i + 1) es ≡ Ok m

  passes : (before : Option ℕ) (i : ℕ) (e : Entry) (es : List Entry) (m : ℕ) → fields_judged k contents before i (e ∷ es) ≡ Ok m → Passed before i e es m
  unfolding fields_judged entry_kept writable belongs
  passes before i e es m h =
      let one = refuses_false (entry_kept k contents e) _ (Content i) m h in
      let two = refuses_false (group_kept before e.id (next_id es)) _ (Group i) m one.1 in
      let w = and_left (writable contents e) (content_kept k e.id (content_in contents e)) one.0 in
      let r = and_right (ltb e.id last_id) _ w in
      record {
        below = and_left (ltb e.id last_id) _ w;
        bytes = rw (all_and allowed not_star (content_in contents e)) at (and_right (inside contents e) (all content_byte (content_in contents e)) r);
        content = and_right (writable contents e) _ one.0;
        group = two.0;
        others = two.1;
      }

  -- the fields that accepted entries name are kept
  pub accepted_kept : (before : Option ℕ) (i : ℕ) (es : List Entry) (m : ℕ) → fields_judged k contents before i es ≡ Ok m
      → optional_kept k before (optional_of contents es) ≡ true
  unfolding optional_of optional_in optional_kept
  accepted_kept before i [] m h = refl
  accepted_kept before i (e ∷ es) m h =
      let p = passes before i e es m h in
      rw (p.below, and_right (all (belongs Allowed) (content_in contents e)) _ p.bytes, p.content, next_id_law es, p.group)
      (accepted_kept (Some e.id) (i + 1) es m p.others)

  -- and their bytes are allowed
  pub accepted_allowed : (before : Option ℕ) (i : ℕ) (es : List Entry) (m : ℕ) → fields_judged k contents before i es ≡ Ok m
      → contents_allowed (optional_of contents es) ≡ true
  unfolding optional_of optional_in contents_allowed
  accepted_allowed before i [] m h = refl
  accepted_allowed before i (e ∷ es) m h =
      let p = passes before i e es m h in
      rw (and_left (all (belongs Allowed) (content_in contents e)) (all not_star (content_in contents e)) p.bytes) (accepted_allowed (Some e.id) (i + 1) es m p.others)

  -- entries inside the lent contents whose fields are kept, of bytes that are allowed, are accepted
  pub kept_accepted : (before : Option ℕ) (i : ℕ) (es : List Entry) → all_inside contents es ≡ true → optional_kept k before (optional_of contents es) ≡ true
      → contents_allowed (optional_of contents es) ≡ true → fields_judged k contents before i es ≡ Ok 0
  unfolding optional_of optional_in contents_allowed all_inside fields_judged entry_kept writable belongs
  kept_accepted before i [] within kept ok = refl
  kept_accepted before i (e ∷ es) within kept ok =
      let a = first_kept k before (optional_in contents e) (optional_of contents es) kept in
      let o = and_left (all (belongs Allowed) (content_in contents e)) _ ok in
      let b : all content_byte (content_in contents e) ≡ true = rw (all_and allowed not_star (content_in contents e), o) a.plain in
      rw (lt-ltb e.id last_id a.below, and_left (inside contents e) _ within, b, a.content, ← next_id_law es, a.group)
      (kept_accepted (Some e.id) (i + 1) es (and_right (inside contents e) _ within) a.others (and_right (all (belongs Allowed) (content_in contents e)) _ ok))
