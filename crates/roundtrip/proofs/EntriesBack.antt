-- The entries that a check stored for a record name the record's own fields, with their contents inside it.
use mathlib.Core.Path.{◌≡◌, sym, refl}
use mathlib.Core.Bool.{true}
use mathlib.Core.List.{List, ◌++◌}
use Prim.Native.Nat.{ℕ, zero, suc, ◌+◌}
use native.Mathlib.Omega.{arith}
use borrow.Author.Tests.{le-leb}
use lib.ListN.{length, drop, length-drop}
use lib.Seq.{drop-drop}
use Rattle.record.specs.Fields.{head_width, id_of, content_width, content_of, field_width, after_field, fields_of, entries_of}
use Rattle.walks.proofs.Contents.{end_of, width_most, content_width_law, field_content}
use Rattle.writing.specs.Write.{entry_of, entries, content_in, optional_in, optional_of, inside}
use Rattle.writing.specs.Widths.{all_inside}
use Rattle.writing.specs.declared.entries.Entry.{Entry}
use Rattle.roundtrip.proofs.FieldsBack.{Standing, Fields}

-- the entry of the field at a place of a record
abbrev pub entry_at : List ℕ → ℕ → Entry
entry_at s p = record { id = id_of (drop p s); place = p + head_width; width = content_width (drop p s) }

module _ (s : List ℕ) (p : ℕ) where
  -- it names the field's content
  pub content_back : content_in s (entry_at s p) ≡ content_of (drop p s)
  unfolding content_in end_of
  content_back = rw (content_width_law s p) (sym (field_content s p))

  -- a field that stands there has its content in the record
  pub inside_back : Standing (drop p s) → inside s (entry_at s p) ≡ true
  unfolding inside
  inside_back h =
      le-leb _ (length s)
      (rw (content_width_law s p) (omega (arith, h.wide, length-drop p s, width_most s (p + head_width))))

  -- what comes after it stands after it in the record
  pub after_back : after_field (drop p s) ≡ drop (p + field_width (drop p s)) s
  unfolding after_field
  after_back = drop-drop (field_width (drop p s)) p s

module _ (s : List ℕ) where
  -- n entries stored in front of a table name the n fields from p on
  pub fields_back : (n p : ℕ) (rest : List ℕ) → optional_of s (entries n (entries_of n p (drop p s) ++ rest)) ≡ fields_of n (drop p s)
  unfolding entries_of entries entry_of optional_of optional_in fields_of
  fields_back zero p rest = refl
  fields_back (suc n) p rest = rw (content_back s p, after_back s p, fields_back n (p + field_width (drop p s)) rest)

  -- with their contents inside the record, where fields stand there
  pub stored_inside : (n p : ℕ) (rest : List ℕ) → Fields n (drop p s) → all_inside s (entries n (entries_of n p (drop p s) ++ rest)) ≡ true
  unfolding entries_of entries entry_of all_inside
  stored_inside zero p rest h = refl
  stored_inside (suc n) p rest h =
      rw (inside_back s p h.0, after_back s p)
      (stored_inside n (p + field_width (drop p s)) rest (rw (after_back s p) at h.1))
