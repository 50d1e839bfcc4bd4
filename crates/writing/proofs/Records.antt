-- Fields stored one after the other.
use mathlib.Core.Path.{◌≡◌, sym, ap, ◌∙◌}
use mathlib.Core.Bool.{true}
use mathlib.Core.List.{List, [], ◌∷◌, append-nil}
use Prim.Native.Nat.{ℕ, suc, ◌+◌, ◌-◌, ◌*◌, ◌≤◌, ◌<◌}
use native.Mathlib.Nat.{zero-add}
use native.Mathlib.Numerals.{add-one}
use native.Mathlib.Omega.{arith}
use lib.ListN.{length, set, drop, length-append}
use lib.Seq.{sets, length-slice}
use borrow.Author.Tests.{leb-true}
use Rattle.cells.specs.Bytes.{bytes}
use Rattle.cells.proofs.Bools.{and_left, and_right}
use Rattle.cells.proofs.Stores.{sets_append}
use Rattle.record.specs.Fields.{Optional, head_width}
use Rattle.record.specs.Read.{entry_width}
use Rattle.writing.specs.Digits.{digits_of}
use Rattle.writing.specs.Widths.{width_after, all_inside}
use Rattle.writing.specs.Write.{entry_of, entries, content_in, optional_in, optional_of, inside, field_text, optional_text, record_text}
use Rattle.writing.specs.declared.entries.Entry.{Entry}
use Rattle.writing.proofs.Tables.{entries_first, entries_end}
use Rattle.writing.proofs.Decimals.{digits_length}

-- a content inside the lent bytes ends there
pub inside_most : (contents : List ℕ) (e : Entry) → inside contents e ≡ true → e.place + e.width ≤ length contents
unfolding inside
inside_most contents e h = leb-true (e.place + e.width) (length contents) h

-- how long a field is, and how long where its content is inside
text_length : (contents : List ℕ) (e : Entry) → length (field_text (optional_in contents e)) ≡ head_width + length (content_in contents e)
unfolding field_text optional_in
text_length contents e = ap suc (length-append (digits_of 4 e.id) (content_in contents e)) ∙ rw digits_length (omega arith)

pub field_length : (contents : List ℕ) (e : Entry) → inside contents e ≡ true → length (field_text (optional_in contents e)) ≡ head_width + e.width
unfolding content_in
field_length contents e h =
    text_length contents e ∙ rw (length-slice e.place (e.place + e.width) contents (inside_most contents e h)) (omega arith)

-- a star and four digits are a field without a content
pub head_stored : (l : List ℕ) (at id : ℕ) → sets (set l at 42) (at + 1) (digits_of 4 id) ≡ sets l at (field_text (record { id = id; content = [] }))
unfolding field_text
head_stored l at id = rw (append-nil (digits_of 4 id), add-one)

-- with a content behind them they are the field
pub content_stored : (l : List ℕ) (at id : ℕ) (c : List ℕ)
    → sets (sets l at (field_text (record { id = id; content = [] }))) (at + head_width) c ≡ sets l at (field_text (record { id = id; content = c }))
unfolding field_text
content_stored l at id c =
    let k : suc at + 4 ≡ at + head_width = omega arith in
    rw (append-nil (digits_of 4 id)) (sym (sets_append (set l at 42) (suc at) (digits_of 4 id) c ∙ rw (digits_length, k)))

-- the fixed part and then the fields are the record
pub record_stored : (l fixed : List ℕ) (fs : List Optional) → sets l 0 (record_text fixed fs) ≡ sets (sets l 0 fixed) (length fixed) (optional_text fs)
unfolding record_text
record_stored l fixed fs = sets_append l 0 fixed (optional_text fs) ∙ rw zero-add

-- a record is at least as long as what stands before its fields, and `*9999`
pub width_least : (n : ℕ) (es : List Entry) → n + 5 ≤ width_after n es
unfolding width_after
width_least n [] = omega arith
width_least n (e ∷ es) = omega (arith, width_least (n + 5 + e.width) es)

-- of entries that are a first one and others
module _ {e : Entry} {es xs : List Entry} (q : xs ≡ e ∷ es) where
  pub first_inside : (contents : List ℕ) → all_inside contents xs ≡ true → inside contents e ≡ true
  unfolding all_inside
  first_inside contents h = and_left (inside contents e) (all_inside contents es) (rw q at h)

  pub rest_inside : (contents : List ℕ) → all_inside contents xs ≡ true → all_inside contents es ≡ true
  unfolding all_inside
  rest_inside contents h = and_right (inside contents e) (all_inside contents es) (rw q at h)

-- the fields that are left from index i on
module _ (l : List ℕ) (at : ℕ) (contents : List ℕ) (count i : ℕ) (table : List ℕ) where
  -- the first stored leaves the others to store behind it
  pub text_next : i < count
      → sets l at (optional_text (optional_of contents (entries (count - i) (drop (i * entry_width) table))))
      ≡ sets (sets l at (field_text (optional_in contents (entry_of (drop (i * entry_width) table)))))
      (at + head_width + length (content_in contents (entry_of (drop (i * entry_width) table))))
      (optional_text (optional_of contents (entries (count - (i + 1)) (drop ((i + 1) * entry_width) table))))
  unfolding optional_text optional_of
  text_next h =
      let e = entry_of (drop (i * entry_width) table) in
      let k : at + length (field_text (optional_in contents e)) ≡ at + head_width + length (content_in contents e) = rw (text_length contents e) (omega arith) in
      rw (entries_first count i table h, ← k) (sets_append l at (field_text (optional_in contents e)) _)

  -- past the last one `*9999` is left to store
  pub text_end : count ≤ i → sets l at (optional_text (optional_of contents (entries (count - i) (drop (i * entry_width) table)))) ≡ sets l at (bytes "*9999")
  unfolding optional_text optional_of
  text_end h = rw (entries_end count i (drop (i * entry_width) table) h)

pub ruleset stored = (record_stored, text_next, text_end)
