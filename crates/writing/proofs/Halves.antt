-- The entries of a table in two parts: the first of them, and those after them.
use mathlib.Core.Path.{◌≡◌, ◌∙◌, ap, sym, refl}
use mathlib.Core.Bool.{true, ◌&&◌}
use mathlib.Core.List.{List, [], ◌∷◌, ◌++◌}
use Prim.Native.Nat.{ℕ, zero, suc, ◌+◌, ◌-◌, ◌*◌, ◌≤◌, ◌<◌}
use native.Mathlib.Nat.{zero-add, suc-add}
use native.Mathlib.Omega.{arith}
use lib.ListN.{length, take, drop}
use lib.Seq.{drop-drop, take_at, drop_at}
use Rattle.cells.proofs.Bools.{split, and_left, and_right}
use Rattle.record.specs.Fields.{Optional}
use Rattle.record.specs.Read.{entry_width}
use Rattle.writing.specs.Widths.{all_inside}
use Rattle.writing.specs.Write.{entry_of, entries, optional_in, optional_of, inside}
use Rattle.writing.specs.declared.entries.Entry.{Entry}
use Rattle.writing.proofs.Records.{inside_most, first_inside}
use Rattle.writing.proofs.Tables.{entries_first}

-- a table's first n entries are n
pub entries_length : (n : ℕ) (table : List ℕ) → length (entries n table) ≡ n
unfolding entries
entries_length zero table = refl
entries_length (suc n) table = ap suc (entries_length n (drop entry_width table))

-- and name a field each
pub fields_length : (contents : List ℕ) (es : List Entry) → length (optional_of contents es) ≡ length es
unfolding optional_of
fields_length contents [] = refl
fields_length contents (e ∷ es) = ap suc (fields_length contents es)

-- the first a entries and the b after them
pub entries_halves : (a b : ℕ) (table : List ℕ) → entries (a + b) table ≡ entries a table ++ entries b (drop (a * entry_width) table)
unfolding entries
entries_halves zero b table = rw zero-add
entries_halves (suc a) b table =
    let k : entry_width + a * entry_width ≡ suc a * entry_width = omega arith in
    rw (suc-add a b, entries_halves a b (drop entry_width table), drop-drop (a * entry_width) entry_width table, k)

module _ (contents : List ℕ) where
  -- the fields that they name
  pub fields_append : (es fs : List Entry) → optional_of contents (es ++ fs) ≡ optional_of contents es ++ optional_of contents fs
  unfolding optional_of
  fields_append [] fs = refl
  fields_append (e ∷ es) fs = ap (λ (xs : List Optional). optional_in contents e ∷ xs) (fields_append es fs)

  -- and whether their contents are inside the lent bytes
  pub inside_append : (es fs : List Entry) → all_inside contents (es ++ fs) ≡ all_inside contents es && all_inside contents fs
  unfolding all_inside
  inside_append [] fs = refl
  inside_append (e ∷ es) fs =
      let ih = inside_append es fs in
      split (inside contents e) (λ t. rw t ih) (λ t. rw t)

  module _ (a b : ℕ) (table : List ℕ) where
    halves : optional_of contents (entries (a + b) table) ≡ optional_of contents (entries a table) ++ optional_of contents (entries b (drop (a * entry_width) table))
    halves = ap (optional_of contents) (entries_halves a b table) ∙ fields_append (entries a table) (entries b (drop (a * entry_width) table))

    long : length (optional_of contents (entries a table)) ≡ a
    long = fields_length contents (entries a table) ∙ entries_length a table

    pub fields_take : take a (optional_of contents (entries (a + b) table)) ≡ optional_of contents (entries a table)
    fields_take = ap (take a) halves ∙ take_at (optional_of contents (entries a table)) _ a long

    pub fields_drop : drop a (optional_of contents (entries (a + b) table)) ≡ optional_of contents (entries b (drop (a * entry_width) table))
    fields_drop = ap (drop a) halves ∙ drop_at (optional_of contents (entries a table)) _ a long

    module _ (h : all_inside contents (entries (a + b) table) ≡ true) where
      both : all_inside contents (entries a table) && all_inside contents (entries b (drop (a * entry_width) table)) ≡ true
      both = sym (ap (all_inside contents) (entries_halves a b table) ∙ inside_append (entries a table) (entries b (drop (a * entry_width) table))) ∙ h

      pub inside_take : all_inside contents (entries a table) ≡ true
      inside_take = and_left _ _ both

      pub inside_drop : all_inside contents (entries b (drop (a * entry_width) table)) ≡ true
      inside_drop = and_right (all_inside contents (entries a table)) _ both

-- entries whose contents are inside the lent bytes
module _ (contents : List ℕ) (n count : ℕ) (table : List ℕ) (inside : all_inside contents (entries count table) ≡ true) where
  -- those from one of them on
  pub inside_skip : n ≤ count → all_inside contents (entries (count - n) (drop (n * entry_width) table)) ≡ true
  inside_skip h =
      let e : n + (count - n) ≡ count = omega arith in
      inside_drop contents n (count - n) table (rw e inside)

  -- the first of them
  pub inside_front : n ≤ count → all_inside contents (entries n table) ≡ true
  inside_front h =
      let e : n + (count - n) ≡ count = omega arith in
      inside_take contents n (count - n) table (rw e inside)

  -- and one of them
  pub inside_at : n < count → (entry_of (drop (n * entry_width) table)).place + (entry_of (drop (n * entry_width) table)).width ≤ length contents
  inside_at h =
      inside_most contents (entry_of (drop (n * entry_width) table)) (first_inside (entries_first count n table h) contents (inside_skip (omega arith)))
