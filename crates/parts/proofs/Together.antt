-- The fields of a table and then more, as the one table of all fields: named, and inside the contents, as those of the table are.
use mathlib.Core.Path.{◌≡◌, ap₂}
use mathlib.Core.List.{List, [], ◌++◌, map}
use Prim.Native.Nat.{ℕ, ◌+◌, ◌*◌, ◌≤◌}
use lib.ListN.{length}
use Rattle.cells.proofs.Bools.{and_true}
use Rattle.record.specs.Fields.{Optional}
use Rattle.record.specs.Read.{entry_width}
use Rattle.writing.specs.Widths.{all_inside}
use Rattle.writing.specs.Write.{entries, optional_of}
use Rattle.writing.specs.declared.entries.Entry.{Entry}
use Rattle.writing.proofs.Halves.{fields_append, inside_append}
use Rattle.parts.specs.Write.{contents_of, table_with, contents_with}
use Rattle.parts.proofs.Joined.{moved_entry, listed_entries, all_entries}
use Rattle.parts.proofs.Alike.{alike_fields, alike_inside, moved_alike, listed_names}

module _ (table contents : List ℕ) (count : ℕ) (more : List Optional) (h : count * entry_width ≤ length table) where
  abbrev own : List Entry
  own = map (moved_entry (length (contents_of more))) (entries count table)

  -- the fields are those of the table and then the others
  pub named_together : optional_of (contents_with more contents) (entries (count + length more) (table_with more table count))
      ≡ optional_of contents (entries count table) ++ more
  named_together =
      rw (all_entries more table count h, fields_append (contents_with more contents) own (listed_entries 0 more))
      (ap₂ (λ (xs ys : List Optional). xs ++ ys) (alike_fields (moved_alike (contents_of more) contents (entries count table))) (listed_names [] more contents).0)

  -- all contents are inside where those of the table are
  pub inside_together : all_inside (contents_with more contents) (entries (count + length more) (table_with more table count)) ≡ all_inside contents (entries count table)
  inside_together =
      rw (all_entries more table count h, inside_append (contents_with more contents) own (listed_entries 0 more), (listed_names [] more contents).1, and_true)
      (alike_inside (moved_alike (contents_of more) contents (entries count table)))
