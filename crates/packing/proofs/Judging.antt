-- The fields of a table and then those of lent parts, as the one table of all fields, are judged as the table's, and then by the first fault of the parts'.
use Rattle.std.specs.Prelude.{None}
use mathlib.Core.Path.{◌≡◌, ◌∙◌, ap, ap₂}
use mathlib.Core.Bool.{true}
use mathlib.Core.List.{List, [], map}
use Prim.Native.Nat.{ℕ, ◌+◌, ◌*◌, ◌≤◌}
use native.Mathlib.Nat.{zero-add}
use lib.ListN.{length, length-map}
use Rattle.record.specs.Fields.{Optional}
use Rattle.record.specs.Read.{entry_width}
use Rattle.record.specs.declared.layout.Kind.{Kind}
use Rattle.writing.specs.Write.{◌next◌, entries, fields_judged}
use Rattle.writing.specs.Verdicts.{Verdict}
use Rattle.writing.proofs.Halves.{entries_length}
use Rattle.parts.specs.Loops.{are_loops}
use Rattle.parts.specs.Fields.{lent_fields}
use Rattle.parts.specs.Write.{contents_of, table_with, contents_with}
use Rattle.parts.proofs.Joined.{moved_entry, listed_entries, all_entries}
use Rattle.parts.proofs.Alike.{alike_judged, moved_alike, listed_names}
use Rattle.parts.proofs.Lent.{lent_long}
use Rattle.packing.proofs.Junction.{loops_begin, judged_joined}
use Rattle.packing.proofs.Faulted.{ordered, lent_ordered, faulted, judged_faulted}

module _ (k : Kind) (table contents : List ℕ) (count : ℕ) (room : List ℕ) (n : ℕ) where
  -- the fields of n lent parts, and the contents of all fields
  abbrev more : List Optional
  more = lent_fields n room 0

  abbrev lent : List ℕ
  lent = contents_with more contents

  -- the fields of the parts, listed
  listed_judged : (i : ℕ) → fields_judged k lent None i (listed_entries 0 more) ≡ faulted i more
  listed_judged i =
      let named = listed_names [] more contents in
      judged_faulted k lent None i (listed_entries 0 more) named.1 (ap (ordered None) named.0 ∙ lent_ordered n room 0 None)
      ∙ ap (faulted i) named.0

  -- and all fields
  pub judged_together : count * entry_width ≤ length table → are_loops n more ≡ true
      → fields_judged k lent None 0 (entries (count + length more) (table_with more table count))
      ≡ (fields_judged k contents None 0 (entries count table) next faulted count more)
  judged_together h loops =
      let es = entries count table in
      let own = map (moved_entry (length (contents_of more))) es in
      let long : 0 + length own ≡ count = zero-add (length own) ∙ length-map es (moved_entry (length (contents_of more))) ∙ entries_length count table in
      ap (fields_judged k lent None 0) (all_entries more table count h)
      ∙ judged_joined k lent (loops_begin n more (lent_long n room 0) loops 0) None 0 own
      ∙ ap₂ (λ (u v : Verdict). u next v) (alike_judged k (moved_alike (contents_of more) contents es) None 0)
      (ap (λ (i : ℕ). fields_judged k lent None i (listed_entries 0 more)) long ∙ listed_judged count)
