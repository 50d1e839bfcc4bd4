-- The fields that loops may be, found in a table and judged.
use mathlib.Core.Path.{◌≡◌, ◌∙◌, ap}
use mathlib.Core.Bool.{true, false}
use mathlib.Core.List.{List, [], ◌∷◌}
use Prim.Native.Nat.{ℕ, ◌+◌, ◌-◌, ◌*◌, ◌/◌, ◌%◌, ◌≤◌, ◌<◌}
use native.Mathlib.Omega.{arith}
use borrow.Author.Tests.{eq-eqb, ne_eqb, lt-ltb, le-ltb}
use lib.Dec.{eqb}
use lib.ListN.{length, drop}
use Rattle.cells.proofs.Bools.{split}
use Rattle.record.specs.Fields.{Optional}
use Rattle.record.specs.Read.{entry_width}
use Rattle.writing.specs.Write.{entries, optional_of}
use Rattle.writing.specs.declared.entries.Entry.{Entry}
use Rattle.writing.proofs.Halves.{entries_length, fields_length, fields_drop}
use Rattle.parts.specs.Entries.{others_among}
use Rattle.parts.specs.Loops.{part_id, loop_fields, most_parts, are_loops, loops_of, whole_loops}
use Rattle.parts.specs.Read.{loops_judged}
use Rattle.parts.specs.declared.answer.Refusal.TheVariants.{Broken, TooMany}
use Rattle.std.specs.Prelude.{Err, Ok}
use Rattle.parts.proofs.Members.{others_named}

-- no more entries stand before the loops than there are
others_few : (es : List Entry) → others_among es ≤ length es
unfolding others_among
others_few [] = omega arith
others_few (e ∷ es) =
    let ih = others_few es in
    split (eqb e.id part_id) (λ t. rw t (omega arith)) (λ t. rw t (omega arith))

-- the fields of a table from the first that a loop may begin with on
module _ (contents table : List ℕ) (count : ℕ) where
  pub first_few : others_among (entries count table) ≤ count
  first_few = omega (arith, others_few (entries count table), entries_length count table)

  -- are those that the table names from there on
  pub loops_from : loops_of (optional_of contents (entries count table))
      ≡ optional_of contents (entries (count - others_among (entries count table)) (drop (others_among (entries count table) * entry_width) table))
  unfolding loops_of
  loops_from =
      let first = others_among (entries count table) in
      let e : first + (count - first) ≡ count = omega (arith, first_few) in
      ap (λ (k : ℕ). drop k (optional_of contents (entries count table))) (others_named contents (entries count table))
      ∙ rw e at (fields_drop contents first (count - first) table)

  -- and so many
  pub loops_long : length (loops_of (optional_of contents (entries count table))) ≡ count - others_among (entries count table)
  loops_long = rw (loops_from, fields_length, entries_length)

-- 26, then 27, of fields
module _ (fs : List Optional) where
  pub loops_none : length fs ≡ 0 → loops_judged fs ≡ Err Broken
  unfolding loops_judged
  loops_none e = rw (eq-eqb _ _ e)

  pub loops_uneven : (length fs ≡ 0 → ⊥) → (length fs % loop_fields ≡ 0 → ⊥) → loops_judged fs ≡ Err Broken
  unfolding loops_judged whole_loops
  loops_uneven s h = rw (ne_eqb _ _ s, ne_eqb _ _ h)

  pub loops_broken : (length fs ≡ 0 → ⊥) → length fs % loop_fields ≡ 0 → are_loops (length fs / loop_fields) fs ≡ false → loops_judged fs ≡ Err Broken
  unfolding loops_judged whole_loops
  loops_broken s even h = rw (ne_eqb _ _ s, eq-eqb _ _ even, h)

  pub loops_many : (length fs ≡ 0 → ⊥) → length fs % loop_fields ≡ 0 → are_loops (length fs / loop_fields) fs ≡ true
      → most_parts < length fs / loop_fields → loops_judged fs ≡ Err TooMany
  unfolding loops_judged whole_loops
  loops_many s even whole h = rw (ne_eqb _ _ s, eq-eqb _ _ even, whole, lt-ltb _ _ h)

  pub loops_fit : (length fs ≡ 0 → ⊥) → length fs % loop_fields ≡ 0 → are_loops (length fs / loop_fields) fs ≡ true
      → length fs / loop_fields ≤ most_parts → loops_judged fs ≡ Ok (length fs / loop_fields)
  unfolding loops_judged whole_loops
  loops_fit s even whole h = rw (ne_eqb _ _ s, eq-eqb _ _ even, whole, le-ltb _ _ h)

pub ruleset loops_staged = (first_few, loops_from, loops_long, loops_none, loops_uneven, loops_broken, loops_many, loops_fit)
