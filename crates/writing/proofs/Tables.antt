-- The entries of a table, one at a time, and what is said of the one that stands in front.
use mathlib.Core.Path.{◌≡◌}
use mathlib.Core.Bool.{true, false}
use mathlib.Core.List.{List, [], ◌∷◌}
use Prim.Native.Nat.{ℕ, suc, ◌+◌, ◌-◌, ◌*◌, ◌≤◌, ◌<◌}
use native.Mathlib.Nat.{add-zero}
use native.Mathlib.Omega.{arith}
use lib.ListN.{get_or, drop}
use lib.Seq.{drop-drop, get_or-drop}
use Rattle.record.specs.Contents.{group_kept}
use Rattle.record.specs.Fields.{last_id}
use Rattle.record.specs.Read.{entry_width}
use Rattle.record.specs.declared.layout.Kind.{Kind}
use Rattle.writing.specs.Write.{entry_of, entries, next_id, entry_kept, fields_judged}
use Rattle.writing.specs.declared.answer.Refusal.TheVariants.{Content, Group}
use Rattle.std.specs.Prelude.{Err, Ok, Option, Some}

-- the entry that stands at a place of a table
pub entry_from : (at : ℕ) (table : List ℕ)
    → entry_of (drop at table) ≡ record { id = get_or table at 0; place = get_or table (at + 1) 0; width = get_or table (at + 2) 0 }
unfolding entry_of
entry_from at table = simp (get_or-drop, add-zero)

-- the entries from index i on, where one is left
module _ (count i : ℕ) (table : List ℕ) (h : i < count) where
  -- the first stands in front of the others
  pub entries_first : entries (count - i) (drop (i * entry_width) table)
      ≡ entry_of (drop (i * entry_width) table) ∷ entries (count - (i + 1)) (drop ((i + 1) * entry_width) table)
  unfolding entries
  entries_first =
      let q : count - i ≡ suc (count - (i + 1)) = omega arith in
      let k : i * entry_width + entry_width ≡ (i + 1) * entry_width = omega arith in
      rw (q, drop-drop entry_width (i * entry_width) table, k)

  -- and has the ID that follows
  pub next_is : next_id (entries (count - i) (drop (i * entry_width) table)) ≡ get_or table (i * entry_width) 0
  unfolding next_id
  next_is = rw (entries_first, entry_from (i * entry_width) table)

-- where none is left there are none
pub entries_end : (count i : ℕ) (table : List ℕ) → count ≤ i → entries (count - i) table ≡ []
unfolding entries
entries_end count i table h =
    let q : count - i ≡ 0 = omega arith in
    rw q

-- and the last field follows
pub next_last : (count i : ℕ) (table : List ℕ) → count ≤ i → next_id (entries (count - i) table) ≡ last_id
unfolding next_id
next_last count i table h = rw (entries_end count i table h)

-- judged as a field: its content cannot stand, its group is broken, or the fields after it are judged
module _ (k : Kind) (contents : List ℕ) (before : Option ℕ) (i count : ℕ) (table : List ℕ) where
  pub content_refused : i < count → entry_kept k contents (entry_of (drop (i * entry_width) table)) ≡ false
      → fields_judged k contents before i (entries (count - i) (drop (i * entry_width) table)) ≡ Err (Content i)
  unfolding fields_judged
  content_refused h a = rw (entries_first count i table h, a)

  pub group_refused : i < count → entry_kept k contents (entry_of (drop (i * entry_width) table)) ≡ true
      → group_kept before (entry_of (drop (i * entry_width) table)).id (next_id (entries (count - (i + 1)) (drop ((i + 1) * entry_width) table))) ≡ false
      → fields_judged k contents before i (entries (count - i) (drop (i * entry_width) table)) ≡ Err (Group i)
  unfolding fields_judged
  group_refused h a g = rw (entries_first count i table h, a, g)

  pub field_passed : i < count → entry_kept k contents (entry_of (drop (i * entry_width) table)) ≡ true
      → group_kept before (entry_of (drop (i * entry_width) table)).id (next_id (entries (count - (i + 1)) (drop ((i + 1) * entry_width) table))) ≡ true
      → fields_judged k contents before i (entries (count - i) (drop (i * entry_width) table))
      ≡ fields_judged k contents (Some (entry_of (drop (i * entry_width) table)).id) (i + 1) (entries (count - (i + 1)) (drop ((i + 1) * entry_width) table))
  unfolding fields_judged
  field_passed h a g = rw (entries_first count i table h, a, g)

  -- with no field left nothing is refused
  pub fields_end : count ≤ i → fields_judged k contents before i (entries (count - i) (drop (i * entry_width) table)) ≡ Ok 0
  unfolding fields_judged
  fields_end h = rw (entries_end count i (drop (i * entry_width) table) h)

pub ruleset judged_on = (content_refused, group_refused, field_passed, fields_end)
