-- The one table of all fields: a table's own entries, moved, and then those of the fields that are listed behind them.
use mathlib.Core.Path.{◌≡◌, refl, ◌∙◌, ap, ap₂}
use mathlib.Core.List.{List, [], ◌∷◌, ◌++◌, map}
use Prim.Native.Nat.{ℕ, zero, suc, ◌+◌, ◌*◌, ◌≤◌, ◌<◌}
use native.Mathlib.Omega.{arith}
use lib.ListN.{length, drop, length-append}
use lib.Seq.{drop_at}
use Rattle.record.specs.Fields.{Optional}
use Rattle.record.specs.Read.{entry_width}
use Rattle.writing.specs.Write.{entry_of, entries}
use Rattle.writing.specs.declared.entries.Entry.{Entry}
use Rattle.writing.proofs.Halves.{entries_halves}
use Rattle.parts.specs.Write.{contents_of, listed, moved, entries_there, table_with}

-- an entry for contents that stand so many bytes further on
abbrev pub moved_entry : ℕ → Entry → Entry
moved_entry by e = record { id = e.id; place = by + e.place; width = e.width }

-- the entries of fields whose contents stand one after the other from a place on
abbrev pub listed_entries : ℕ → List Optional → List Entry
listed_entries at fs = entries (length fs) (listed at fs)

-- moved entries take as many numbers as before
moved_long : (by n : ℕ) (table : List ℕ) → length (moved by n table) ≡ n * entry_width
unfolding moved
moved_long by zero table = refl
moved_long by (suc n) table = let ih = moved_long by n (drop entry_width table) in omega arith

-- and are a table's first entries, each moved
moved_entries : (by n : ℕ) (table rest : List ℕ) → entries n (moved by n table ++ rest) ≡ map (moved_entry by) (entries n table)
unfolding entries entry_of moved
moved_entries by zero table rest = refl
moved_entries by (suc n) table rest =
    ap (λ (es : List Entry). moved_entry by (entry_of table) ∷ es) (moved_entries by n (drop entry_width table) rest)

-- fields that are listed take three numbers each
listed_long : (at : ℕ) (fs : List Optional) → length (listed at fs) ≡ length fs * entry_width
unfolding listed
listed_long at [] = refl
listed_long at (f ∷ fs) = let ih = listed_long (at + length f.content) fs in omega arith

module _ (more : List Optional) (table : List ℕ) (count : ℕ) where
  -- how many numbers the one table has
  all_long : length (table_with more table count) ≡ (entries_there count table + length more) * entry_width
  all_long =
      let a = length-append (moved (length (contents_of more)) (entries_there count table) table) (listed 0 more) in
      let b = moved_long (length (contents_of more)) (entries_there count table) table in
      let d = listed_long 0 more in
      omega arith

  -- it is too short where the table is
  pub table_short : length table < count * entry_width → length (table_with more table count) < (count + length more) * entry_width
  unfolding entries_there
  table_short h = omega (arith, all_long)

  -- and long enough only where the table is
  pub table_whole : (count + length more) * entry_width ≤ length (table_with more table count) → count * entry_width ≤ length table
  unfolding entries_there
  table_whole h = omega (arith, all_long)

  module _ (h : count * entry_width ≤ length table) where
    -- a table that is long enough has all its entries
    all_there : entries_there count table ≡ count
    unfolding entries_there
    all_there = omega arith

    -- so the one table is long enough
    pub table_long : (count + length more) * entry_width ≤ length (table_with more table count)
    table_long = omega (arith, all_long, all_there)

    -- and its entries are those of the table, moved, and then those of the others
    pub all_entries : entries (count + length more) (table_with more table count)
        ≡ map (moved_entry (length (contents_of more))) (entries count table) ++ listed_entries 0 more
    all_entries =
        let by = length (contents_of more) in
        let own = moved by count table in
        rw all_there (entries_halves count (length more) (own ++ listed 0 more)
        ∙ ap₂ (λ (xs ys : List Entry). xs ++ ys) (moved_entries by count table (listed 0 more))
        (ap (entries (length more)) (drop_at own (listed 0 more) (count * entry_width) (moved_long by count table))))
