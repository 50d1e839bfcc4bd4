-- The stages of writing, one after the other, by the tests that the code makes.
use mathlib.Core.Path.{◌≡◌}
use mathlib.Core.List.{List, ◌++◌}
use Prim.Native.Nat.{ℕ, ◌*◌, ◌≤◌, ◌<◌}
use borrow.Author.Tests.{eq-eqb, lt-ltb, le-ltb}
use lib.ListN.{length, drop}
use Rattle.record.specs.Layout.{most_fields, layout, fixed_width, kind_of}
use Rattle.record.specs.Read.{entry_width}
use Rattle.record.specs.declared.layout.Kind.{Kind}
use Rattle.std.specs.Prelude.{Err, Ok, Some, None}
use Rattle.writing.specs.Write.{◌next◌, first_faulty, fixed_judged, entries, optional_of, fields_judged, record_text, length_judged, rest_judged, write_judged, written_of, outcome, output_after, write}
use Rattle.writing.specs.declared.answer.Refusal.{Refusal}
use Rattle.writing.specs.declared.answer.Refusal.TheVariants.{TooManyFields, SmallTable}

-- 5, of a fixed part whose first field names a kind
pub fixed_fits : (k : Kind) (fixed : List ℕ) → length fixed ≡ fixed_width k → first_faulty k fixed ≡ length (layout k) → fixed_judged (Some k) fixed ≡ Ok 0
unfolding fixed_judged
fixed_fits k fixed h g = rw (eq-eqb _ _ h, eq-eqb _ _ g)

-- 8, 23, then 9 and 10, of a record of a known kind
module _ (k : Kind) (fixed table : List ℕ) (count : ℕ) (contents out : List ℕ) where
  pub many_refused : most_fields < count → rest_judged (Some k) fixed table count contents out ≡ Err TooManyFields
  unfolding rest_judged
  many_refused h = rw (lt-ltb _ _ h)

  module _ (h : count ≤ most_fields) where
    pub table_refused : length table < count * entry_width → rest_judged (Some k) fixed table count contents out ≡ Err SmallTable
    unfolding rest_judged
    table_refused g = rw (le-ltb _ _ h, lt-ltb _ _ g)

    module _ (g : count * entry_width ≤ length table) where
      pub fields_refused : (r : Refusal) → fields_judged k contents None 0 (entries count table) ≡ Err r
          → rest_judged (Some k) fixed table count contents out ≡ Err r
      unfolding rest_judged ◌next◌
      fields_refused r e = rw (le-ltb _ _ h, le-ltb _ _ g, e)

      pub fields_fit : (m : ℕ) → fields_judged k contents None 0 (entries count table) ≡ Ok m
          → rest_judged (Some k) fixed table count contents out ≡ length_judged (length (record_text fixed (optional_of contents (entries count table)))) out
      unfolding rest_judged ◌next◌
      fields_fit m e = rw (le-ltb _ _ h, le-ltb _ _ g, e)

-- 5, then the rest
module _ (fixed table : List ℕ) (count : ℕ) (contents out : List ℕ) where
  pub fixed_passed : (m : ℕ) → fixed_judged (kind_of fixed) fixed ≡ Ok m
      → write_judged fixed table count contents out ≡ rest_judged (kind_of fixed) fixed table count contents out
  unfolding write_judged ◌next◌
  fixed_passed m e = rw e

  -- what is said and what stands in the output afterwards
  pub write_fits : (n : ℕ) → write_judged fixed table count contents out ≡ Ok n
      → write fixed table count contents out ≡ outcome (written_of (Ok n)) (record_text fixed (optional_of contents (entries count table)) ++ drop n out)
  unfolding write output_after
  write_fits n e = rw e
