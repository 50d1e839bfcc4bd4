-- The stages of reading, one after the other, by the tests that the code makes.
use mathlib.Core.Path.{◌≡◌, refl}
use mathlib.Core.Bool.{true, false}
use mathlib.Core.List.{List, ◌++◌}
use Prim.Native.Nat.{ℕ, ◌+◌, ◌*◌, ◌≤◌, ◌<◌}
use borrow.Author.Tests.{eq-eqb, lt-ltb, le-ltb}
use lib.ListN.{length, drop}
use lib.Seq.{slice}
use Rattle.cells.specs.Bytes.{run, same}
use Rattle.signs.specs.Class.{belongs}
use Rattle.signs.specs.declared.Class.TheVariants.{Allowed}
use Rattle.record.specs.Layout.{most_bytes, most_fields, layout, fixed_width, kind_of, first_broken}
use Rattle.record.specs.Answers.{checked_of, ◌then◌}
use Rattle.record.specs.Fields.{head_width, walk, judge, entries_of}
use Rattle.record.specs.Read.{bytes_judged, fixed_judged, after_walk, optional_judged, kind_judged, judged, entry_width, outcome, optional_start, table_after, check, judged_as}
use Rattle.record.specs.declared.answer.Refusal.{Refusal}
use Rattle.record.specs.declared.answer.Refusal.TheVariants.{TooLong, UnknownKind, TooShort, SmallTable}
use Rattle.std.specs.Prelude.{Err, Ok, Some, None}
use Rattle.record.specs.Verdicts.{Verdict}
use Rattle.record.specs.declared.layout.Kind.{Kind}
use Rattle.record.proofs.Layouts.{total_most}
use Rattle.std.proofs.lemmas.Bool.Decides.{nat_tests}

-- 6 to 10, from what the two walks say
module _ (k : Kind) (p : ℕ) (t : List ℕ) where
  pub judge_fits : (n : ℕ) → walk most_fields 0 p t ≡ Ok n → (m : ℕ) → judge k n None p t ≡ Ok m → optional_judged k p t ≡ Ok n
  unfolding optional_judged after_walk ◌then◌
  judge_fits n e m g = rw (e, g)

-- 3 to 10, of a known kind
module _ (k : Kind) (s : List ℕ) where
  pub kind_short : length s < fixed_width k + head_width → kind_judged (Some k) s ≡ Err (TooShort (length s))
  unfolding kind_judged
  kind_short h = rw (lt-ltb _ _ h)

  pub kind_rest : fixed_width k + head_width ≤ length s → run (belongs Allowed) s ≡ length s → first_broken (layout k) s ≡ length (layout k)
      → kind_judged (Some k) s ≡ optional_judged k (fixed_width k) (drop (fixed_width k) s)
  unfolding kind_judged bytes_judged fixed_judged ◌then◌
  kind_rest h g b = rw (le-ltb _ _ h, eq-eqb _ _ g, eq-eqb _ _ b)

-- 1 and 2
module _ (s : List ℕ) where
  pub too_long : most_bytes < length s → judged s ≡ Err TooLong
  unfolding judged
  too_long h = rw (lt-ltb _ _ h)

  pub by_kind : length s ≤ most_bytes → judged s ≡ kind_judged (kind_of s) s
  unfolding judged
  by_kind h = rw (le-ltb _ _ h)

-- a record wanted of one kind
module _ (name s : List ℕ) where
  pub as_long : most_bytes < length s → judged_as name s ≡ Err TooLong
  unfolding judged_as
  as_long h = rw (lt-ltb _ _ h)

  pub as_other : length s ≤ most_bytes → same (slice 0 4 s) name ≡ false → judged_as name s ≡ Err UnknownKind
  unfolding judged_as
  as_other h e = rw (le-ltb _ _ h, e)

  pub as_named : length s ≤ most_bytes → same (slice 0 4 s) name ≡ true → judged_as name s ≡ judged s
  unfolding judged_as
  as_named h e = rw (le-ltb _ _ h, e)

-- a check with a lent table
module _ (s table : List ℕ) where
  pub small_table : length table < most_fields * entry_width → check s table ≡ outcome (checked_of (Err SmallTable)) table
  unfolding check
  small_table h = rw (lt-ltb _ _ h)

  module _ (h : most_fields * entry_width ≤ length table) where
    pub check_refused : (r : Refusal) → judged s ≡ Err r → check s table ≡ outcome (checked_of (Err r)) table
    unfolding check table_after
    check_refused r e = rw (le-ltb _ _ h, e)

    pub check_fits : (n : ℕ) → judged s ≡ Ok n
        → check s table ≡ outcome (checked_of (Ok n)) (entries_of n (optional_start (kind_of s)) (drop (optional_start (kind_of s)) s) ++ drop (n * entry_width) table)
    unfolding check table_after
    check_fits n e = rw (le-ltb _ _ h, e)

-- two stages: the first refuses, or the second decides
pub then_refused : (r : Refusal) (b : Verdict) → (Err r then b) ≡ Err r
unfolding ◌then◌
then_refused r b = refl

pub then_fits : (n : ℕ) (b : Verdict) → (Ok n then b) ≡ b
unfolding ◌then◌
then_fits n b = refl

-- a fixed part is no longer than a delivery's
pub fixed_most : (k : Kind) → fixed_width k ≤ 108
unfolding fixed_width
fixed_most k = total_most k

pub ruleset stages = (then_refused, then_fits, fixed_most, nat_tests)
