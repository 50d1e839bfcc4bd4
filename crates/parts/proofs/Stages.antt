-- The stages of writing with parts, one after the other, by the tests that the code makes.
use mathlib.Core.Path.{◌≡◌}
use mathlib.Core.Bool.{true, false}
use mathlib.Core.List.{List}
use Prim.Native.Nat.{ℕ, ◌*◌, ◌≤◌, ◌<◌}
use borrow.Author.Tests.{lt-ltb, le-ltb}
use lib.ListN.{length}
use Rattle.writing.specs.Write.{outcome}
use Rattle.parts.specs.Loops.{most_parts, are_loops}
use Rattle.parts.specs.Part.{part_width}
use Rattle.parts.specs.Fields.{lent_fields}
use Rattle.parts.specs.Answers.{not_written}
use Rattle.parts.specs.Write.{write_with, is_misplaced, is_broken, parts_refused, written_with, write_parts}
use Rattle.parts.specs.declared.answer.Refusal.TheVariants.{SmallRoom, Broken, TooMany}

module _ (fixed table : List ℕ) (count : ℕ) (contents parts : List ℕ) (n : ℕ) (out : List ℕ) where
  -- 27
  pub too_many : most_parts < n → write_parts fixed table count contents parts n out ≡ outcome (not_written TooMany) out
  unfolding write_parts written_with parts_refused
  too_many h = rw (lt-ltb most_parts n h)

  -- 23
  pub small_room : n ≤ most_parts → length parts < n * part_width → write_parts fixed table count contents parts n out ≡ outcome (not_written SmallRoom) out
  unfolding write_parts written_with parts_refused
  small_room few h = rw (le-ltb most_parts n few, lt-ltb (length parts) (n * part_width) h)

  -- 26
  pub misplaced : n ≤ most_parts → n * part_width ≤ length parts → is_misplaced fixed table count n ≡ true
      → write_parts fixed table count contents parts n out ≡ outcome (not_written Broken) out
  unfolding write_parts written_with parts_refused is_broken
  misplaced few lent h = rw (le-ltb most_parts n few, le-ltb (length parts) (n * part_width) lent, h)

  pub no_loops : n ≤ most_parts → n * part_width ≤ length parts → is_misplaced fixed table count n ≡ false → are_loops n (lent_fields n parts 0) ≡ false
      → write_parts fixed table count contents parts n out ≡ outcome (not_written Broken) out
  unfolding write_parts written_with parts_refused is_broken
  no_loops few lent placed h = rw (le-ltb most_parts n few, le-ltb (length parts) (n * part_width) lent, placed, h)

  -- and then the rest over all fields
  pub parts_taken : n ≤ most_parts → n * part_width ≤ length parts → is_misplaced fixed table count n ≡ false → are_loops n (lent_fields n parts 0) ≡ true
      → write_parts fixed table count contents parts n out ≡ write_with (lent_fields n parts 0) fixed table count contents out
  unfolding write_parts written_with parts_refused is_broken
  parts_taken few lent placed h = rw (le-ltb most_parts n few, le-ltb (length parts) (n * part_width) lent, placed, h)

pub ruleset staged = (too_many, small_room, misplaced, no_loops, parts_taken)
