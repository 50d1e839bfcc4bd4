-- Days as they are written: eight bytes each.
use mathlib.Core.Path.{◌≡◌, refl}
use lib.ListN.{length, length-append}
use Rattle.cells.proofs.Bools.{split}
use Rattle.rules.specs.Day.{real_day, day_width}
use Rattle.rules.specs.declared.day.Day.{Day}
use Rattle.rules.specs.declared.expected.Expected.{Expected}
use Rattle.rules.specs.declared.expected.Expected.TheVariants.{On, Zeros, Blanks}
use Rattle.writing.specs.Typed.{day_digits, day_bytes, is_no_day, delivery_day_bytes, expected_bytes}
use Rattle.writing.proofs.Decimals.{digits_length, unwritable_length}

pub day_length : (d : Day) → length (day_bytes d) ≡ day_width
unfolding day_bytes day_digits
day_length d = split (real_day d) (λ e. rw e (simp (length-append, digits_length))) (λ e. rw e (unwritable_length 8))

pub delivery_day_length : (d : Day) → length (delivery_day_bytes d) ≡ day_width
unfolding delivery_day_bytes
delivery_day_length d = split (is_no_day d) (λ e. rw e refl) (λ e. rw e (day_length d))

pub expected_length : (e : Expected) → length (expected_bytes e) ≡ day_width
unfolding expected_bytes
expected_length (On d) = day_length d
expected_length Zeros = refl
expected_length Blanks = refl
