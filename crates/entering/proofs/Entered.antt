-- What entering a record is told of its fields.
use mathlib.Core.Path.{◌≡◌, ◌∙◌, ap, refl}
use mathlib.Core.List.{List, [], ◌∷◌, ◌++◌}
use Prim.Native.Nat.{ℕ, ◌≤◌}
use native.Mathlib.Omega.{arith}
use borrow.Author.Tests.{ne_eqb}
use lib.ListN.{length, get_or}
use lib.Seq.{slice, length-slice}
use Rattle.cells.specs.Bytes.{same}
use Rattle.cells.proofs.Parts.{next, nothing}
use Rattle.rules.specs.Day.{day_width}
use Rattle.rules.specs.Number.{number}
use Rattle.record.specs.Layout.{layout, total, start_of, fixed_width}
use Rattle.record.specs.Values.{field_bytes}
use Rattle.record.specs.declared.layout.Kind.TheVariants.{Order, Report}
use Rattle.entry.specs.Stored.{ordered_at}
use Rattle.entry.specs.declared.report.Message.TheVariants.{Numbered}
use Rattle.entry.specs.declared.line.Mark.TheVariants.{Held, Dropped}
use Rattle.book.specs.Booking.{mark_in, message_in, date_in}
use Rattle.book.proofs.Fields.{order_named_long, slip_key_long}
use Rattle.naming.proofs.Named.{order_parts}
use Rattle.values.proofs.Places.{report_width}

-- the field with the mark is one byte
mark_byte_law : (s : List ℕ) → fixed_width Report ≤ length s → field_bytes Report 10 s ≡ get_or s 66 0 ∷ []
unfolding field_bytes start_of total layout
mark_byte_law s h = next s 66 67 (omega arith) (omega (arith, report_width)) ∙ ap (λ (t : List ℕ). get_or s 66 0 ∷ t) (nothing 67 67 s (omega arith))

-- J, and anything else
module _ (s : List ℕ) (h : fixed_width Report ≤ length s) where
  pub mark_held : get_or s 66 0 ≡ 74 → mark_in s ≡ Held
  unfolding mark_in same
  mark_held e = rw (mark_byte_law s h, e)

  pub mark_dropped : (get_or s 66 0 ≡ 74 → ⊥) → mark_in s ≡ Dropped
  unfolding mark_in same
  mark_dropped e = rw (mark_byte_law s h, ne_eqb _ _ e)

-- the fields with the message and with the expected date
pub message_is : (s : List ℕ) → message_in s ≡ Numbered (number (slice 63 66 s))
unfolding message_in field_bytes start_of total layout
message_is s = refl

pub date_is : (s : List ℕ) → date_in s ≡ slice 67 75 s
unfolding date_in field_bytes start_of total layout
date_is s = refl

-- the latter is whole
pub date_long : (s : List ℕ) → fixed_width Report ≤ length s → length (slice 67 75 s) ≡ day_width
date_long s h = length-slice 67 75 s (omega (arith, report_width))

-- what a new line is named by, in two parts, is whole
pub named_long : (s : List ℕ) → fixed_width Order ≤ length s → length (slice 4 28 s ++ slice 36 61 s) ≡ ordered_at
named_long s h = rw (order_parts s) (order_named_long s h)

pub ruleset told = (mark_held, mark_dropped, message_is, date_is, date_long, report_width, slip_key_long, order_parts, named_long)
