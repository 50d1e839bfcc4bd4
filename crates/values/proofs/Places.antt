-- Where the fields of each kind stand, and how long its fixed part is, by computation.
use mathlib.Core.Path.{◌≡◌, refl}
use mathlib.Core.List.{List}
use Prim.Native.Nat.{ℕ, ◌+◌, ◌<◌, ◌≤◌}
use native.Mathlib.Nat.{add-zero}
use native.Mathlib.Omega.{arith}
use lib.ListN.{get_or, length}
use lib.Seq.{slice, get_or-take, get_or-drop}
use Rattle.rules.proofs.Parts.{part_most}
use Rattle.rules.specs.Number.{number}
use Rattle.rules.specs.Day.{day_kept}
use Rattle.rules.specs.Values.{price_of, discount_of, copies_of, expected_of}
use Rattle.record.specs.Layout.{layout, total, start_of, fixed_width}
use Rattle.record.specs.Values.{field_bytes, order_of, delivery_of, report_of}
use Rattle.record.specs.declared.layout.Kind.TheVariants.{Order as order, Goods as goods, Report as report}

-- how long the fixed part of each kind is
pub order_width : fixed_width order ≡ 67
unfolding fixed_width total layout
order_width = refl

pub delivery_width : fixed_width goods ≡ 108
unfolding fixed_width total layout
delivery_width = refl

pub report_width : fixed_width report ≡ 79
unfolding fixed_width total layout
report_width = refl

-- the first byte of a part is the byte where the part starts
pub byte_is : (at to : ℕ) (s : List ℕ) → at < to → get_or (slice at to s) 0 0 ≡ get_or s at 0
byte_is at to s h = rw (get_or-drop, add-zero, get_or-take)

-- the values of an order, each at its place
pub order_is : (s : List ℕ) → order_of s ≡ record {
  sender = record { address = slice 4 14 s; qualifier = slice 14 16 s };
  recipient = record { address = slice 16 26 s; qualifier = slice 26 28 s };
  date = day_kept (slice 28 36 s);
  reference = slice 36 46 s;
  article = record { number = slice 46 59 s; qualifier = slice 59 61 s };
  quantity = copies_of (slice 61 65 s);
  measure = slice 65 67 s;
}
unfolding order_of field_bytes start_of total layout
order_is s = refl

-- and of a delivery
pub delivery_is : (s : List ℕ) → delivery_of s ≡ record {
  sender = record { address = slice 4 14 s; qualifier = slice 14 16 s };
  recipient = record { address = slice 16 26 s; qualifier = slice 26 28 s };
  date = day_kept (slice 28 36 s);
  slip = slice 36 46 s;
  position = slice 46 50 s;
  reference = slice 50 60 s;
  article = record { number = slice 60 73 s; qualifier = slice 73 75 s };
  quantity = copies_of (slice 75 79 s);
  price = price_of (slice 79 94 s);
  pricing = slice 94 96 s;
  currency = slice 96 99 s;
  discount = discount_of (slice 99 107 s);
  tax = get_or s 107 0;
}
unfolding delivery_of field_bytes start_of total layout
delivery_is s = rw (byte_is 107 108 s (omega arith))

-- and of a report
pub report_is : (s : List ℕ) → report_of s ≡ record {
  sender = record { address = slice 4 14 s; qualifier = slice 14 16 s };
  recipient = record { address = slice 16 26 s; qualifier = slice 26 28 s };
  slip = slice 28 38 s;
  reference = slice 38 48 s;
  article = record { number = slice 48 61 s; qualifier = slice 61 63 s };
  message = number (slice 63 66 s);
  hold = get_or s 66 0;
  expected = expected_of (slice 67 75 s);
}
unfolding report_of field_bytes start_of total layout
report_is s = rw (byte_is 66 67 s (omega arith))

-- what numbers are read from has at most fifteen bytes
pub part_few : (from to : ℕ) (s : List ℕ) → to ≤ from + 15 → length (slice from to s) ≤ 15
part_few from to s h = omega (arith, part_most from to s)

pub ruleset orders = (order_width, order_is, part_few)

pub ruleset deliveries = (delivery_width, delivery_is, part_few)

pub ruleset reports = (report_width, report_is, part_few)
