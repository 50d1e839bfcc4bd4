-- The fixed part's bytes of a typed record. A value outside its range becomes bytes that break its field.
use Rattle.std.specs.Prelude.{ℕ, Bool, ◌&&◌, List, [], ◌∷◌, ◌++◌, eqb, replicate}
use Rattle.cells.specs.Bytes.{pick, bytes, joined}
use Rattle.rules.specs.Day.{day_width, real_day}
use Rattle.rules.specs.declared.day.Day.{Day}
use Rattle.rules.specs.declared.expected.Expected.{Expected}
use Rattle.rules.specs.declared.expected.Expected.TheVariants.{On, Zeros, Blanks}
use Rattle.record.specs.declared.values.Order.{Order}
use Rattle.record.specs.declared.values.Delivery.{Delivery}
use Rattle.record.specs.declared.values.Report.{Report}
use Rattle.writing.specs.Digits.{digits_of, unwritable, number_bytes}

-- the eight digits of a day, whether or not there is such a day
unfoldable pub day_digits : Day → List ℕ
day_digits d = digits_of 4 d.year ++ (digits_of 2 d.month ++ digits_of 2 d.day)

unfoldable pub day_bytes : Day → List ℕ
day_bytes d = pick (real_day d) (day_digits d) (unwritable day_width)

-- the date of a closing record
unfoldable pub is_no_day : Day → Bool
is_no_day d = eqb d.year 0 && (eqb d.month 0 && eqb d.day 0)

-- a delivery's date: of a closing record eight zeros
unfoldable pub delivery_day_bytes : Day → List ℕ
delivery_day_bytes d = pick (is_no_day d) (replicate day_width 48) (day_bytes d)

unfoldable pub expected_bytes : Expected → List ℕ
expected_bytes (On d) = day_bytes d
expected_bytes Zeros = replicate day_width 48
expected_bytes Blanks = replicate day_width 32

-- the fields of each kind's fixed part, in the order of its layout
unfoldable pub order_fields : Order → List (List ℕ)
order_fields o =
    bytes "B101"
    ∷ o.sender.address
    ∷ o.sender.qualifier
    ∷ o.recipient.address
    ∷ o.recipient.qualifier
    ∷ day_bytes o.date
    ∷ o.reference
    ∷ o.article.number
    ∷ o.article.qualifier
    ∷ number_bytes 4 o.quantity.0
    ∷ o.measure
    ∷ []

unfoldable pub delivery_fields : Delivery → List (List ℕ)
delivery_fields d =
    bytes "L101"
    ∷ d.sender.address
    ∷ d.sender.qualifier
    ∷ d.recipient.address
    ∷ d.recipient.qualifier
    ∷ delivery_day_bytes d.date
    ∷ d.slip
    ∷ d.position
    ∷ d.reference
    ∷ d.article.number
    ∷ d.article.qualifier
    ∷ number_bytes 4 d.quantity.0
    ∷ number_bytes 15 d.price.0
    ∷ d.pricing
    ∷ d.currency
    ∷ number_bytes 8 d.discount.0
    ∷ (d.tax ∷ [])
    ∷ []

unfoldable pub report_fields : Report → List (List ℕ)
report_fields m =
    bytes "M101"
    ∷ m.sender.address
    ∷ m.sender.qualifier
    ∷ m.recipient.address
    ∷ m.recipient.qualifier
    ∷ m.slip
    ∷ m.reference
    ∷ m.article.number
    ∷ m.article.qualifier
    ∷ number_bytes 3 m.message
    ∷ (m.hold ∷ [])
    ∷ expected_bytes m.expected
    ∷ replicate 4 48
    ∷ []

-- the fixed part's bytes
unfoldable pub order_bytes : Order → List ℕ
order_bytes o = joined (order_fields o)

unfoldable pub delivery_bytes : Delivery → List ℕ
delivery_bytes d = joined (delivery_fields d)

unfoldable pub report_bytes : Report → List ℕ
report_bytes m = joined (report_fields m)
