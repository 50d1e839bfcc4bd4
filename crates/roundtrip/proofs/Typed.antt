-- The typed halves of the round trip: the values of a fixed part made from a typed record are that record, and the fixed part made from a record's values is the record's own.
use mathlib.Core.Path.{◌≡◌, ◌∙◌, ap, sym}
use mathlib.Core.Bool.{Bool, true, false}
use mathlib.Core.List.{List, [], ◌∷◌, ◌++◌, map}
use Prim.Native.Nat.{ℕ, ◌+◌, ◌≤◌}
use native.Mathlib.Omega.{arith}
use lib.ListN.{length, get_or, take}
use lib.Seq.{slice}
use Rattle.cells.specs.Bytes.{pick, bytes, same, joined}
use Rattle.signs.specs.Class.{belongs, of_class}
use Rattle.rules.specs.Number.{number}
use Rattle.rules.specs.Day.{day_width, day_kept}
use Rattle.rules.specs.Values.{expected_of}
use Rattle.rules.specs.Rule.{keeps}
use Rattle.signs.specs.declared.Class.TheVariants.{Allowed, Digit, Zero}
use Rattle.record.specs.Layout.{date_start, layout, total, fixed_width, start_of, kind_of, first_broken}
use Rattle.record.specs.Values.{field_bytes, order_of, delivery_of, report_of}
use Rattle.record.specs.Read.{judged_as}
use Rattle.std.specs.Prelude.{Ok}
use Rattle.record.specs.declared.layout.Kind.TheVariants.{Order as order, Goods as goods, Closing as closing, Report as report}
use Rattle.record.specs.declared.values.Order.{Order}
use Rattle.record.specs.declared.values.Delivery.{Delivery}
use Rattle.record.specs.declared.values.Report.{Report}
use Rattle.reader.proofs.Fitting.{Fitting, fitting, name_of, fits_as}
use Rattle.writing.specs.Typed.{delivery_day_bytes, order_fields, delivery_fields, report_fields, order_bytes, delivery_bytes, report_bytes}
use Rattle.writing.proofs.Decimals.{number_length}
use Rattle.writing.proofs.Days.{day_length, delivery_day_length, expected_length}
use Rattle.roundtrip.specs.Demand2.{OrderShaped, DeliveryShaped, ReportShaped}
use Rattle.roundtrip.proofs.Sequences.{one_byte}
use Rattle.roundtrip.proofs.FixedFields.{sizes, field_is, all_joined, fields_from, fields_joined, field_kept}
use Rattle.record.proofs.Kept.{field_length}
use Rattle.roundtrip.proofs.ValuesBack.{AllAllowed, number_back, day_back, delivery_day_back, expected_back}
use Rattle.roundtrip.proofs.BytesBack.{number_bytes_law, zeros_digits, zeros_are, day_bytes_law, goods_day_bytes, closing_day_bytes, expected_bytes_law}

-- the fields of a typed record are as long as those of its layout
order_sizes : (o : Order) → OrderShaped o → map length (order_fields o) ≡ sizes (layout order)
unfolding order_fields layout
order_sizes o h =
    λ i.
    4
    ∷ h.sender.address i
    ∷ h.sender.qualifier i
    ∷ h.recipient.address i
    ∷ h.recipient.qualifier i
    ∷ day_length o.date i
    ∷ h.reference i
    ∷ h.article.number i
    ∷ h.article.qualifier i
    ∷ number_length 4 o.quantity.0 i
    ∷ h.measure i
    ∷ []

delivery_sizes : (d : Delivery) → DeliveryShaped d → map length (delivery_fields d) ≡ sizes (layout goods)
unfolding delivery_fields layout
delivery_sizes d h =
    λ i.
    4
    ∷ h.sender.address i
    ∷ h.sender.qualifier i
    ∷ h.recipient.address i
    ∷ h.recipient.qualifier i
    ∷ delivery_day_length d.date i
    ∷ h.slip i
    ∷ h.position i
    ∷ h.reference i
    ∷ h.article.number i
    ∷ h.article.qualifier i
    ∷ number_length 4 d.quantity.0 i
    ∷ number_length 15 d.price.0 i
    ∷ h.pricing i
    ∷ h.currency i
    ∷ number_length 8 d.discount.0 i
    ∷ 1
    ∷ []

report_sizes : (m : Report) → ReportShaped m → map length (report_fields m) ≡ sizes (layout report)
unfolding report_fields layout
report_sizes m h =
    λ i.
    4
    ∷ h.sender.address i
    ∷ h.sender.qualifier i
    ∷ h.recipient.address i
    ∷ h.recipient.qualifier i
    ∷ h.slip i
    ∷ h.reference i
    ∷ h.article.number i
    ∷ h.article.qualifier i
    ∷ number_length 3 m.message i
    ∷ 1
    ∷ expected_length m.expected i
    ∷ 4
    ∷ []

-- where each byte made from a typed record is allowed, the values of these bytes are that record, whatever follows them
pub order_values : (o : Order) (rest : List ℕ) → OrderShaped o → AllAllowed (order_bytes o) → order_of (order_bytes o ++ rest) ≡ o
unfolding order_fields order_bytes order_of
order_values o rest h a =
    let field = field_is order (order_fields o) rest (order_sizes o h) in
    let ok = all_joined (belongs Allowed) (order_fields o) a in
    λ i. record {
      sender = record { address = field 1 i; qualifier = field 2 i };
      recipient = record { address = field 3 i; qualifier = field 4 i };
      date = (ap (λ (s : List ℕ). day_kept s) (field 5) ∙ day_back o.date (ok 5)) i;
      reference = field 6 i;
      article = record { number = field 7 i; qualifier = field 8 i };
      quantity = record { 0 = (ap number (field 9) ∙ number_back 4 o.quantity.0 (omega arith) (ok 9)) i };
      measure = field 10 i;
    }

pub delivery_values : (d : Delivery) (rest : List ℕ) → DeliveryShaped d → AllAllowed (delivery_bytes d) → delivery_of (delivery_bytes d ++ rest) ≡ d
unfolding delivery_fields delivery_bytes delivery_of
delivery_values d rest h a =
    let field = field_is goods (delivery_fields d) rest (delivery_sizes d h) in
    let ok = all_joined (belongs Allowed) (delivery_fields d) a in
    λ i. record {
      sender = record { address = field 1 i; qualifier = field 2 i };
      recipient = record { address = field 3 i; qualifier = field 4 i };
      date = (ap (λ (s : List ℕ). day_kept s) (field 5) ∙ delivery_day_back d.date (ok 5)) i;
      slip = field 6 i;
      position = field 7 i;
      reference = field 8 i;
      article = record { number = field 9 i; qualifier = field 10 i };
      quantity = record { 0 = (ap number (field 11) ∙ number_back 4 d.quantity.0 (omega arith) (ok 11)) i };
      price = record { 0 = (ap number (field 12) ∙ number_back 15 d.price.0 (omega arith) (ok 12)) i };
      pricing = field 13 i;
      currency = field 14 i;
      discount = record { 0 = (ap number (field 15) ∙ number_back 8 d.discount.0 (omega arith) (ok 15)) i };
      tax = ap (λ (s : List ℕ). get_or s 0 0) (field 16) i;
    }

pub report_values : (m : Report) (rest : List ℕ) → ReportShaped m → AllAllowed (report_bytes m) → report_of (report_bytes m ++ rest) ≡ m
unfolding report_fields report_bytes report_of
report_values m rest h a =
    let field = field_is report (report_fields m) rest (report_sizes m h) in
    let ok = all_joined (belongs Allowed) (report_fields m) a in
    λ i. record {
      sender = record { address = field 1 i; qualifier = field 2 i };
      recipient = record { address = field 3 i; qualifier = field 4 i };
      slip = field 5 i;
      reference = field 6 i;
      article = record { number = field 7 i; qualifier = field 8 i };
      message = (ap number (field 9) ∙ number_back 3 m.message (omega arith) (ok 9)) i;
      hold = ap (λ (s : List ℕ). get_or s 0 0) (field 10) i;
      expected = (ap expected_of (field 11) ∙ expected_back m.expected (ok 11)) i;
    }

-- the fields made from the values of a record that keeps its rules are the record's own
order_fields_law : (s : List ℕ) → slice 0 4 s ≡ bytes "B101" → first_broken (layout order) s ≡ length (layout order)
    → order_fields (order_of s) ≡ fields_from (layout order) 0 s
unfolding order_fields order_of field_bytes fields_from layout start_of total keeps
order_fields_law s name kept =
    let at : ℕ → List ℕ = λ i. field_bytes order i s in
    let rule = field_kept order s kept in
    λ i.
    sym name i
    ∷ at 1
    ∷ at 2
    ∷ at 3
    ∷ at 4
    ∷ day_bytes_law (at 5) (rule 5) i
    ∷ at 6
    ∷ at 7
    ∷ at 8
    ∷ number_bytes_law 4 (at 9) (rule 9) i
    ∷ at 10
    ∷ []

report_fields_law : (s : List ℕ) → slice 0 4 s ≡ bytes "M101" → fixed_width report ≤ length s → first_broken (layout report) s ≡ length (layout report)
    → report_fields (report_of s) ≡ fields_from (layout report) 0 s
unfolding report_fields report_of field_bytes fields_from layout start_of total keeps
report_fields_law s name wide kept =
    let at : ℕ → List ℕ = λ i. field_bytes report i s in
    let rule = field_kept report s kept in
    λ i.
    sym name i
    ∷ at 1
    ∷ at 2
    ∷ at 3
    ∷ at 4
    ∷ at 5
    ∷ at 6
    ∷ at 7
    ∷ at 8
    ∷ number_bytes_law 3 (at 9) (rule 9) i
    ∷ one_byte (at 10) (field_length report s wide 10 (omega arith)) i
    ∷ expected_bytes_law (at 11) (rule 11) i
    ∷ sym (zeros_are 4 (at 12) (rule 12)) i
    ∷ []

-- so of a delivery, given that its date is made again and that its numbers are digits
delivery_fields_law : (s : List ℕ) → slice 0 4 s ≡ bytes "L101" → fixed_width goods ≤ length s
    → delivery_day_bytes (day_kept (field_bytes goods 5 s)) ≡ field_bytes goods 5 s
    → of_class Digit 4 4 (field_bytes goods 11 s) ≡ true
    → of_class Digit 15 15 (field_bytes goods 12 s) ≡ true
    → of_class Digit 8 8 (field_bytes goods 15 s) ≡ true
    → delivery_fields (delivery_of s) ≡ fields_from (layout goods) 0 s
unfolding delivery_fields delivery_of field_bytes fields_from layout start_of total
delivery_fields_law s name wide date quantity price discount =
    let at : ℕ → List ℕ = λ i. field_bytes goods i s in
    λ i.
    sym name i
    ∷ at 1
    ∷ at 2
    ∷ at 3
    ∷ at 4
    ∷ date i
    ∷ at 6
    ∷ at 7
    ∷ at 8
    ∷ at 9
    ∷ at 10
    ∷ number_bytes_law 4 (at 11) quantity i
    ∷ number_bytes_law 15 (at 12) price i
    ∷ at 13
    ∷ at 14
    ∷ number_bytes_law 8 (at 15) discount i
    ∷ one_byte (at 16) (field_length goods s wide 16 (omega arith)) i
    ∷ []

-- the fixed part made from the values of a record that fits is the record's own
pub order_bytes_of : (s : List ℕ) (n : ℕ) → judged_as (bytes "B101") s ≡ Ok n → order_bytes (order_of s) ≡ take (fixed_width order) s
unfolding order_bytes fixed_width kind_of same
order_bytes_of s n e =
    let name = name_of (bytes "B101") s n e in
    let f = fitting order s n (rw name) (fits_as (bytes "B101") s n e) in
    ap joined (order_fields_law s name f.kept) ∙ fields_joined (layout order) s

pub report_bytes_of : (s : List ℕ) (n : ℕ) → judged_as (bytes "M101") s ≡ Ok n → report_bytes (report_of s) ≡ take (fixed_width report) s
unfolding report_bytes fixed_width kind_of same
report_bytes_of s n e =
    let name = name_of (bytes "M101") s n e in
    let f = fitting report s n (rw name) (fits_as (bytes "M101") s n e) in
    ap joined (report_fields_law s name (omega (arith, f.wide)) f.kept) ∙ fields_joined (layout report) s

-- which a closing record and a goods record both give: their fields stand at the same places
fit_fields : (s : List ℕ) (n : ℕ) (b : Bool) → slice 0 4 s ≡ bytes "L101" → Fitting (pick b closing goods) s n
    → delivery_fields (delivery_of s) ≡ fields_from (layout goods) 0 s
unfolding field_bytes layout start_of total fixed_width keeps
fit_fields s n true name f =
    let rule = field_kept closing s f.kept in
    delivery_fields_law s name (omega (arith, f.wide)) (closing_day_bytes _ (rule 5)) (zeros_digits 4 _ (rule 11)) (zeros_digits 15 _ (rule 12)) (zeros_digits 8 _ (rule 15))
fit_fields s n false name f =
    let rule = field_kept goods s f.kept in
    delivery_fields_law s name (omega (arith, f.wide)) (goods_day_bytes _ (rule 5)) (rule 11) (rule 12) (rule 15)

pub delivery_bytes_of : (s : List ℕ) (n : ℕ) → judged_as (bytes "L101") s ≡ Ok n → delivery_bytes (delivery_of s) ≡ take (fixed_width goods) s
unfolding delivery_bytes fixed_width kind_of same
delivery_bytes_of s n e =
    let name = name_of (bytes "L101") s n e in
    let b = of_class Zero day_width day_width (slice date_start (date_start + day_width) s) in
    let f = fitting (pick b closing goods) s n (rw name) (fits_as (bytes "L101") s n e) in
    ap joined (fit_fields s n b name f) ∙ fields_joined (layout goods) s
