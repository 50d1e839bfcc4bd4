-- The kinds of records and the layout of each, as data (RULES 2.1, 2.2).
use Rattle.std.specs.Prelude.{ℕ, suc, ◌+◌, List, [], ◌∷◌, ◌++◌, take, drop, None, Option, Some}
use Rattle.std.proofs.Math.Seq.{slice}
use Rattle.cells.specs.Bytes.{pick, bytes, same}
use Rattle.signs.specs.Class.{of_class}
use Rattle.rules.specs.Day.{day_width}
use Rattle.rules.specs.Rule.{keeps}
use Rattle.signs.specs.declared.Class.TheVariants.{Any, Digit, Capital, Account, Blank, Zero, Unbarred}
use Rattle.rules.specs.declared.rule.Texts.TheVariants.{Party, Numbering, Measure, HoldMark, TaxMark}
use Rattle.rules.specs.declared.rule.Rule.{Rule}
use Rattle.rules.specs.declared.rule.Rule.TheVariants.{Free, Of, Padded, Named, OneOf, Date, ExpectedDate, Article}
use Rattle.record.specs.declared.layout.Field.{Field}
use Rattle.record.specs.declared.layout.Kind.{Kind}
use Rattle.record.specs.declared.layout.Kind.TheVariants.{Order, Goods, Closing, Report}

-- the most bytes of a record
abbrev pub most_bytes : ℕ
most_bytes = 1024

-- the most optional fields of a record
abbrev pub most_fields : ℕ
most_fields = 96

-- a fixed field: its length and its rule
infix 70 ◌∶◌
abbrev pub ◌∶◌ : ℕ → Rule → Field
n ∶ r = record { size = n; rule = r }

-- stands past the end of a layout
abbrev pub no_field : Field
no_field = 0 ∶ Free

-- kind: the layout was chosen by it, so nothing is left to judge
abbrev pub kind : Field
kind = 4 ∶ Free

-- digits and capitals from the left, at least one, and blanks behind them
abbrev pub address : Field
address = 10 ∶ Padded Account 1 10

-- VD, IB or SA
abbrev pub address_qualifier : Field
address_qualifier = 2 ∶ OneOf Party

abbrev pub date : Field
date = day_width ∶ Date

-- a reference or slip number begins at its first byte, or there is none
abbrev pub reference : Field
reference = 10 ∶ Named Any

-- the reference of an order, without barred bytes
abbrev pub order_reference : Field
order_reference = 10 ∶ Named Unbarred

abbrev pub slip_number : Field
slip_number = 10 ∶ Named Any

abbrev pub article : Field
article = 13 ∶ Article

abbrev pub article_qualifier : Field
article_qualifier = 2 ∶ OneOf Numbering

-- exactly n digits, n capitals, n blanks, n zeros
abbrev pub digits : ℕ → Field
digits n = n ∶ Of Digit n n

abbrev pub capitals : ℕ → Field
capitals n = n ∶ Of Capital n n

abbrev pub blanks : ℕ → Field
blanks n = n ∶ Of Blank n n

abbrev pub zeros : ℕ → Field
zeros n = n ∶ Of Zero n n

-- kind, sender and recipient with their qualifiers: what every record begins with
abbrev pub head : List Field
head = kind ∷ address ∷ address_qualifier ∷ address ∷ address_qualifier ∷ []

-- the fixed part of each kind, in order
unfoldable pub layout : Kind → List Field
layout Order = head ++ (
    date
    ∷ order_reference
    ∷ article
    ∷ article_qualifier
    ∷ digits 4  -- quantity
    ∷ 2 ∶ OneOf Measure  -- order qualifier
    ∷ [])
layout Goods = head ++ (
    date
    ∷ slip_number
    ∷ digits 4  -- position
    ∷ reference
    ∷ article
    ∷ article_qualifier
    ∷ digits 4  -- quantity
    ∷ digits 15  -- price
    ∷ capitals 2  -- price qualifier
    ∷ capitals 3  -- currency
    ∷ digits 8  -- discount
    ∷ 1 ∶ OneOf TaxMark  -- tax mark
    ∷ [])
layout Closing = head ++ (
    zeros 8  -- date
    ∷ blanks 10  -- slip number
    ∷ blanks 4  -- position
    ∷ blanks 10  -- reference
    ∷ blanks 13  -- article
    ∷ blanks 2  -- its qualifier
    ∷ zeros 4  -- quantity
    ∷ zeros 15  -- price
    ∷ blanks 2  -- price qualifier
    ∷ blanks 3  -- currency
    ∷ zeros 8  -- discount
    ∷ blanks 1  -- tax mark
    ∷ [])
layout Report = head ++ (
    slip_number
    ∷ reference
    ∷ article
    ∷ article_qualifier
    ∷ digits 3  -- message
    ∷ 1 ∶ OneOf HoldMark  -- hold mark
    ∷ day_width ∶ ExpectedDate
    ∷ zeros 4  -- partial quantity
    ∷ [])

-- the length of a fixed part
unfoldable pub total : List Field → ℕ
total [] = 0
total (f ∷ fs) = f.size + total fs

-- the length of a kind's fixed part
unfoldable pub fixed_width : Kind → ℕ
fixed_width k = total (layout k)

-- where the field with an index starts
unfoldable pub start_of : List Field → ℕ → ℕ
start_of fs i = total (take i fs)

abbrev pub kind_width : ℕ
kind_width = 4

-- where the date stands, in the kinds that have one
abbrev pub date_start : ℕ
date_start = 28

-- the kind that the first four bytes name; the date of a delivery tells a closing record from goods (RULES 2.1)
unfoldable pub kind_of : List ℕ → Option Kind
kind_of s =
    pick (same (slice 0 kind_width s) (bytes "B101")) (Some Order)
    (pick (same (slice 0 kind_width s) (bytes "L101")) (Some (pick (of_class Zero day_width day_width (slice date_start (date_start + day_width) s)) Closing Goods))
    (pick (same (slice 0 kind_width s) (bytes "M101")) (Some Report)
    None))

-- the index of the first field that breaks its rule, or the number of fields where none does; the fields stand at the front of s
unfoldable pub first_broken : List Field → List ℕ → ℕ
first_broken [] s = 0
first_broken (f ∷ fs) s =
    pick (keeps f.rule (slice f.size (f.size + 2) s) (take f.size s)) (suc (first_broken fs (drop f.size s))) 0
