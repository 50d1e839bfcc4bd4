-- What the bytes of a field that keeps its rule say.
use Rattle.std.specs.Prelude.{ℕ, List, None, Option, Some}
use Rattle.cells.specs.Bytes.{pick}
use Rattle.rules.specs.Number.{number}
use Rattle.rules.specs.Day.{dated}
use Rattle.signs.specs.Class.{all_of}
use Rattle.signs.specs.declared.Class.TheVariants.{Blank}
use Rattle.rules.specs.declared.amount.Price.{Price}
use Rattle.rules.specs.declared.amount.Discount.{Discount}
use Rattle.rules.specs.declared.amount.Copies.{Copies}
use Rattle.rules.specs.declared.expected.Expected.{Expected}
use Rattle.rules.specs.declared.expected.Expected.TheVariants.{On, Zeros, Blanks}
use Rattle.rules.specs.declared.day.Day.{Day}

-- a price counts ten-thousandths of its currency
abbrev pub price : ℕ → Price
price n = record { 0 = n }

abbrev pub price_of : List ℕ → Price
price_of s = price (number s)

-- a discount counts ten-thousandths of one percent
abbrev pub discount : ℕ → Discount
discount n = record { 0 = n }

abbrev pub discount_of : List ℕ → Discount
discount_of s = discount (number s)

-- so many copies
abbrev pub copies : ℕ → Copies
copies n = record { 0 = n }

abbrev pub copies_of : List ℕ → Copies
copies_of s = copies (number s)

-- an expected date whose digits were judged: a real day is that day; what is none is eight blanks or else eight zeros
abbrev pub expected_in : Option Day → List ℕ → Expected
expected_in (Some d) s = On d
expected_in None s = pick (all_of Blank s) Blanks Zeros

-- which of the three an expected date was
unfoldable pub expected_of : List ℕ → Expected
expected_of s = expected_in (dated s) s
