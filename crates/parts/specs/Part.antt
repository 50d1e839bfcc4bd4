-- A part's values, taken from its loop of fields, and its lent entry (RULES 2.5).
use Rattle.std.specs.Prelude.{ℕ, zero, suc, ◌+◌, ◌-◌, Bool, ◌||◌, List, [], ◌∷◌, ◌++◌, eqb, length, take, drop, get_or, replicate}
use Rattle.std.proofs.Math.Seq.{slice}
use Rattle.cells.specs.Bytes.{pick, bytes, same, joined}
use Rattle.cells.specs.Little.{le_at, le_bytes}
use Rattle.rules.specs.Values.{price_of}
use Rattle.record.specs.Fields.{Optional}
use Rattle.parts.specs.Loops.{loop_fields}
use Rattle.parts.specs.declared.part.Medium.{Medium}
use Rattle.parts.specs.declared.part.Medium.TheVariants.{Physical, Digital}
use Rattle.parts.specs.declared.part.PartPrice.{PartPrice}
use Rattle.parts.specs.declared.part.PartArticle.{PartArticle}
use Rattle.parts.specs.declared.part.Part.{Part}

-- the widths of a part's values: the most digits of an amount, and the bytes of a qualifier, a currency and an article
abbrev pub most_digits : ℕ
most_digits = 15

abbrev pub qualifier_width : ℕ
qualifier_width = 2

abbrev pub currency_width : ℕ
currency_width = 3

abbrev pub article_width : ℕ
article_width = 35

-- bytes in front of as many as there is room for, with zeros behind them
unfoldable pub fitted : ℕ → List ℕ → List ℕ
fitted room s = take room s ++ replicate (room - length s) 0

-- the content of the field with an index
abbrev pub no_optional : Optional
no_optional = record { id = 0; content = [] }

unfoldable pub text_of : ℕ → List Optional → List ℕ
text_of i fs = (get_or fs i no_optional).content

-- the medium that a content names
unfoldable pub medium_of : List ℕ → Medium
medium_of s = pick (same s (bytes "DIG")) Digital Physical

-- the price in the three fields from an index on; no amount has more digits than the most
unfoldable pub price_from : ℕ → List Optional → PartPrice
price_from i fs = record {
  amount = price_of (take most_digits (text_of i fs));
  digits = length (take most_digits (text_of i fs));
  qualifier = fitted qualifier_width (text_of (i + 1) fs);
  currency = fitted currency_width (text_of (i + 2) fs);
}

-- the article in the two fields from an index on; none is longer than the most
unfoldable pub article_from : ℕ → List Optional → PartArticle
article_from i fs = record {
  length = length (take article_width (text_of i fs));
  bytes = fitted article_width (take article_width (text_of i fs));
  qualifier = fitted qualifier_width (text_of (i + 1) fs);
}

-- the part that a loop says
unfoldable pub part_of : List Optional → Part
part_of fs = record {
  tax = get_or (text_of 0 fs) 0 0;
  medium = medium_of (text_of 9 fs);
  net = price_from 1 fs;
  list = price_from 4 fs;
  article = article_from 7 fs;
}

-- the parts that n loops say
unfoldable pub parts_of : ℕ → List Optional → List Part
parts_of zero fs = []
parts_of (suc n) fs = part_of (take loop_fields fs) ∷ parts_of n (drop loop_fields fs)

-- a medium in a lent entry
unfoldable pub medium_byte : Medium → ℕ
medium_byte Physical = 1
medium_byte Digital = 2

abbrev pub amount_width : ℕ
amount_width = 8

-- a lent price: amount 8, number of digits 1, qualifier 2, currency 3
abbrev pub price_width : ℕ
price_width = 14

unfoldable pub price_bytes : PartPrice → List ℕ
price_bytes p = joined (le_bytes amount_width p.amount.0 ∷ (p.digits ∷ []) ∷ p.qualifier ∷ p.currency ∷ [])

-- a lent part: tax mark 1, medium 1, net price 14, list price 14, length of the article 1, article 35, its qualifier 2
abbrev pub part_width : ℕ
part_width = 68

unfoldable pub part_bytes : Part → List ℕ
part_bytes p =
    joined (
    (p.tax ∷ [])
    ∷ (medium_byte p.medium ∷ [])
    ∷ price_bytes p.net
    ∷ price_bytes p.list
    ∷ (p.article.length ∷ [])
    ∷ p.article.bytes
    ∷ p.article.qualifier
    ∷ [])

-- the entries of parts, one after the other
unfoldable pub room_of : List Part → List ℕ
room_of [] = []
room_of (p ∷ ps) = part_bytes p ++ room_of ps

-- where each value stands in a lent part
abbrev pub medium_at : ℕ
medium_at = 1

abbrev pub net_at : ℕ
net_at = 2

abbrev pub list_at : ℕ
list_at = 16

abbrev pub length_at : ℕ
length_at = 30

abbrev pub article_at : ℕ
article_at = 31

abbrev pub article_qualifier_at : ℕ
article_qualifier_at = 66

-- and in a lent price
abbrev pub digits_at : ℕ
digits_at = 8

abbrev pub price_qualifier_at : ℕ
price_qualifier_at = 9

abbrev pub currency_at : ℕ
currency_at = 11

-- the medium that a byte names, and whether it names one
unfoldable pub medium_in : ℕ → Medium
medium_in b = pick (eqb b 2) Digital Physical

unfoldable pub is_medium : ℕ → Bool
is_medium b = eqb b 1 || eqb b 2

-- the price that stands lent at a place
unfoldable pub lent_price : List ℕ → ℕ → PartPrice
lent_price s at = record {
  amount = record { 0 = le_at s at amount_width };
  digits = get_or s (at + digits_at) 0;
  qualifier = fitted qualifier_width (slice (at + price_qualifier_at) (at + currency_at) s);
  currency = fitted currency_width (slice (at + currency_at) (at + price_width) s);
}

-- the article of the part that stands lent at a place: so many bytes as its length says
unfoldable pub lent_article : List ℕ → ℕ → PartArticle
lent_article s at = record {
  length = get_or s (at + length_at) 0;
  bytes = fitted article_width (slice (at + article_at) (at + article_at + get_or s (at + length_at) 0) s);
  qualifier = fitted qualifier_width (slice (at + article_qualifier_at) (at + part_width) s);
}

-- the part that stands lent at a place
unfoldable pub lent_part : List ℕ → ℕ → Part
lent_part s at = record {
  tax = get_or s at 0;
  medium = medium_in (get_or s (at + medium_at) 0);
  net = lent_price s (at + net_at);
  list = lent_price s (at + list_at);
  article = lent_article s at;
}

-- the first n lent parts, from a place on
unfoldable pub lent_parts : ℕ → List ℕ → ℕ → List Part
lent_parts zero s at = []
lent_parts (suc n) s at = lent_part s at ∷ lent_parts n s (at + part_width)
