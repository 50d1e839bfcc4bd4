-- The typed values of a record's fixed part, by the layout of its kind.
use Rattle.std.specs.Prelude.{ℕ, suc, List, get_or, replicate}
use Rattle.std.proofs.Math.Seq.{slice}
use Rattle.rules.specs.Number.{number}
use Rattle.rules.specs.Day.{no_day, day_kept}
use Rattle.rules.specs.Values.{price_of, discount_of, copies_of, expected_of}
use Rattle.rules.specs.declared.expected.Expected.TheVariants.{Zeros}
use Rattle.record.specs.Layout.{layout, start_of}
use Rattle.record.specs.declared.layout.Kind.{Kind}
use Rattle.record.specs.declared.layout.Kind.TheVariants.{Order as order, Goods as goods, Report as report}
use Rattle.record.specs.declared.values.Party.{Party}
use Rattle.record.specs.declared.values.Article.{Article}
use Rattle.record.specs.declared.values.Order.{Order}
use Rattle.record.specs.declared.values.Delivery.{Delivery}
use Rattle.record.specs.declared.values.Report.{Report}

-- the bytes of the field with an index
unfoldable pub field_bytes : Kind → ℕ → List ℕ → List ℕ
field_bytes k i s = slice (start_of (layout k) i) (start_of (layout k) (suc i)) s

-- an address and the qualifier after it, from an index on
abbrev pub party_of : Kind → ℕ → List ℕ → Party
party_of k i s = record { address = field_bytes k i s; qualifier = field_bytes k (suc i) s }

abbrev pub article_of : Kind → ℕ → List ℕ → Article
article_of k i s = record { number = field_bytes k i s; qualifier = field_bytes k (suc i) s }

-- the one byte of a field
abbrev pub byte_of : Kind → ℕ → List ℕ → ℕ
byte_of k i s = get_or (field_bytes k i s) 0 0

unfoldable pub order_of : List ℕ → Order
order_of s = record {
  sender = party_of order 1 s;
  recipient = party_of order 3 s;
  date = day_kept (field_bytes order 5 s);
  reference = field_bytes order 6 s;
  article = article_of order 7 s;
  quantity = copies_of (field_bytes order 9 s);
  measure = field_bytes order 10 s;
}

-- a closing record's fields stand where a goods record's do; its date is no day, so the day 0 of month 0 of year 0 is kept
unfoldable pub delivery_of : List ℕ → Delivery
delivery_of s = record {
  sender = party_of goods 1 s;
  recipient = party_of goods 3 s;
  date = day_kept (field_bytes goods 5 s);
  slip = field_bytes goods 6 s;
  position = field_bytes goods 7 s;
  reference = field_bytes goods 8 s;
  article = article_of goods 9 s;
  quantity = copies_of (field_bytes goods 11 s);
  price = price_of (field_bytes goods 12 s);
  pricing = field_bytes goods 13 s;
  currency = field_bytes goods 14 s;
  discount = discount_of (field_bytes goods 15 s);
  tax = byte_of goods 16 s;
}

unfoldable pub report_of : List ℕ → Report
report_of s = record {
  sender = party_of report 1 s;
  recipient = party_of report 3 s;
  slip = field_bytes report 5 s;
  reference = field_bytes report 6 s;
  article = article_of report 7 s;
  message = number (field_bytes report 9 s);
  hold = byte_of report 10 s;
  expected = expected_of (field_bytes report 11 s);
}

-- zeros for all values, as a refusal gives them
abbrev pub no_party : Party
no_party = record { address = replicate 10 0; qualifier = replicate 2 0 }

abbrev pub no_article : Article
no_article = record { number = replicate 13 0; qualifier = replicate 2 0 }

abbrev pub no_order : Order
no_order = record {
  sender = no_party;
  recipient = no_party;
  date = no_day;
  reference = replicate 10 0;
  article = no_article;
  quantity = record { 0 = 0 };
  measure = replicate 2 0;
}

abbrev pub no_delivery : Delivery
no_delivery = record {
  sender = no_party;
  recipient = no_party;
  date = no_day;
  slip = replicate 10 0;
  position = replicate 4 0;
  reference = replicate 10 0;
  article = no_article;
  quantity = record { 0 = 0 };
  price = record { 0 = 0 };
  pricing = replicate 2 0;
  currency = replicate 3 0;
  discount = record { 0 = 0 };
  tax = 0;
}

abbrev pub no_report : Report
no_report = record {
  sender = no_party;
  recipient = no_party;
  slip = replicate 10 0;
  reference = replicate 10 0;
  article = no_article;
  message = 0;
  hold = 0;
  expected = Zeros;
}
