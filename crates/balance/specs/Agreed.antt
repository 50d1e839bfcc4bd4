-- Whether the articles agreed, in the calls' own words: the article that a record names is held against that of its line's order.
use Rattle.std.specs.Prelude.{ℕ, ◌≡◌, List, [], ◌∷◌}
use Rattle.cells.specs.Bytes.{pick, same}
use Rattle.record.specs.Layout.{kind_of}
use Rattle.record.specs.declared.layout.Kind.TheVariants.{Order, Goods, Report}
use Rattle.book.specs.Booking.{article_in}
use Rattle.balance.specs.Met.{Met}
use Rattle.balance.specs.Calls.{book_call}
use Rattle.balance.specs.Demand3.{by_kind, is_order, key_fields_in, records_with, Given, fresh, give, give_all}

-- the article that a record names, with its qualifier
unfoldable pub article_on : Met → List ℕ
article_on s = by_kind (article_in Order s.given) (article_in Goods s.given) (article_in Report s.given) [] (kind_of s.given)

-- the article of the first order among some records
unfoldable pub article_from : List Met → List ℕ
article_from [] = []
article_from (s ∷ ss) = pick (is_order s) (article_on s) (article_from ss)

-- the article that was ordered under a record's key, among the records accepted up to this one and with it
abbrev pub ordered_for : Given → Met → List ℕ
ordered_for g s = article_from (records_with (key_fields_in s) (give g s).accepted)

-- whatever rooms are lent and whatever records came before: an accepted record is told 1 where it names the article that was ordered under its key, byte for byte, else 0; an order is its own
abbrev pub AgreedTells : Type 0
AgreedTells =
    (lines slips : List ℕ) (records : List Met) (s : Met) → (book_call s (give_all (fresh lines slips) records).book).said.answer ≡ 0
    → (book_call s (give_all (fresh lines slips) records).book).said.agreed
    ≡ pick (same (ordered_for (give_all (fresh lines slips) records) s) (article_on s)) 1 0
