-- Booking a record into a lent book: its refusals in their order, and what an accepted record changes (RULES 7).
use Rattle.std.specs.Prelude.{ℕ, ◌+◌, Bool, true, false, ◌&&◌, List, [], ◌∷◌, ◌++◌, map, eqb, leb, ltb, take, set, Err, None, Ok, Option, Some}
use Rattle.cells.specs.Bytes.{pick, bytes, same, joined}
use Rattle.roster.specs.Roster.{roster_sound, standing}
use Rattle.signs.specs.Class.{all_of}
use Rattle.rules.specs.Number.{number}
use Rattle.rules.specs.Values.{copies, copies_of, expected_of}
use Rattle.rules.specs.declared.amount.Copies.{Copies}
use Rattle.signs.specs.declared.Class.TheVariants.{Blank}
use Rattle.record.specs.Layout.{kind_of}
use Rattle.record.specs.Answers.{refusal_number, refusal_place}
use Rattle.record.specs.Values.{field_bytes}
use Rattle.record.specs.Read.{judged}
use Rattle.record.specs.Verdicts.{Verdict as Reading}
use Rattle.record.specs.declared.layout.Kind.{Kind}
use Rattle.record.specs.declared.layout.Kind.TheVariants.{Order, Goods, Closing, Report}
use Rattle.entry.specs.Line.{new_line, with_report, with_arrivals, figures_of, reported_of}
use Rattle.entry.specs.Stored.{most_arrived, line_at, put_arrived, put_report, add_line, key_is, article_is, slip_line_at, slip_copies_at, add_slip}
use Rattle.entry.specs.declared.line.Mark.{Mark}
use Rattle.entry.specs.declared.line.Mark.TheVariants.{Held, Dropped}
use Rattle.entry.specs.declared.line.Line.{Line}
use Rattle.entry.specs.declared.line.Figures.{Figures}
use Rattle.entry.specs.declared.report.Message.{Message}
use Rattle.entry.specs.declared.report.Message.TheVariants.{Numbered}
use Rattle.entry.specs.declared.report.Reported.{Reported}
use Rattle.book.specs.Lent.{Lent, used_lines, used_slips, line_room, slip_room, sound, find_line, find_slip, open_copies}
use Rattle.book.specs.declared.answer.Refused.{Refused}
use Rattle.book.specs.declared.answer.Refused.TheVariants.{Unsound, Unread, NothingToBook, NoCopies, NoReference, LineExists, LinesUsed, NoLine, SlipBooked, SlipDiffers, SlipsUsed, TooManyArrived, NotOnRoster, CeilingPassed}
use Rattle.book.specs.Verdicts.{Verdict}
use Rattle.book.specs.declared.answer.Told.{Told}
use Rattle.book.specs.declared.answer.Booked.{Booked}

-- the answer number of each refusal
unfoldable pub refused_number : Refused → ℕ
refused_number Unsound = 20
refused_number (Unread r) = refusal_number r
refused_number NothingToBook = 13
refused_number NoCopies = 11
refused_number NoReference = 12
refused_number LineExists = 14
refused_number LinesUsed = 15
refused_number NoLine = 16
refused_number SlipBooked = 17
refused_number SlipDiffers = 18
refused_number SlipsUsed = 19
refused_number TooManyArrived = 21
refused_number NotOnRoster = 24
refused_number CeilingPassed = 25

-- only what reading refuses has a place
unfoldable pub refused_place : Refused → ℕ
refused_place (Unread r) = refusal_place r
refused_place Unsound = 0
refused_place NothingToBook = 0
refused_place NoCopies = 0
refused_place NoReference = 0
refused_place LineExists = 0
refused_place LinesUsed = 0
refused_place NoLine = 0
refused_place SlipBooked = 0
refused_place SlipDiffers = 0
refused_place SlipsUsed = 0
refused_place TooManyArrived = 0
refused_place NotOnRoster = 0
refused_place CeilingPassed = 0

-- the fields of a record with these indexes
abbrev pub fields_in : Kind → List ℕ → List ℕ → List (List ℕ)
fields_in k is s = map (λ (i : ℕ). field_bytes k i s) is

-- the fields of a record that make its line's key, by their indexes; the school's come first (RULES 6.1)
unfoldable pub key_fields : Kind → List ℕ
key_fields Order = 1 ∷ 2 ∷ 3 ∷ 4 ∷ 6 ∷ []
key_fields Goods = 3 ∷ 4 ∷ 1 ∷ 2 ∷ 8 ∷ []
key_fields Closing = []
key_fields Report = 3 ∷ 4 ∷ 1 ∷ 2 ∷ 6 ∷ []

unfoldable pub line_key : Kind → List ℕ → List ℕ
line_key k s = joined (fields_in k (key_fields k) s)

-- those that name the article: its number and its qualifier. They are no part of the key, since a supplier may answer with a number of its own
unfoldable pub article_fields : Kind → List ℕ
article_fields Order = 7 ∷ 8 ∷ []
article_fields Goods = 9 ∷ 10 ∷ []
article_fields Closing = []
article_fields Report = 7 ∷ 8 ∷ []

unfoldable pub article_in : Kind → List ℕ → List ℕ
article_in k s = joined (fields_in k (article_fields k) s)

-- a school is an address and its qualifier, the first two fields of a key
abbrev pub school_fields : ℕ
school_fields = 2

unfoldable pub school_in : Kind → List ℕ → List ℕ
school_in k s = joined (fields_in k (take school_fields (key_fields k)) s)

-- the fields of a goods record that make its slip's key (RULES 6.1)
abbrev pub slip_fields : List ℕ
slip_fields = 1 ∷ 2 ∷ 3 ∷ 4 ∷ 5 ∷ 6 ∷ 7 ∷ []

unfoldable pub slip_key : List ℕ → List ℕ
slip_key s = joined (fields_in Goods slip_fields s)

-- the quantity of an order or a delivery
unfoldable pub copies_in : Kind → List ℕ → Copies
copies_in Order s = copies_of (field_bytes Order 9 s)
copies_in Goods s = copies_of (field_bytes Goods 11 s)
copies_in Closing s = copies 0
copies_in Report s = copies 0

-- 13: a closing record, or a goods record with a blank slip number
unfoldable pub nothing_to_book : Kind → List ℕ → Bool
nothing_to_book Order s = false
nothing_to_book Goods s = all_of Blank (field_bytes Goods 6 s)
nothing_to_book Closing s = true
nothing_to_book Report s = false

-- 11: no copies are ordered, or none have come
unfoldable pub no_copies : Kind → List ℕ → Bool
no_copies Order s = eqb (copies_in Order s).0 0
no_copies Goods s = eqb (copies_in Goods s).0 0
no_copies Closing s = false
no_copies Report s = false

-- 12: there is no reference
unfoldable pub no_reference : Kind → List ℕ → Bool
no_reference Order s = all_of Blank (field_bytes Order 6 s)
no_reference Goods s = all_of Blank (field_bytes Goods 8 s)
no_reference Closing s = false
no_reference Report s = all_of Blank (field_bytes Report 6 s)

-- what a report says of its line: the mark by its field 11 only, the message number, and the bytes of the expected date
unfoldable pub mark_in : List ℕ → Mark
mark_in s = pick (same (field_bytes Report 10 s) (bytes "J")) Held Dropped

unfoldable pub message_in : List ℕ → Message
message_in s = Numbered (number (field_bytes Report 9 s))

unfoldable pub date_in : List ℕ → List ℕ
date_in s = field_bytes Report 11 s

-- 25, 15: so many copies of the school would be open
unfoldable pub new_line_judged : Lent → ℕ → ℕ → Verdict
new_line_judged b copies ceiling =
    pick (leb copies ceiling) (pick (ltb (used_lines b) (line_room b)) (Ok (used_lines b)) (Err LinesUsed)) (Err CeilingPassed)

-- 14, then 25 and 15, of so many copies for a school with a ceiling
unfoldable pub order_judged : Lent → List ℕ → Copies → ℕ → Option ℕ → Verdict
order_judged b school n ceiling (Some i) = Err LineExists
order_judged b school n ceiling None = new_line_judged b (open_copies b school + n.0) ceiling

-- 17 or 18: the slip key is booked at j, with the same line key and quantity or with another
unfoldable pub slip_judged : Lent → List ℕ → Copies → ℕ → Verdict
slip_judged b key n j =
    pick (key_is b.lines key (slip_line_at b.slips j) && eqb (slip_copies_at b.slips j).0 n.0) (Err SlipBooked) (Err SlipDiffers)

-- 21, 19 where the line stands at i
unfoldable pub arrival_judged : Lent → Copies → ℕ → Verdict
arrival_judged b n i =
    pick (leb ((line_at b.lines i).arrived.0 + n.0) most_arrived)
    (pick (ltb (used_slips b) (slip_room b)) (Ok i) (Err SlipsUsed))
    (Err TooManyArrived)

-- 16, then 21 and 19
unfoldable pub goods_judged : Lent → Copies → Option ℕ → Verdict
goods_judged b n None = Err NoLine
goods_judged b n (Some i) = arrival_judged b n i

-- 17 or 18, then the rest
unfoldable pub delivery_judged : Lent → List ℕ → Copies → Option ℕ → Verdict
delivery_judged b key n (Some j) = slip_judged b key n j
delivery_judged b key n None = goods_judged b n (find_line b key)

-- 16
unfoldable pub report_judged : Option ℕ → Verdict
report_judged None = Err NoLine
report_judged (Some i) = Ok i

-- what the book says of a record that is fit to book, whose school has a ceiling; only an order is held to it
unfoldable pub book_judged : Kind → List ℕ → ℕ → Lent → Verdict
book_judged Order s ceiling b = order_judged b (school_in Order s) (copies_in Order s) ceiling (find_line b (line_key Order s))
book_judged Goods s ceiling b = delivery_judged b (line_key Goods s) (copies_in Goods s) (find_slip b (slip_key s))
book_judged Closing s ceiling b = Err NothingToBook
book_judged Report s ceiling b = report_judged (find_line b (line_key Report s))

-- 24, then the book
unfoldable pub on_roster : Kind → List ℕ → Lent → Option ℕ → Verdict
on_roster k s b None = Err NotOnRoster
on_roster k s b (Some ceiling) = book_judged k s ceiling b

-- 13, 11, 12, 24, then the book, of a record of a kind that is read
unfoldable pub fit_judged : Kind → List ℕ → List ℕ → Lent → Verdict
fit_judged k s roster b =
    pick (nothing_to_book k s) (Err NothingToBook)
    (pick (no_copies k s) (Err NoCopies)
    (pick (no_reference k s) (Err NoReference)
    (on_roster k s b (standing roster (school_in k s)))))

-- the line that a record of a kind makes of the line at i
unfoldable pub line_after : Kind → List ℕ → Lent → ℕ → Line
line_after Order s b i = new_line (copies_in Order s)
line_after Goods s b i = with_arrivals (copies_in Goods s) (line_at b.lines i)
line_after Closing s b i = line_at b.lines i
line_after Report s b i = with_report (mark_in s) (message_in s) (expected_of (date_in s)) (line_at b.lines i)

-- the lent book after an accepted record (RULES 7.2)
unfoldable pub lent_after : Kind → List ℕ → Lent → ℕ → Lent
lent_after Order s b i =
    record { lines = add_line b.lines i (line_key Order s ++ article_in Order s) (copies_in Order s); slips = b.slips; used = set b.used 0 (used_lines b + 1) }
lent_after Goods s b i =
    record {
      lines = put_arrived b.lines i (line_after Goods s b i).arrived;
      slips = add_slip b.slips (used_slips b) (slip_key s) i (copies_in Goods s);
      used = set b.used 1 (used_slips b + 1);
    }
lent_after Closing s b i = b
lent_after Report s b i = record { lines = put_report b.lines i (mark_in s) (message_in s) (date_in s); slips = b.slips; used = b.used }

-- what booking says, and the lent book afterwards
pub record Outcome : Type 0 where
  pub said : Booked
  pub lent : Lent

abbrev pub outcome : Booked → Lent → Outcome
outcome said b = record { said = said; lent = b }

abbrev pub no_figures : Figures
no_figures = record { ordered = copies 0; filled = copies 0; still_open = copies 0; let_go = copies 0; extra = copies 0 }

abbrev pub not_reported : Reported
not_reported = record { message = 0; expected = 0; year = 0; month = 0; day = 0 }

-- what a refusal says: no figures, and nothing of a report
unfoldable pub refused_as : Refused → Told
refused_as r = record { answer = refused_number r; place = refused_place r; figures = no_figures; reported = not_reported }

-- done, with the figures of the line and what its last report said
unfoldable pub done_as : Line → Told
done_as l = record { answer = 0; place = 0; figures = figures_of l; reported = reported_of l }

-- what is told of a record's line, with whether the articles agreed
abbrev pub booked_as : Told → ℕ → Booked
booked_as t agreed = record { answer = t.answer; place = t.place; figures = t.figures; agreed = agreed; reported = t.reported }

-- the same without it
abbrev pub told_in : Booked → Told
told_in said = record { answer = said.answer; place = said.place; figures = said.figures; reported = said.reported }

-- what booking says of a record that is refused: nothing agreed
abbrev pub not_booked : Refused → Booked
not_booked r = booked_as (refused_as r) 0

-- 1 where the line at i was ordered under an article, number and qualifier byte for byte, else 0
unfoldable pub agreed_at : List ℕ → List ℕ → ℕ → ℕ
agreed_at lines article i = pick (article_is lines article i) 1 0

-- what is told of a record of a kind that is entered at the line with an index: an order is its line's own; a closing record is never entered
unfoldable pub agreed_as : Kind → List ℕ → Lent → ℕ → ℕ
agreed_as Order s b i = 1
agreed_as Goods s b i = agreed_at b.lines (article_in Goods s) i
agreed_as Closing s b i = 0
agreed_as Report s b i = agreed_at b.lines (article_in Report s) i

-- a record of a kind entered at the line with an index
unfoldable pub entered_as : Kind → List ℕ → Lent → ℕ → Outcome
entered_as k s b i = outcome (booked_as (done_as (line_after k s b i)) (agreed_as k s b i)) (lent_after k s b i)

-- the book stays as it was where a record is refused
unfoldable pub settled : Kind → List ℕ → Lent → Verdict → Outcome
settled k s b (Err r) = outcome (not_booked r) b
settled k s b (Ok i) = entered_as k s b i

-- a record of a kind that is read, booked into a sound book
unfoldable pub book_as : Kind → List ℕ → List ℕ → Lent → Outcome
book_as k s roster b = settled k s b (fit_judged k s roster b)

unfoldable pub book_kind : Option Kind → List ℕ → List ℕ → Lent → Outcome
book_kind None s roster b = outcome (not_booked NothingToBook) b
book_kind (Some k) s roster b = book_as k s roster b

-- 1 to 10 first
unfoldable pub book_read : Reading → List ℕ → List ℕ → Lent → Outcome
book_read (Err r) s roster b = outcome (not_booked (Unread r)) b
book_read (Ok n) s roster b = book_kind (kind_of s) s roster b

-- a record that meets a roster, booked into a lent book: 20 before all
unfoldable pub book : List ℕ → List ℕ → Lent → Outcome
book s roster b = pick (roster_sound roster && sound b) (book_read (judged s) s roster b) (outcome (not_booked Unsound) b)
