-- The figures and the last report that the calls answer are those of the book that the bytes tell; and the rule on lists refuses with the same numbers.
use Rattle.std.specs.Prelude.{ℕ, ◌≤◌, ◌≡◌, true, false, List, map, length, Ok, Some}
use Rattle.std.proofs.Math.Option.{Option, none, some}
use Rattle.cells.specs.Bytes.{pick, joined}
use Rattle.rules.specs.Values.{copies, expected_of}
use Rattle.rules.specs.declared.expected.Expected.TheVariants.{Blanks}
use Rattle.record.specs.Layout.{kind_of}
use Rattle.record.specs.Read.{judged}
use Rattle.record.specs.declared.layout.Kind.{Kind}
use Rattle.entry.specs.Report.{report_told}
use Rattle.entry.specs.declared.line.Figures.{Figures}
use Rattle.entry.specs.declared.report.Message.{Message}
use Rattle.entry.specs.declared.report.Message.TheVariants.{NoReport, Unknown, Numbered}
use Rattle.entry.specs.declared.report.Reported.{Reported}
use Rattle.ledger.specs.Book.{Report, Line, ordered, filled, let_go, still_open, extra}
use Rattle.ledger.specs.Booking.{number_of, judge, line_at}
use Rattle.ledger.specs.History.{State}
use Rattle.ledger.specs.Demand3.{Promise3}
use Rattle.book.specs.Lent.{Lent, sound, open_copies}
use Rattle.roster.specs.Roster.{roster_sound, standing}
use Rattle.book.specs.Booking.{nothing_to_book, no_copies, no_reference, school_in, refused_as, told_in}
use Rattle.book.specs.Asked.{key_widths, are_wide}
use Rattle.book.specs.declared.answer.Refused.TheVariants.{Unsound, NoLine}
use Rattle.book.specs.declared.answer.Told.{Told}
use Rattle.balance.specs.Told.{told, rooms_of, fit_of}
use Rattle.balance.specs.Met.{Met}
use Rattle.balance.specs.Calls.{book_call, ask_call}
use Rattle.balance.specs.Accepted.{OnRoster}
use Rattle.balance.specs.Demand3.{is_order, key_fields_in, school_of, Given, fresh, give_all}

-- the figures of a line of the told book, in the order in which the calls give them
unfoldable pub figures_told : Line → Figures
figures_told l =
    record { ordered = copies (ordered l); filled = copies (filled l); still_open = copies (still_open l); let_go = copies (let_go l); extra = copies (extra l) }

-- the message of a report, whose number is known or not
unfoldable pub message_from : Option ℕ → Message
message_from none = Unknown
message_from (some n) = Numbered n

-- a last report, or that there is none, as the calls give it
unfoldable pub reported_told : Option Report → Reported
reported_told none = report_told NoReport Blanks
reported_told (some r) = report_told (message_from r.message) (expected_of r.date)

-- what a call says of the line that is found, or that there is none
unfoldable pub says_of : Option Line → Told
says_of none = refused_as NoLine
says_of (some l) = record { answer = 0; place = 0; figures = figures_told l; reported = reported_told l.last }

-- the call by key gives the figures and the last report of the first line with the key in the told book, and 16 exactly where there is none; a field of wrong length matches no line, and 20 stands before all
abbrev pub AskedTells : Type 0
AskedTells = (fields : List (List ℕ)) (b : Lent)
    → ask_call fields b
    ≡ pick (sound b) (pick (are_wide key_widths fields) (says_of (line_at (joined fields) (told b).lines)) (refused_as NoLine)) (refused_as Unsound)

-- where booking answers 0, the call by key with the record's own key says the same of the book afterwards, but for `agreed`, which is of the record and not of the line; the used counts are two numbers, as their type has it
abbrev pub BookedTells : Type 0
BookedTells = (s : Met) (b : Lent) → length b.used ≡ 2 → (book_call s b).said.answer ≡ 0
    → ask_call (key_fields_in s) (book_call s b).lent ≡ told_in (book_call s b).said

-- of a record that is read and has something to book, for a school on the roster, booking and the rule on lists give one number
abbrev pub NumbersAgree : Type 0
NumbersAgree = (s : Met) (b : Lent) (n : ℕ) (k : Kind) (ceiling : ℕ) → roster_sound s.roster ≡ true → sound b ≡ true
    → judged s.given ≡ Ok n → kind_of s.given ≡ Some k
    → nothing_to_book k s.given ≡ false → no_copies k s.given ≡ false → no_reference k s.given ≡ false
    → standing s.roster (school_in k s.given) ≡ Some ceiling
    → (book_call s b).said.answer ≡ number_of (judge (rooms_of b) (told b) (fit_of s))

-- in any lent book an accepted order leaves its school's open copies at most at its ceiling on the roster that the order met
abbrev pub CeilingHeld : Type 0
CeilingHeld = (s : Met) (b : Lent) (ceiling : ℕ) → length b.used ≡ 2 → is_order s ≡ true → (book_call s b).said.answer ≡ 0
    → OnRoster s.roster (joined (school_of s)) ceiling → open_copies (book_call s b).lent (joined (school_of s)) ≤ ceiling

-- what the bytes tell: the book, and the accepted records as they were booked
abbrev pub state_told : Given → State
state_told g = record { book = told g.book; accepted = map fit_of g.accepted }

-- what the rule on lists promises, of the told book; the sentences in the calls' words follow from it
abbrev pub ToldDemand3 : Type 0
ToldDemand3 = (lines slips : List ℕ) (records : List Met)
    → Promise3 (rooms_of (fresh lines slips).book) (state_told (give_all (fresh lines slips) records))
