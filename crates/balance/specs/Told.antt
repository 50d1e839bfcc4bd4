-- The book that lent bytes tell, as a list of lines and a list of slips (`ledger`), and the record that bytes are fit to book as.
use Rattle.std.specs.Prelude.{ℕ, zero, suc, List, [], ◌∷◌, Option, Some, None}
use Rattle.std.proofs.Math.Option.{Option as Known, none, some}
use Rattle.record.specs.Layout.{kind_of}
use Rattle.record.specs.declared.layout.Kind.{Kind}
use Rattle.record.specs.declared.layout.Kind.TheVariants.{Order as order, Goods as goods, Closing as closing, Report as report}
use Rattle.entry.specs.Stored.{line_at, date_at, key_at, article_at, slip_key_at, slip_line_at, slip_copies_at}
use Rattle.entry.specs.declared.report.Message.{Message}
use Rattle.entry.specs.declared.report.Message.TheVariants.{NoReport, Unknown, Numbered}
use Rattle.entry.specs.declared.line.Mark.{Mark}
use Rattle.entry.specs.declared.line.Mark.TheVariants.{Unmarked, Held, Dropped}
use Rattle.ledger.specs.Book.{Hold, J, N, Report, Line, Slip, Book, Rooms}
use Rattle.ledger.specs.Booking.{Fit, order as ordering, goods as arriving, report as telling}
use Rattle.book.specs.Lent.{Lent, used_lines, used_slips, line_room, slip_room}
use Rattle.roster.specs.Roster.{standing}
use Rattle.book.specs.Booking.{line_key, article_in, slip_key, school_in, copies_in, mark_in, message_in, date_in}
use Rattle.balance.specs.Met.{Met}

-- what stands at the n places from i on
unfoldable pub listed : {A : Type 0} → (ℕ → A) → ℕ → ℕ → List A
listed f zero i = []
listed f (suc n) i = f i ∷ listed f n (suc i)

-- the number of a message, if it is known
unfoldable pub known_number : Message → Known ℕ
known_number NoReport = none
known_number Unknown = none
known_number (Numbered n) = some n

-- a mark, a message and the bytes of an expected date as the last report
unfoldable pub report_of : Mark → Message → List ℕ → Known Report
report_of Unmarked n date = none
report_of Held n date = some (record { hold = J; message = known_number n; date = date })
report_of Dropped n date = some (record { hold = N; message = known_number n; date = date })

unfoldable pub line_told : List ℕ → ℕ → Line
line_told lines i =
    record { key = key_at lines i; asked = record { copies = (line_at lines i).ordered.0; article = article_at lines i }; arrived = (line_at lines i).arrived.0; last = report_of (line_at lines i).mark (line_at lines i).message (date_at lines i) }

-- a stored slip has its line's index; here it names its line by key
unfoldable pub slip_told : List ℕ → List ℕ → ℕ → Slip
slip_told lines slips j =
    record { line = key_at lines (slip_line_at slips j); says = record { slip = slip_key_at slips j; copies = (slip_copies_at slips j).0 } }

unfoldable pub told : Lent → Book
told b =
    record { lines = listed (line_told b.lines) (used_lines b) 0; slips = listed (slip_told b.lines b.slips) (used_slips b) 0 }

-- the rooms that are lent
unfoldable pub rooms_of : Lent → Rooms
rooms_of b = record { for_lines = line_room b; for_slips = slip_room b }

unfoldable pub hold_of : Mark → Hold
hold_of Unmarked = J
hold_of Held = J
hold_of Dropped = N

-- the ceiling of a school on a roster; one that is not on it books nothing, so its 0 is never asked for
unfoldable pub ceiling_in : Option ℕ → ℕ
ceiling_in (Some ceiling) = ceiling
ceiling_in None = 0

-- the record that bytes of a kind are fit to book as, an order with the ceiling that its school has on the roster; a closing record never is
unfoldable pub fit_as : Kind → List ℕ → List ℕ → Fit
fit_as order s roster = ordering (line_key order s) (record { copies = (copies_in order s).0; article = article_in order s }) (ceiling_in (standing roster (school_in order s)))
fit_as goods s roster = arriving (line_key goods s) (record { slip = slip_key s; copies = (copies_in goods s).0 })
fit_as closing s roster = telling [] (record { hold = J; message = none; date = [] })
fit_as report s roster = telling (line_key report s) (record { hold = hold_of (mark_in s); message = known_number (message_in s); date = date_in s })

unfoldable pub fit_kind : Option Kind → List ℕ → List ℕ → Fit
fit_kind None s roster = fit_as closing s roster
fit_kind (Some k) s roster = fit_as k s roster

unfoldable pub fit_of : Met → Fit
fit_of s = fit_kind (kind_of s.given) s.given s.roster
