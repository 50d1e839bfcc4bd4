-- What booking promises goes on after a load, from the history that the loaded entries tell: the statement (RULES 9.5).
use Rattle.std.specs.Prelude.{ℕ, ◌≡◌, List, [], ◌∷◌, ◌++◌, map, length}
use Rattle.std.proofs.Math.Option.{Option, none, some}
use Rattle.ledger.specs.Book.{Report, Line, Slip, Book}
use Rattle.ledger.specs.Booking.{Fit, order, goods, report}
use Rattle.ledger.specs.History.{State}
use Rattle.ledger.specs.Demand3.{Promise3}
use Rattle.roster.specs.Roster.{highest_ceiling}
use Rattle.book.specs.Lent.{Lent}
use Rattle.balance.specs.Met.{Met}
use Rattle.balance.specs.Told.{told, rooms_of, fit_of}
use Rattle.balance.specs.Demand3.{Given, give_all}
use Rattle.save.specs.Load.{load}
use Rattle.restored.specs.Restored.{Orderly}

-- the history that the entries of a book state: an order for each line, a delivery for each slip, and for each line with a mark a report. What roster an order met is not in the book: the highest ceiling stands for it
unfoldable pub orders_of : List Line → List Fit
orders_of [] = []
orders_of (l ∷ ls) = order l.key l.asked highest_ceiling ∷ orders_of ls

unfoldable pub deliveries_of : List Slip → List Fit
deliveries_of [] = []
deliveries_of (t ∷ ts) = goods t.line t.says ∷ deliveries_of ts

unfoldable pub report_on : Line → Option Report → List Fit
report_on l none = []
report_on l (some m) = report l.key m ∷ []

unfoldable pub reports_of : List Line → List Fit
reports_of [] = []
reports_of (l ∷ ls) = report_on l l.last ++ reports_of ls

unfoldable pub history_of : Book → List Fit
history_of b = orders_of b.lines ++ (deliveries_of b.slips ++ reports_of b.lines)

-- the lent book, with no record given yet
abbrev pub resumed : Lent → Given
resumed b = record { book = b; accepted = [] }

-- what the bytes tell after more records, with the history that the book stated before them
abbrev pub state_after : Lent → List Met → State
state_after b records =
    record {
      book = told (give_all (resumed b) records).book;
      accepted = history_of (told b) ++ map fit_of (give_all (resumed b) records).accepted;
    }

-- for every book that keeps the rules of a save, as each loaded one does, and every list of byte strings, each with a roster, given to it: the promise of booking on lists holds, with the history that its entries state before the records accepted
abbrev pub Resumes : Type 0
Resumes = (b : Lent) (records : List Met) → Orderly b → length b.used ≡ 2 → Promise3 (rooms_of b) (state_after b records)

-- and so for each book that was loaded, in the rooms that were lent
abbrev pub ResumesLoaded : Type 0
ResumesLoaded =
    (s : List ℕ) (b : Lent) (records : List Met) → length b.used ≡ 2 → (load s b).said.answer ≡ 0
    → Promise3 (rooms_of b) (state_after (load s b).lent records)
