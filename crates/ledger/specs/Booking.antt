-- Booking on lists: the refusals of each kind in their order, and what an accepted record does (RULES 7).
use Rattle.std.specs.Prelude.{ℕ, ◌+◌, Bool, false, not, ◌&&◌, List, [], ◌∷◌, ◌++◌, leb, ltb, eqb, length}
use Rattle.std.proofs.Math.Option.{Option, none, some}
use Rattle.cells.specs.Bytes.{pick, same}
use Rattle.ledger.specs.Lists.{keep, total, first, change, given, found}
use Rattle.ledger.specs.Book.{Key, school_of, of_school, Order, Goods, Report, Line, Slip, Book, Rooms, still_open}

-- a record fit to book: the key of its line, and what it says; for an order also the ceiling that its school has on the roster that the order met
pub data Fit : Type 0 where
  order : Key → Order → ℕ → Fit
  goods : Key → Goods → Fit
  report : Key → Report → Fit

-- the entry with a key: of several the first
unfoldable pub line_at : Key → List Line → Option Line
line_at k ls = first (λ l. same k l.key) ls

unfoldable pub slip_at : Key → List Slip → Option Slip
slip_at s ts = first (λ t. same s t.says.slip) ts

-- a test that refuses where it holds, with its answer number
pub record Test : Type 0 where
  pub holds : Bool
  pub number : ℕ

infix 20 ◌refuses◌
abbrev pub ◌refuses◌ : Bool → ℕ → Test
b refuses n = record { holds = b; number = n }

pub data Answer : Type 0 where
  done : Answer
  refused : ℕ → Answer

-- its number, as the calls give it
abbrev pub number_of : Answer → ℕ
number_of done = 0
number_of (refused n) = n

-- the first test that holds gives its number
unfoldable pub first_of : List Test → Answer
first_of [] = done
first_of (t ∷ ts) = pick t.holds (refused t.number) (first_of ts)

-- A may not pass this
unfoldable pub most_arrived : ℕ
most_arrived = 9999999

-- the slip that is booked has the same line key and quantity
unfoldable pub is_same : Key → Goods → Slip → Bool
is_same k g t = same k t.line && eqb g.copies t.says.copies

-- the open copies of a school: those of all its lines (RULES 6.6)
unfoldable pub open_of : Key → List Line → ℕ
open_of school ls = total still_open (keep (λ l. of_school school l.key) ls)

-- the refusals of each kind, in their order
unfoldable pub tests : Rooms → Book → Fit → List Test
tests rooms b (order k o ceiling) =
    (found (line_at k b.lines) refuses 14)
    ∷ (ltb ceiling (open_of (school_of k) b.lines + o.copies) refuses 25)
    ∷ (leb rooms.for_lines (length b.lines) refuses 15)
    ∷ []
tests rooms b (goods k g) =
    (given false (is_same k g) (slip_at g.slip b.slips) refuses 17)
    ∷ (found (slip_at g.slip b.slips) refuses 18)
    ∷ (not (found (line_at k b.lines)) refuses 16)
    ∷ (ltb most_arrived (given 0 (λ l. l.arrived) (line_at k b.lines) + g.copies) refuses 21)
    ∷ (leb rooms.for_slips (length b.slips) refuses 19)
    ∷ []
tests rooms b (report k m) =
    (not (found (line_at k b.lines)) refuses 16)
    ∷ []

unfoldable pub judge : Rooms → Book → Fit → Answer
judge rooms b r = first_of (tests rooms b r)

-- the line that an accepted order begins: nothing has arrived, and no report has come
abbrev pub new_line : Key → Order → Line
new_line k o = record { key = k; asked = o; arrived = 0; last = none }

-- the line after a delivery: so many copies more have arrived
unfoldable pub arrive : ℕ → Line → Line
arrive n l = record { key = l.key; asked = l.asked; arrived = l.arrived + n; last = l.last }

-- the line after a report, which is now its last
unfoldable pub tell : Report → Line → Line
tell m l = record { key = l.key; asked = l.asked; arrived = l.arrived; last = some m }

unfoldable pub change_line : Key → (Line → Line) → List Line → List Line
change_line k f ls = change (λ l. same k l.key) f ls

-- the book after an accepted record
unfoldable pub enter : Book → Fit → Book
enter b (order k o ceiling) = record { lines = b.lines ++ (new_line k o ∷ []); slips = b.slips }
enter b (goods k g) =
    record { lines = change_line k (arrive g.copies) b.lines; slips = b.slips ++ (record { line = k; says = g } ∷ []) }
enter b (report k m) = record { lines = change_line k (tell m) b.lines; slips = b.slips }
