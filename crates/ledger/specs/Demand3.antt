-- What holds of a book after any sequence of bookings from empty, and when a record is accepted: the statements.
use Rattle.std.specs.Prelude.{ℕ, ◌+◌, ◌≤◌, ◌≡◌, false, List, [], ◌∷◌, length}
use Rattle.cells.specs.Bytes.{same}
use Rattle.ledger.specs.Lists.{keep, total}
use Rattle.ledger.specs.Book.{Key, Order, Book, Rooms, school_of, of_school, filled, let_go, still_open, extra}
use Rattle.ledger.specs.Booking.{Fit, Test, order, done, open_of, tests, judge, enter}
use Rattle.ledger.specs.History.{State, empty, bookings, lines_of, part, records_of, on_order, on_slip, line_from, has_slip}

pub record Promise3 (rooms : Rooms) (st : State) : Type 0 where
  -- per school: copies on accepted orders = filled + let go + open
  pub orders : (school : Key)
      → total on_order (records_of (of_school school) st.accepted)
      ≡ total (λ l. filled l + let_go l + still_open l) (lines_of (of_school school) st.book.lines)
  -- per school: copies on accepted slips = filled + extra
  pub slips : (school : Key)
      → total on_slip (records_of (of_school school) st.accepted) ≡ total (λ l. filled l + extra l) (lines_of (of_school school) st.book.lines)
  -- each slip once: no two accepted deliveries have one slip key
  pub slip_once : (slip : Key) → length (keep (has_slip slip) st.accepted) ≤ 1
  -- each line's figures follow from its own accepted records
  pub every_line : (k : Key) → lines_of (same k) st.book.lines ≡ line_from k (records_of (same k) st.accepted)
  -- a school's accepted records alone are all accepted, and give the school's part of the book
  pub school_alone : (school : Key)
      → bookings rooms empty (records_of (of_school school) st.accepted)
      ≡ record { book = part (of_school school) st.book; accepted = records_of (of_school school) st.accepted }

-- what 25 promises: after an accepted order its school's open copies are at most the ceiling
abbrev pub CeilingKept : Type 0
CeilingKept =
    (rooms : Rooms) (b : Book) (k : Key) (o : Order) (ceiling : ℕ) → judge rooms b (order k o ceiling) ≡ done
    → open_of (school_of k) (enter b (order k o ceiling)).lines ≤ ceiling

-- none of the tests holds
abbrev pub NoneHolds : List Test → Type 0
NoneHolds [] = Unit {0}
NoneHolds (t ∷ ts) = (t.holds ≡ false) × NoneHolds ts

abbrev pub Demand3 : Type 0
Demand3 = (rooms : Rooms) (rs : List Fit) → Promise3 rooms (bookings rooms empty rs)

-- a record is accepted exactly where none of its tests holds
abbrev pub AcceptedExactly : Type 0
AcceptedExactly =
    (rooms : Rooms) (b : Book) (r : Fit)
    → (judge rooms b r ≡ done → NoneHolds (tests rooms b r)) × (NoneHolds (tests rooms b r) → judge rooms b r ≡ done)
