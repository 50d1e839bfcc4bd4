-- A sequence of bookings from an empty book, with the records accepted, and what the accepted records come to.
use Rattle.std.specs.Prelude.{ℕ, Bool, true, false, List, [], ◌∷◌, ◌++◌}
use Rattle.std.proofs.Math.Option.{Option, none, some}
use Rattle.cells.specs.Bytes.{same}
use Rattle.ledger.specs.Lists.{keep, total}
use Rattle.ledger.specs.Book.{Key, Report, Line, Book, Rooms}
use Rattle.ledger.specs.Booking.{Fit, order, goods, report, Answer, done, refused, judge, enter}

-- the book, and the records accepted so far, the earliest first
pub record State : Type 0 where
  pub book : Book
  pub accepted : List Fit

abbrev pub empty : State
empty = record { book = record { lines = []; slips = [] }; accepted = [] }

-- a record that is refused changes nothing
unfoldable pub settle : Answer → State → Fit → State
settle done st r = record { book = enter st.book r; accepted = st.accepted ++ (r ∷ []) }
settle (refused n) st r = st

unfoldable pub booking : Rooms → State → Fit → State
booking rooms st r = settle (judge rooms st.book r) st r

unfoldable pub bookings : Rooms → State → List Fit → State
bookings rooms st [] = st
bookings rooms st (r ∷ rs) = bookings rooms (booking rooms st r) rs

-- the part of a book, and of a sequence of records, that some keys have
unfoldable pub key_of : Fit → Key
key_of (order k o c) = k
key_of (goods k g) = k
key_of (report k m) = k

unfoldable pub lines_of : (Key → Bool) → List Line → List Line
lines_of p ls = keep (λ l. p l.key) ls

unfoldable pub part : (Key → Bool) → Book → Book
part p b = record { lines = lines_of p b.lines; slips = keep (λ t. p t.line) b.slips }

unfoldable pub records_of : (Key → Bool) → List Fit → List Fit
records_of p rs = keep (λ r. p (key_of r)) rs

-- a record is an order
unfoldable pub is_order : Fit → Bool
is_order (order k o c) = true
is_order (goods k g) = false
is_order (report k m) = false

-- copies on an order, and on a slip
unfoldable pub on_order : Fit → ℕ
on_order (order k o c) = o.copies
on_order (goods k g) = 0
on_order (report k m) = 0

unfoldable pub on_slip : Fit → ℕ
on_slip (order k o c) = 0
on_slip (goods k g) = g.copies
on_slip (report k m) = 0

-- the last report among records, or an earlier one where there is none
unfoldable pub last_report : Option Report → List Fit → Option Report
last_report earlier [] = earlier
last_report earlier (order k o c ∷ rs) = last_report earlier rs
last_report earlier (goods k g ∷ rs) = last_report earlier rs
last_report earlier (report k m ∷ rs) = last_report (some m) rs

-- a key's lines from the key's own accepted records: an order begins one; then the sum of its slips and its last report
unfoldable pub line_from : Key → List Fit → List Line
line_from k [] = []
line_from k (order j o c ∷ rs) = record { key = k; asked = o; arrived = total on_slip rs; last = last_report none rs } ∷ []
line_from k (goods j g ∷ rs) = line_from k rs
line_from k (report j m ∷ rs) = line_from k rs

-- a delivery with this slip key
unfoldable pub has_slip : Key → Fit → Bool
has_slip s (order k o c) = false
has_slip s (goods k g) = same s g.slip
has_slip s (report k m) = false
