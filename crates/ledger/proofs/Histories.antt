-- Induction over bookings; and some keys' accepted records alone.
use mathlib.Core.Path.{◌≡◌, refl}
use mathlib.Core.Bool.{Bool}
use mathlib.Core.List.{List, [], ◌∷◌, ◌++◌}
use Rattle.cells.proofs.Bools.{split}
use Rattle.ledger.specs.Lists.{keep}
use Rattle.ledger.specs.Book.{Key, Rooms}
use Rattle.ledger.specs.Booking.{Fit, Answer, done, refused, judge, enter}
use Rattle.ledger.specs.History.{State, empty, settle, booking, bookings, key_of, lines_of, part, records_of}
use Rattle.ledger.proofs.Lists.{keep_in, keep_out}
use Rattle.ledger.proofs.Parts.{judge_part, enter_in, enter_out}

-- the state after an accepted record
abbrev pub after : State → Fit → State
after st r = record { book = enter st.book r; accepted = st.accepted ++ (r ∷ []) }

-- an accepted record keeps a property of the state; a refused one leaves the state
abbrev pub Lasts : (State → Type 0) → Rooms → Type 0
Lasts P rooms = (st : State) (r : Fit) → judge rooms st.book r ≡ done → P st → P (after st r)

-- a property that lasts is kept by one booking
one_booking : (P : State → Type 0) (rooms : Rooms) → Lasts P rooms → (st : State) (r : Fit) → P st → P (booking rooms st r)
unfolding booking
one_booking P rooms s st r h = go (judge rooms st.book r) refl
  where
    go : (a : Answer) → judge rooms st.book r ≡ a → P (settle a st r)
    go done e = unfold settle in s st r e h
    go (refused n) e = unfold settle in h

-- a property that lasts is kept by any bookings
pub by_bookings : (P : State → Type 0) (rooms : Rooms) → Lasts P rooms → (rs : List Fit) (st : State) → P st → P (bookings rooms st rs)
unfolding bookings
by_bookings P rooms s [] st h = h
by_bookings P rooms s (r ∷ rs) st h = by_bookings P rooms s rs (booking rooms st r) (one_booking P rooms s st r h)

-- one more record is one more booking
pub bookings_more : (rooms : Rooms) (rs : List Fit) (r : Fit) (st : State)
    → bookings rooms st (rs ++ (r ∷ [])) ≡ booking rooms (bookings rooms st rs) r
unfolding bookings
bookings_more rooms [] r st = refl
bookings_more rooms (x ∷ rs) r st = bookings_more rooms rs r (booking rooms st x)

-- some keys' accepted records alone are all accepted, and give these keys' part of the book
abbrev pub Alone : (Key → Bool) → Rooms → State → Type 0
Alone p rooms st =
    bookings rooms empty (records_of p st.accepted) ≡ record { book = part p st.book; accepted = records_of p st.accepted }

-- an accepted record of theirs is one more of them, another leaves their part
alone_lasts : (p : Key → Bool) (rooms : Rooms) → Lasts (Alone p rooms) rooms
unfolding records_of booking settle
alone_lasts p rooms st r e h =
    split (p (key_of r))
    (λ i. cc
    (keep_in (λ (x : Fit). p (key_of x)) st.accepted r i, bookings_more rooms (records_of p st.accepted) r empty, judge_part p rooms st.book r i e, enter_in p st.book r i))
    (λ i. cc (keep_out (λ (x : Fit). p (key_of x)) st.accepted r i, enter_out p st.book r i))

-- so it is after any bookings from empty
pub alone : (p : Key → Bool) (rooms : Rooms) (rs : List Fit) → Alone p rooms (bookings rooms empty rs)
unfolding bookings records_of part lines_of keep
alone p rooms rs = by_bookings (Alone p rooms) rooms (alone_lasts p rooms) rs empty refl
