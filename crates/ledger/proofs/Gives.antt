-- Records that an empty book accepts all, and the book that they give.
use Prim.Native.Nat.{suc, ◌+◌, ◌≤◌}
use native.Mathlib.Omega.{arith}
use mathlib.Core.Path.{◌≡◌, refl, ap, ◌∙◌}
use mathlib.Core.List.{List, [], ◌∷◌, ◌++◌}
use lib.ListN.{length, length-append}
use Rattle.ledger.specs.Book.{Book, Rooms}
use Rattle.ledger.specs.Booking.{Fit, Answer, done, refused, judge, enter}
use Rattle.ledger.specs.History.{State, empty, settle, booking, bookings}
use Rattle.ledger.proofs.Histories.{bookings_more}

-- these records are all accepted, and give this book
abbrev pub Gives : Rooms → List Fit → Book → Type 0
Gives rooms rs b = bookings rooms empty rs ≡ record { book = b; accepted = rs }

-- one more that this book accepts is entered in it
module _ (rooms : Rooms) (rs rs' : List Fit) (b b' : Book) (r : Fit) where
  pub gives_more : Gives rooms rs b → judge rooms b r ≡ done → rs ++ (r ∷ []) ≡ rs' → enter b r ≡ b' → Gives rooms rs' b'
  unfolding booking settle
  gives_more h e p q = rw (← p, ← q) (bookings_more rooms rs r empty ∙ rw (h, e))

-- no more are accepted than were given
accepted_most : (rooms : Rooms) (rs : List Fit) (st : State) → length (bookings rooms st rs).accepted ≤ length st.accepted + length rs
unfolding bookings booking settle
accepted_most rooms [] st = omega arith
accepted_most rooms (r ∷ rs) st = go (judge rooms st.book r) (accepted_most rooms rs)
  where
    go : (a : Answer) → ((st : State) → length (bookings rooms st rs).accepted ≤ length st.accepted + length rs)
        → length (bookings rooms (settle a st r) rs).accepted ≤ length st.accepted + suc (length rs)
    go done most = omega (arith, most (settle done st r), length-append st.accepted (r ∷ []))
    go (refused n) most = omega (arith, most st)

-- where all that were given are accepted, the first of them is
pub first_accepted : (rooms : Rooms) (r : Fit) (rs : List Fit) (st : State) → (bookings rooms st (r ∷ rs)).accepted ≡ st.accepted ++ (r ∷ rs)
    → judge rooms st.book r ≡ done
unfolding bookings booking settle
first_accepted rooms r rs st e = go (judge rooms st.book r) e
  where
    go : (a : Answer) → (bookings rooms (settle a st r) rs).accepted ≡ st.accepted ++ (r ∷ rs) → a ≡ done
    go done d = refl
    go (refused n) d = absurd (omega (arith, ap length d, accepted_most rooms rs st, length-append st.accepted (r ∷ rs)))
