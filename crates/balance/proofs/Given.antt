-- Records given one after the other to the booking call: the told book is what the accepted ones give, and keeps the promises on lists.
use mathlib.Core.Path.{◌≡◌, ◌∙◌, ap, subst, sym, refl}
use mathlib.Core.Bool.{true, false, false≢true}
use mathlib.Core.Logic.{◌⊎◌, inl, inr}
use mathlib.Core.List.{List, [], ◌∷◌, ◌++◌, map, map-append, append_assoc}
use Prim.Native.Nat.{ℕ}
use borrow.Author.Tests.{eq-eqb, ne_eqb}
use Rattle.cells.proofs.Bools.{split}
use Rattle.ledger.specs.Book.{Rooms}
use Rattle.ledger.specs.Booking.{Fit, done, judge}
use Rattle.ledger.specs.History.{empty, bookings}
use Rattle.ledger.specs.Demand3.{Promise3}
use Rattle.ledger.proofs.Gives.{Gives, gives_more}
use Rattle.ledger.proofs.Demand3.{promise3}
use Rattle.book.specs.Lent.{used_lines, used_slips, sound}
use Rattle.balance.specs.Met.{Met}
use Rattle.balance.specs.Calls.{book_call}
use Rattle.balance.specs.Told.{listed, told, rooms_of, fit_of}
use Rattle.balance.specs.Demand3.{Given, fresh, give, give_all}
use Rattle.balance.specs.Joined.{state_told, ToldDemand3}
use Rattle.balance.proofs.Soundness.{Kept}
use Rattle.balance.proofs.Accepted.{Refuses, Accepts, refused_or_accepted}
use Rattle.balance.proofs.Followed.{follows}

-- what the bytes tell is what these earlier records, and then the accepted records, alone come to in a book of these rooms
pub record Booked (rooms : Rooms) (earlier : List Fit) (g : Given) : Type 0 where
  pub kept : Kept g.book
  pub lent : rooms_of g.book ≡ rooms
  pub tells : Gives rooms (earlier ++ map fit_of g.accepted) (told g.book)

-- a record that is refused changes nothing
pub give_refused : (g : Given) (s : Met) → Refuses (book_call s g.book) g.book → give g s ≡ g
unfolding give
give_refused g s r = rw (ne_eqb (book_call s g.book).said.answer 0 r.answer, r.lent)

-- a record that answers 0 is one more accepted
pub give_accepted : (g : Given) (s : Met) → Accepts s g.book → give g s ≡ record { book = (book_call s g.book).lent; accepted = g.accepted ++ (s ∷ []) }
unfolding give
give_accepted g s a = rw (eq-eqb (book_call s g.book).said.answer 0 a.answer)

module _ (rooms : Rooms) (earlier : List Fit) where
  -- the told book books it too
  one_accepted : (g : Given) (s : Met) → Booked rooms earlier g → Accepts s g.book
      → Booked rooms earlier (record { book = (book_call s g.book).lent; accepted = g.accepted ++ (s ∷ []) })
  one_accepted g s h a =
      let f = follows s g.book h.kept a in
      let rs : List Fit = map fit_of g.accepted in
      let allowed : judge rooms (told g.book) (fit_of s) ≡ done = rw h.lent at f.allowed in
      record {
        kept = f.kept;
        lent = f.rooms ∙ h.lent;
        tells =
            gives_more rooms (earlier ++ rs) (earlier ++ map fit_of (g.accepted ++ (s ∷ []))) (told g.book) (told (book_call s g.book).lent) (fit_of s) h.tells allowed
            (rw (map-append fit_of g.accepted (s ∷ [])) (append_assoc earlier rs (fit_of s ∷ []))) (sym f.tells);
      }

  -- one record given keeps it so
  one_given : (g : Given) (s : Met) → Booked rooms earlier g → Booked rooms earlier (give g s)
  one_given g s h = go (refused_or_accepted s g.book)
    where
      go : Refuses (book_call s g.book) g.book ⊎ Accepts s g.book → Booked rooms earlier (give g s)
      go (inl r) = subst (Booked rooms earlier) (sym (give_refused g s r)) h
      go (inr a) = subst (Booked rooms earlier) (sym (give_accepted g s a)) (one_accepted g s h a)

  -- so do any records
  pub all_given : (rs : List Met) (g : Given) → Booked rooms earlier g → Booked rooms earlier (give_all g rs)
  unfolding give_all
  all_given [] g h = h
  all_given (r ∷ rs) g h = all_given rs (give g r) (one_given g r h)

-- into an unsound book nothing is booked
pub unsound_given : (rs : List Met) (g : Given) → sound g.book ≡ false → give_all g rs ≡ g
unfolding give_all
unsound_given [] g e = refl
unsound_given (r ∷ rs) g e = ap (λ (h : Given). give_all h rs) (go (refused_or_accepted r g.book)) ∙ unsound_given rs g e
  where
    go : Refuses (book_call r g.book) g.book ⊎ Accepts r g.book → give g r ≡ g
    go (inl h) = give_refused g r h
    go (inr a) = absurd (false≢true (sym e ∙ a.is_sound))

-- so a record that is accepted came into rooms of right size
pub sound_start : (rs : List Met) (g : Given) (s : Met) → Accepts s (give_all g rs).book → sound g.book ≡ true
sound_start rs g s a =
    split (sound g.book) (λ e. e) (λ e. let same_book = unsound_given rs g e in absurd (false≢true (sym e ∙ (rw same_book at a.is_sound))))

-- one more record given
pub given_more : (rs : List Met) (s : Met) (g : Given) → give_all g (rs ++ (s ∷ [])) ≡ give (give_all g rs) s
unfolding give_all
given_more [] s g = refl
given_more (r ∷ rs) s g = given_more rs s (give g r)

-- a book with no used entries tells what no records come to
pub fresh_told : (rooms : Rooms) (lines slips : List ℕ) → bookings rooms empty [] ≡ state_told (fresh lines slips)
unfolding bookings told used_lines used_slips listed
fresh_told rooms lines slips = refl

-- the promises of the told book
pub told_demand3 : ToldDemand3
told_demand3 lines slips records =
    let g : Given = fresh lines slips in
    let rooms : Rooms = rooms_of g.book in
    split (sound g.book)
    (λ e.
    let start : Booked rooms [] g = record { kept = record { is_sound = e; counts = refl }; lent = refl; tells = fresh_told rooms lines slips } in
    subst (Promise3 rooms) (all_given rooms [] records g start).tells (promise3 rooms (map fit_of (give_all g records).accepted)))
    (λ e. rw (unsound_given records g e) (subst (Promise3 rooms) (fresh_told rooms lines slips) (promise3 rooms [])))
