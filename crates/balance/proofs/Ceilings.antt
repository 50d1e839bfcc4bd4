-- After an accepted order its school's open copies are at most its ceiling on the roster that the order met.
use mathlib.Core.Path.{◌≡◌, ◌∙◌, ap, sym, refl}
use mathlib.Core.Bool.{true, false≢true}
use mathlib.Core.List.{List, [], ◌∷◌, ◌++◌}
use Prim.Native.Nat.{ℕ, ◌≤◌}
use lib.ListN.{take}
use Rattle.cells.specs.Bytes.{joined}
use Rattle.roster.specs.Roster.{standing}
use Rattle.std.specs.Prelude.{Some}
use Rattle.record.specs.Layout.{kind_of}
use Rattle.record.specs.declared.layout.Kind.{Kind}
use Rattle.record.specs.declared.layout.Kind.TheVariants.{Order, Goods, Closing, Report}
use Rattle.entry.specs.declared.line.Figures.{Figures}
use Rattle.ledger.specs.Lists.{total}
use Rattle.ledger.specs.Book.{school_of as school_in, Rooms, still_open}
use Rattle.ledger.specs.Booking.{done, open_of, judge, enter}
use Rattle.ledger.specs.History.{key_of as keyIn, lines_of}
use Rattle.ledger.proofs.Ceilings.{ceiling_kept as kept-on-lists}
use Rattle.book.specs.Lent.{Lent, sound}
use Rattle.book.specs.Booking.{key_fields, school_in as school_at}
use Rattle.book.specs.Asked.{are_wide}
use Rattle.balance.specs.Met.{Met}
use Rattle.balance.specs.Calls.{book_call}
use Rattle.balance.specs.Told.{told, rooms_of, ceiling_in, fit_as, fit_kind, fit_of}
use Rattle.balance.specs.Accepted.{OnRoster}
use Rattle.balance.specs.Demand3.{is_order, key_fields_in, Given, fresh, give, give_all, school_of, open_for, CeilingKept}
use Rattle.balance.specs.Joined.{figures_told, CeilingHeld}
use Rattle.balance.proofs.Soundness.{Kept}
use Rattle.balance.proofs.Accepted.{Accepts, accepted}
use Rattle.balance.proofs.Keys.{school_widths, school_front}
use Rattle.balance.proofs.Bookable.{school_test, bookable, keyed}
use Rattle.balance.proofs.Followed.{follows}
use Rattle.balance.proofs.Opens.{open_told}
use Rattle.balance.proofs.Exactly.{on_roster_is}
use Rattle.balance.proofs.Given.{sound_start, given_more}
use Rattle.balance.proofs.Stands.{stands}
use Rattle.balance.proofs.Accounts.{summed}

-- the school's fields of an accepted record have their lengths, and head the key that it is booked with
module _ (s : Met) (b : Lent) (a : Accepts s b) where
  school_wide : are_wide school_widths (school_of s) ≡ true
  school_wide = (school_front (key_fields_in s) (keyed s (bookable s b a)).wide).0

  school_key : joined (school_of s) ≡ school_in (keyIn (fit_of s))
  unfolding school_in
  school_key =
      (school_front (key_fields_in s) (keyed s (bookable s b a)).wide).1 ∙ ap (take 12) (keyed s (bookable s b a)).key_is_law

-- on lists: an order that the told book accepts, whose school has a ceiling
on_lists : (rooms : Rooms) (s : Met) (b : Lent) (ceiling : ℕ) → is_order s ≡ true → (k : Kind) → kind_of s.given ≡ Some k
    → standing s.roster (joined (school_of s)) ≡ Some ceiling → judge rooms (told b) (fit_of s) ≡ done
    → open_of (school_in (keyIn (fit_of s))) (enter (told b) (fit_of s)).lines ≤ ceiling
unfolding is_order key_fields_in fit_of fit_kind fit_as keyIn key_fields
on_lists rooms s b ceiling o Order e t d =
    let c : ceiling_in (standing s.roster (school_at Order s.given)) ≡ ceiling = unfold school_at in unfold ceiling_in in rw (rw e at t) refl in
    rw (e, c) (kept-on-lists rooms (told b) _ _ ceiling (rw (e, c) at d))
on_lists rooms s b ceiling o Goods e t d = absurd (false≢true (rw e at o))
on_lists rooms s b ceiling o Closing e t d = absurd (false≢true (rw e at o))
on_lists rooms s b ceiling o Report e t d = absurd (false≢true (rw e at o))

-- so in the book that the bytes tell afterwards
told_below : (s : Met) (b : Lent) (ceiling : ℕ) → Kept b → is_order s ≡ true → (a : Accepts s b) → OnRoster s.roster (joined (school_of s)) ceiling
    → open_of (joined (school_of s)) (told (book_call s b).lent).lines ≤ ceiling
told_below s b ceiling kept o a r =
    let f = follows s b kept a in
    rw (f.tells, school_key s b a)
    (on_lists (rooms_of b) s b ceiling o a.kind a.known (on_roster_is s.roster (joined (school_of s)) ceiling r) f.allowed)

-- of any lent book
pub ceiling_held : CeilingHeld
ceiling_held s b ceiling two o e r =
    let a = accepted s b e in
    rw (open_told (book_call s b).lent (joined (school_of s)))
    (told_below s b ceiling (record { is_sound = a.is_sound; counts = two }) o a r)

-- the open copies of a school, as the call by key answers for its orders, are those of its lines in the told book
module _ (lines slips : List ℕ) (records : List Met) (sound-rooms : sound (fresh lines slips).book ≡ true) where
  abbrev end : Given
  end = give_all (fresh lines slips) records

  open_for_law : (school : List (List ℕ)) → are_wide school_widths school ≡ true → open_for school end ≡ open_of (joined school) (told end.book).lines
  unfolding open_of lines_of figures_told
  open_for_law school w =
      let h = stands lines slips records sound-rooms in
      let open_figure : Figures → ℕ = λ f. f.still_open.0 in
      let lines_are : total still_open (lines_of (school_test school) (told end.book).lines) ≡ open_of (joined school) (told end.book).lines = rw w refl in
      sym (summed (rooms_of (fresh lines slips).book) end h.kept h.gives h.fit_to_book school still_open open_figure refl (λ l. refl)) ∙ lines_are

-- and of the books that records make, in the calls' own words
pub ceiling_kept : CeilingKept
ceiling_kept lines slips records s ceiling o e r =
    let g : Given = give_all (fresh lines slips) records in
    let a = accepted s g.book e in
    let h = sound_start records (fresh lines slips) s a in
    let more = given_more records s (fresh lines slips) in
    let opens : open_for (school_of s) (give g s) ≡ open_of (joined (school_of s)) (told (give g s).book).lines =
    rw more at (open_for_law lines slips (records ++ (s ∷ [])) h (school_of s) (school_wide s g.book a)) in
    rw opens (unfold give in told_below s g.book ceiling (stands lines slips records h).kept o a r)
