-- What holds in the calls' own words, for any rooms and any byte strings; and the school alone.
use mathlib.Core.Path.{◌≡◌, ◌∙◌, ap, sym, refl}
use mathlib.Core.Bool.{Bool, true, false}
use mathlib.Core.Logic.{◌⊎◌, inl, inr}
use mathlib.Core.List.{List, [], ◌∷◌, ◌++◌, map, map-append, append_assoc, append-nil}
use Prim.Native.Nat.{ℕ}
use native.Mathlib.Omega.{arith}
use lib.ListN.{length}
use Rattle.cells.specs.Bytes.{pick}
use Rattle.cells.specs.Search.{all_from}
use Rattle.cells.proofs.Bools.{split}
use Rattle.ledger.specs.Lists.{keep, total}
use Rattle.ledger.specs.Book.{Rooms}
use Rattle.ledger.specs.Booking.{done, judge}
use Rattle.ledger.specs.History.{State, settle, booking, bookings}
use Rattle.ledger.proofs.Lists.{Each}
use Rattle.ledger.proofs.Members.{keep_within}
use Rattle.ledger.proofs.Gives.{first_accepted}
use Rattle.book.specs.Lent.{used_lines, used_slips, line_room, slip_room, sound, rooms_sound}
use Rattle.book.specs.Booking.{refused_as}
use Rattle.book.specs.Asked.{line_asked}
use Rattle.book.specs.declared.answer.Refused.TheVariants.{Unsound}
use Rattle.balance.specs.Met.{Met}
use Rattle.balance.specs.Calls.{book_call}
use Rattle.balance.specs.Told.{told, rooms_of, fit_of}
use Rattle.balance.specs.Demand3.{key_fields_in, same_fields, of_school, records_of, records_with, line_from, Given, fresh, give, give_all, Accounts, Demand3}
use Rattle.balance.specs.Joined.{state_told}
use Rattle.balance.proofs.Soundness.{Kept}
use Rattle.balance.proofs.Accepted.{Refuses, Accepts, refused_or_accepted}
use Rattle.balance.proofs.Bookable.{Bookable}
use Rattle.balance.proofs.Given.{unsound_given, fresh_told, give_accepted}
use Rattle.balance.proofs.Exactly.{accepted_exactly}
use Rattle.balance.proofs.Figures.{asked_tells}
use Rattle.balance.proofs.Followed.{follows}
use Rattle.balance.proofs.Lines.{answers}
use Rattle.balance.proofs.Numbers.{numbers_agree}
use Rattle.balance.proofs.Ceilings.{ceiling_kept}
use Rattle.balance.proofs.Stands.{stands}
use Rattle.balance.proofs.Accounts.{equal_fields, own_bookable, orders_summed, deliveries_summed, once, alone_booked}

-- the given state after a record that was accepted
abbrev after : Given → Met → Given
after g s = record { book = (book_call s g.book).lent; accepted = g.accepted ++ (s ∷ []) }

-- what it tells is the told state after that record
after_told : (rooms : Rooms) (g : Given) (s : Met) → Kept g.book → Accepts s g.book → judge rooms (told g.book) (fit_of s) ≡ done
    → booking rooms (state_told g) (fit_of s) ≡ state_told (after g s)
unfolding booking settle
after_told rooms g s kept a e =
    rw e (λ i. record { book = sym (follows s g.book kept a).tells i; accepted = sym (map-append fit_of g.accepted (s ∷ [])) i })

-- records that the told book accepts one after the other answer 0 one after the other
abbrev AllAccepted : Rooms → List Met → Given → Type 0
AllAccepted rooms ss g = (bookings rooms (state_told g) (map fit_of ss)).accepted ≡ map fit_of g.accepted ++ map fit_of ss

rest_accepted : (rooms : Rooms) (s : Met) (ss : List Met) (g : Given) → Kept g.book → Accepts s g.book → AllAccepted rooms (s ∷ ss) g
    → AllAccepted rooms ss (after g s)
unfolding bookings
rest_accepted rooms s ss g kept a e =
    let passes = first_accepted rooms (fit_of s) (map fit_of ss) (state_told g) e in
    rw (← after_told rooms g s kept a passes, map-append fit_of g.accepted (s ∷ []), append_assoc (map fit_of g.accepted) (fit_of s ∷ []) (map fit_of ss)) e

pub all_answered : (rooms : Rooms) (ss : List Met) (g : Given) → Kept g.book → rooms_of g.book ≡ rooms → Each Bookable ss → AllAccepted rooms ss g
    → (give_all g ss).accepted ≡ g.accepted ++ ss
unfolding give_all
all_answered rooms [] g kept lent h e = sym (append-nil g.accepted)
all_answered rooms (s ∷ ss) g kept lent h e = go (refused_or_accepted s g.book) (all_answered rooms ss)
  where
    answered : (book_call s g.book).said.answer ≡ 0
    answered =
        let b = h.0 in
        numbers_agree s g.book b.fields b.kind b.ceiling b.is_roster kept.is_sound b.read b.known b.something b.copies b.referenced b.is_on_roster
        ∙ rw (lent, first_accepted rooms (fit_of s) (map fit_of ss) (state_told g) e) refl

    go : Refuses (book_call s g.book) g.book ⊎ Accepts s g.book
        → ((n : Given) → Kept n.book → rooms_of n.book ≡ rooms → Each Bookable ss → AllAccepted rooms ss n → (give_all n ss).accepted ≡ n.accepted ++ ss)
        → (give_all (give g s) ss).accepted ≡ g.accepted ++ (s ∷ ss)
    go (inl r) rest = absurd (r.answer answered)
    go (inr a) rest =
        let f = follows s g.book kept a in
        rw (give_accepted g s a)
        (rest (after g s) f.kept (f.rooms ∙ lent) h.1 (rest_accepted rooms s ss g kept a e) ∙ append_assoc g.accepted (s ∷ []) ss)

-- rooms of the same sizes with nothing used are as sound, and have as much room
fresh_sound : (lines slips lines' slips' : List ℕ) → length lines' ≡ length lines → length slips' ≡ length slips
    → sound (fresh lines' slips').book ≡ sound (fresh lines slips).book
unfolding sound rooms_sound used_lines used_slips line_room slip_room all_from
fresh_sound lines slips lines' slips' l s = rw (l, s) refl

fresh_rooms : (lines slips lines' slips' : List ℕ) → length lines' ≡ length lines → length slips' ≡ length slips
    → rooms_of (fresh lines' slips').book ≡ rooms_of (fresh lines slips).book
unfolding rooms_of line_room slip_room
fresh_rooms lines slips lines' slips' l s = rw (l, s) refl

-- each key's answer, in rooms of any size
every_answer : (lines slips : List ℕ) (records : List Met) (fields : List (List ℕ))
    → line_asked fields (give_all (fresh lines slips) records).book
    ≡ pick (sound (fresh lines slips).book) (line_from (records_with fields (give_all (fresh lines slips) records).accepted)) (refused_as Unsound)
every_answer lines slips records fields =
    let g : Given = fresh lines slips in
    split (sound g.book)
    (λ e.
    let end = stands lines slips records e in
    rw e (answers (rooms_of g.book) (give_all g records) end.kept end.gives end.fit_to_book fields))
    (λ e. rw (unsound_given records g e) (asked_tells fields g.book ∙ rw e refl))

-- of records given to rooms
module _ (lines slips : List ℕ) (records : List Met) where
  abbrev end : Given
  end = give_all (fresh lines slips) records

  -- a school's accepted records alone, given to rooms of the same sizes, are all accepted
  alone_accepted : (school : List (List ℕ)) (lines' slips' : List ℕ) → length lines' ≡ length lines → length slips' ≡ length slips
      → (give_all (fresh lines' slips') (records_of school end.accepted)).accepted ≡ records_of school end.accepted
  unfolding bookings
  alone_accepted school lines' slips' l s =
      let g : Given = fresh lines slips in
      let rooms : Rooms = rooms_of g.book in
      split (sound g.book)
      (λ e.
      let h = stands lines slips records e in
      let own : List Met = records_of school end.accepted in
      let kept : Kept (fresh lines' slips').book = record { is_sound = fresh_sound lines slips lines' slips' l s ∙ e; counts = refl } in
      all_answered rooms own (fresh lines' slips') kept (fresh_rooms lines slips lines' slips' l s)
      (own_bookable rooms end h.kept h.gives h.fit_to_book school)
      (ap (λ (st : State). (bookings rooms st (map fit_of own)).accepted) (sym (fresh_told rooms lines' slips')) ∙ alone_booked rooms end h.kept h.gives h.fit_to_book school))
      (λ e. rw (unsound_given records g e) (unfold records_of in unfold keep in unfold give_all in refl))

  -- and for each key of the school the call by key answers the same
  alone_answers : (school : List (List ℕ)) (lines' slips' : List ℕ) → length lines' ≡ length lines → length slips' ≡ length slips
      → (fields : List (List ℕ)) → of_school school fields ≡ true
      → line_asked fields (give_all (fresh lines' slips') (records_of school end.accepted)).book ≡ line_asked fields end.book
  unfolding records_with records_of
  alone_answers school lines' slips' l s fields own =
      let mine : Met → Bool = λ r. same_fields fields (key_fields_in r) in
      let theirs : Met → Bool = λ r. of_school school (key_fields_in r) in
      let inside = keep_within mine theirs (λ r e. let d = equal_fields fields (key_fields_in r) e in rw (← d) own) end.accepted in
      every_answer lines' slips' (records_of school end.accepted) fields
      ∙ rw (alone_accepted school lines' slips' l s, fresh_sound lines slips lines' slips' l s, inside) (sym (every_answer lines slips records fields))

  -- the accounts of sound rooms
  sound_accounts : sound (fresh lines slips).book ≡ true → Accounts lines slips end
  sound_accounts e =
      let rooms : Rooms = rooms_of (fresh lines slips).book in
      let h = stands lines slips records e in
      record {
        orders = orders_summed rooms end h.kept h.gives h.fit_to_book;
        deliveries = deliveries_summed rooms end h.kept h.gives h.fit_to_book;
        slip_once = once rooms end h.kept h.gives h.fit_to_book;
        every_line = every_answer lines slips records;
        alone_accepted = alone_accepted;
        alone_answers = alone_answers;
      }

  -- into rooms of wrong size nothing is booked
  unsound_accounts : sound (fresh lines slips).book ≡ false → Accounts lines slips end
  unfolding records_of keep total
  unsound_accounts e =
      let nothing : end.accepted ≡ [] = ap (λ (g : Given). g.accepted) (unsound_given records (fresh lines slips) e) in
      record {
        orders = λ school. rw nothing refl;
        deliveries = λ school. rw nothing refl;
        slip_once = λ slip. rw nothing (omega arith);
        every_line = every_answer lines slips records;
        alone_accepted = alone_accepted;
        alone_answers = alone_answers;
      }

pub demand3 : Demand3
demand3 =
    record {
      accepted_exactly = accepted_exactly;
      ceiling_kept = ceiling_kept;
      accounts = λ lines slips records. split (sound (fresh lines slips).book) (sound_accounts lines slips records) (unsound_accounts lines slips records);
    }
