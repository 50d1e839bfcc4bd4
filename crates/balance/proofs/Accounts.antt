-- The sums of copies in the calls' own words: of a book that accepted records give, what the call by key answers for each order adds up.
use mathlib.Core.Path.{◌≡◌, ◌∙◌, ap, ap₂, sym, refl}
use mathlib.Core.Bool.{Bool, true, false, ◌&&◌}
use mathlib.Core.Logic.{◌⊎◌, inl, inr}
use mathlib.Core.Option.{Option, none, some}
use mathlib.Core.List.{List, [], ◌∷◌, map}
use Prim.Native.Nat.{ℕ, ◌+◌, ◌≤◌}
use native.Mathlib.Omega.{arith}
use lib.ListN.{length, length-map}
use Rattle.cells.specs.Bytes.{pick, same, joined}
use Rattle.cells.proofs.Bools.{split, and_left, and_right}
use Rattle.cells.proofs.Lists.{same_true}
use Rattle.entry.specs.declared.line.Figures.{Figures}
use Rattle.ledger.specs.Lists.{keep, total, given}
use Rattle.ledger.specs.Book.{Line, Rooms, filled, let_go, still_open, extra}
use Rattle.ledger.specs.Booking.{Fit, line_at as line_with}
use Rattle.ledger.specs.History.{State, empty, bookings, key_of as keyIn, lines_of, part, records_of as fits_of, is_order as isOrdering, on_order, on_slip, has_slip}
use Rattle.ledger.proofs.Lists.{Each, each_more, total_map}
use Rattle.ledger.proofs.Members.{total_keep, each_kept, keep_each, total_each, keep_mapped, keep_nothing}
use Rattle.ledger.proofs.Histories.{alone}
use Rattle.ledger.proofs.Gives.{Gives}
use Rattle.ledger.proofs.Sums.{order_sum, slip_sum}
use Rattle.ledger.proofs.Slips.{slip_once}
use Rattle.ledger.proofs.Orders.{figure_at, orders_in, lines_by_orders}
use Rattle.book.specs.Booking.{no_figures, refused_as}
use Rattle.book.specs.Asked.{are_wide, line_asked}
use Rattle.book.specs.declared.answer.Told.{Told as Said}
use Rattle.balance.specs.Met.{Met}
use Rattle.balance.specs.Calls.{book_call}
use Rattle.balance.specs.Told.{told, fit_of}
use Rattle.balance.specs.Demand3.{is_order, is_delivery, copies_on, key_fields_in, slip_fields_in, same_fields, of_school, records_of, orders_of, deliveries_of, deliveries_with, figures_for, accounted, came, Given, give, give_all}
use Rattle.balance.specs.Joined.{figures_told, says_of}
use Rattle.balance.proofs.Soundness.{Kept}
use Rattle.balance.proofs.Accepted.{Refuses, Accepts, refused_or_accepted}
use Rattle.balance.proofs.Bookable.{Bookable, bookable, keyed, slip_widths, school_test, school_in_law, booked_as_law}
use Rattle.balance.proofs.Given.{give_refused, give_accepted}
use Rattle.balance.proofs.Figures.{asked_tells}
use Rattle.balance.proofs.Lines.{slips_total}

-- every accepted record is fit to book
one_bookable : (g : Given) (s : Met) → Each Bookable g.accepted → Each Bookable (give g s).accepted
one_bookable g s h = go (refused_or_accepted s g.book)
  where
    go : Refuses (book_call s g.book) g.book ⊎ Accepts s g.book → Each Bookable (give g s).accepted
    go (inl r) = rw (give_refused g s r) h
    go (inr a) = rw (give_accepted g s a) (each_more Bookable g.accepted s h (bookable s g.book a))

pub all_bookable : (ss : List Met) (g : Given) → Each Bookable g.accepted → Each Bookable (give_all g ss).accepted
unfolding give_all
all_bookable [] g h = h
all_bookable (s ∷ ss) g h = all_bookable ss (give g s) (one_bookable g s h)

-- a figure of a line that is found, or 0, as a call says it
figure_says : (f : Line → ℕ) (h : Figures → ℕ) → h no_figures ≡ 0 → ((l : Line) → h (figures_told l) ≡ f l) → (o : Option Line) → given 0 f o ≡ h (says_of o).figures
unfolding given says_of refused_as
figure_says f h z e none = sym z
figure_says f h z e (some l) = sym (e l)

-- the same fields are equal
pub equal_fields : (fs gs : List (List ℕ)) → same_fields fs gs ≡ true → fs ≡ gs
unfolding same_fields
equal_fields [] [] e = refl
equal_fields [] (g ∷ gs) e = absurd (let z : ◌≡◌ {A = ℕ} 0 1 = cc in omega arith)
equal_fields (f ∷ fs) [] e = absurd (let z : ◌≡◌ {A = ℕ} 0 1 = cc in omega arith)
equal_fields (f ∷ fs) (g ∷ gs) e =
    ap₂ (λ (x : List ℕ) (xs : List (List ℕ)). x ∷ xs) (same_true f g (and_left (same f g) (same_fields fs gs) e)) (equal_fields fs gs (and_right (same f g) (same_fields fs gs) e))

-- of a sound lent book whose told book these accepted records give
module _ (rooms : Rooms) (g : Given) (kept : Kept g.book) (gives : Gives rooms (map fit_of g.accepted) (told g.book)) (all : Each Bookable g.accepted) where
  abbrev fits : List Fit
  fits = map fit_of g.accepted

  -- the call by key with a record's own key tells of the line with the key that it was booked with
  asked_own : (s : Met) → Bookable s → line_asked (key_fields_in s) g.book ≡ says_of (line_with (keyIn (fit_of s)) (told g.book).lines)
  asked_own s b =
      let k = keyed s b in
      asked_tells (key_fields_in s) g.book ∙ rw (kept.is_sound, k.wide, k.key_is_law) refl

  -- a school's records, as they were booked
  own_booked : (school : List (List ℕ)) → fits_of (school_test school) fits ≡ map fit_of (records_of school g.accepted)
  unfolding fits_of records_of
  own_booked school =
      keep_mapped Bookable fit_of (λ (r : Fit). school_test school (keyIn r)) (λ (s : Met). of_school school (key_fields_in s))
      (λ s b. sym (school_in_law s b school)) g.accepted all

  pub own_bookable : (school : List (List ℕ)) → Each Bookable (records_of school g.accepted)
  unfolding records_of
  own_bookable school = each_kept Bookable (λ (s : Met). of_school school (key_fields_in s)) g.accepted all

  -- a figure summed over a school's lines is summed over its orders, as the call by key answers for each
  pub summed : (school : List (List ℕ)) (f : Line → ℕ) (h : Figures → ℕ) → h no_figures ≡ 0 → ((l : Line) → h (figures_told l) ≡ f l)
      → total f (lines_of (school_test school) (told g.book).lines) ≡ total (λ s. h (figures_for g.book s)) (orders_of school g.accepted)
  summed school f h z same-figure =
      let own : List Met = records_of school g.accepted in
      let lines : List Line = (told g.book).lines in
      let booked = ap orders_in (own_booked school) ∙ keep_mapped Bookable fit_of isOrdering is_order (λ s b. (booked_as_law s b).ordering) own (own_bookable school) in
      let by-orders : total f (lines_of (school_test school) lines) ≡ total (λ r. figure_at f lines (keyIn r)) (orders_in (fits_of (school_test school) fits)) =
      rw gives at (lines_by_orders (school_test school) rooms fits f) in
      by-orders
      ∙ ap (total (λ (r : Fit). figure_at f lines (keyIn r))) booked
      ∙ total_map (λ (r : Fit). figure_at f lines (keyIn r)) fit_of (keep is_order own)
      ∙ total_each Bookable (λ s. figure_at f lines (keyIn (fit_of s))) (λ s. h (figures_for g.book s)) (λ s b. figure_says f h z same-figure (line_with (keyIn (fit_of s)) lines) ∙ ap (λ (x : Said). h x.figures) (sym (asked_own s b))) (keep is_order own) (each_kept Bookable is_order own (own_bookable school))

  -- the copies on a school's orders, and on its deliveries, as they were booked
  orders_total : (school : List (List ℕ)) → total copies_on (orders_of school g.accepted) ≡ total on_order (fits_of (school_test school) fits)
  orders_total school =
      let own : List Met = records_of school g.accepted in
      total_keep copies_on is_order own
      ∙ total_each Bookable (λ s. pick (is_order s) (copies_on s) 0) (λ s. on_order (fit_of s)) (λ s b. sym (booked_as_law s b).on_order_law) own (own_bookable school)
      ∙ sym (total_map on_order fit_of own)
      ∙ ap (total on_order) (sym (own_booked school))

  deliveries_total : (school : List (List ℕ)) → total copies_on (deliveries_of school g.accepted) ≡ total on_slip (fits_of (school_test school) fits)
  deliveries_total school =
      sym (slips_total (records_of school g.accepted) (own_bookable school)) ∙ ap (total on_slip) (sym (own_booked school))

  pub orders_summed : (school : List (List ℕ))
      → total copies_on (orders_of school g.accepted) ≡ total (λ s. accounted (figures_for g.book s)) (orders_of school g.accepted)
  unfolding figures_told
  orders_summed school =
      let three : Line → ℕ = λ l. filled l + let_go l + still_open l in
      let sums : total on_order (fits_of (school_test school) fits) ≡ total three (lines_of (school_test school) (told g.book).lines) =
      rw gives at (order_sum (school_test school) rooms fits) in
      orders_total school ∙ sums ∙ summed school three accounted refl (λ l. refl)

  pub deliveries_summed : (school : List (List ℕ))
      → total copies_on (deliveries_of school g.accepted) ≡ total (λ s. came (figures_for g.book s)) (orders_of school g.accepted)
  unfolding figures_told
  deliveries_summed school =
      let two : Line → ℕ = λ l. filled l + extra l in
      let sums : total on_slip (fits_of (school_test school) fits) ≡ total two (lines_of (school_test school) (told g.book).lines) =
      rw gives at (slip_sum (school_test school) rooms fits) in
      deliveries_total school ∙ sums ∙ summed school two came refl (λ l. refl)

  -- each slip once
  pub once : (slip : List (List ℕ)) → length (deliveries_with slip g.accepted) ≤ 1
  once slip =
      let with : Met → Bool = λ s. is_delivery s && same_fields slip (slip_fields_in s) in
      split (are_wide slip_widths slip)
      (λ w.
      let mine = keep_mapped Bookable fit_of (has_slip (joined slip)) with (λ s b. sym (rw w at ((booked_as_law s b).slip_in_law slip))) g.accepted all in
      let one : length (keep (has_slip (joined slip)) fits) ≤ 1 = rw gives at (slip_once rooms fits (joined slip)) in
      let count : length (map fit_of (keep with g.accepted)) ≡ length (keep with g.accepted) = length-map (keep with g.accepted) fit_of in
      rw (← count) (rw mine at one))
      (λ w.
      let none-mine = keep_each Bookable with (λ s. false) (λ s b. rw w at ((booked_as_law s b).slip_in_law slip)) g.accepted all ∙ keep_nothing g.accepted in
      rw none-mine (omega arith))

  -- a school's records alone are all accepted on lists
  pub alone_booked : (school : List (List ℕ))
      → (bookings rooms empty (map fit_of (records_of school g.accepted))).accepted ≡ map fit_of (records_of school g.accepted)
  alone_booked school =
      let e : bookings rooms empty (fits_of (school_test school) fits) ≡ record { book = part (school_test school) (told g.book); accepted = fits_of (school_test school) fits } =
      rw gives at (alone (school_test school) rooms fits) in
      ap (λ (st : State). st.accepted) (rw (own_booked school) at e)
