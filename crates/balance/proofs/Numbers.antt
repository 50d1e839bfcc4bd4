-- Of a record that has something to book, the bytes and the rule on lists give one answer number.
use mathlib.Core.Path.{◌≡◌, ◌∙◌, ap, sym, refl}
use mathlib.Core.Bool.{true, false, not, ◌&&◌}
use mathlib.Core.List.{List}
use Prim.Native.Nat.{ℕ, ◌+◌, ◌≤◌}
use native.Mathlib.Omega.{arith}
use lib.Dec.{leb, ltb, eqb}
use lib.ListN.{length}
use borrow.Author.Tests.{ltb-true, ltb-false, leb-true, leb-false, lt-leb, le-leb, lt-ltb, le-ltb, eqb-true, eqb-false, eq-eqb, ne_eqb}
use Rattle.cells.specs.Bytes.{same}
use Rattle.cells.proofs.Bools.{split}
use Rattle.rules.specs.Values.{copies}
use Rattle.roster.specs.Roster.{roster_sound, standing}
use Rattle.std.specs.Prelude.{Err, None, Ok, Option, Some}
use Rattle.record.specs.Layout.{fixed_width, kind_of}
use Rattle.record.specs.Read.{judged}
use Rattle.record.specs.declared.layout.Kind.{Kind}
use Rattle.record.specs.declared.layout.Kind.TheVariants.{Order, Goods, Closing, Report}
use Rattle.reader.proofs.Fitting.{fitting}
use Rattle.entry.specs.Stored.{most_arrived, line_at, key_at, key_is, slip_line_at, slip_copies_at}
use Rattle.ledger.specs.Lists.{given, found}
use Rattle.ledger.specs.Book.{Key, school_of, Order as Ordering, Goods as Arrival, Report as Telling}
use Rattle.ledger.specs.Booking.{order, goods, report, is_same, first_of, tests, judge, most_arrived as limit, number_of}
use Rattle.book.specs.Lent.{Lent, used_lines, used_slips, line_room, slip_room, sound, find_line, find_slip, open_copies}
use Rattle.book.specs.Booking.{refused_number, line_key, article_in, slip_key, school_in, copies_in, nothing_to_book, no_copies, no_reference, new_line_judged, order_judged, slip_judged, arrival_judged, goods_judged, delivery_judged, report_judged, book_judged, on_roster, fit_judged, refused_as, done_as, entered_as, settled, book_as, book_kind, book_read, book}
use Rattle.book.specs.Verdicts.{Verdict}
use Rattle.balance.specs.Met.{Met}
use Rattle.balance.specs.Calls.{book_call}
use Rattle.balance.specs.Told.{slip_told, line_told, told, rooms_of, ceiling_in, fit_as, fit_kind, fit_of}
use Rattle.balance.specs.Joined.{NumbersAgree}
use Rattle.balance.proofs.Keys.{school_heads}
use Rattle.balance.proofs.Followed.{said_in}
use Rattle.balance.proofs.Opens.{open_told}
use Rattle.balance.proofs.Found.{same_turned, no_line, line_found, no_slip, slip_found, lines_told, slips_told}

-- the answer number of a verdict
unfoldable pub verdict_number : Verdict → ℕ
verdict_number (Err r) = refused_number r
verdict_number (Ok i) = 0

-- it is what a record answers that the book has judged
pub settled_number : (k : Kind) (s : List ℕ) (b : Lent) (v : Verdict) → (settled k s b v).said.answer ≡ verdict_number v
unfolding settled entered_as done_as refused_as verdict_number
settled_number k s b (Err r) = refl
settled_number k s b (Ok i) = refl

-- numbers are compared either way round
equal_turned : (a b : ℕ) → eqb a b ≡ eqb b a
equal_turned a b =
    split (eqb a b)
    (λ e. let d = eqb-true a b e in e ∙ sym (eq-eqb b a (sym d)))
    (λ e. e ∙ sym (ne_eqb b a (λ d. eqb-false a b e (sym d))))

-- room is left, or is not
room_turned : (a b : ℕ) → ltb a b ≡ not (leb b a)
room_turned a b =
    split (ltb a b)
    (λ e. e ∙ sym (ap not (lt-leb b a (ltb-true a b e))))
    (λ e. e ∙ sym (ap not (le-leb b a (ltb-false a b e))))

-- a limit is kept, or passed
limit_turned : (a b : ℕ) → leb a b ≡ not (ltb b a)
limit_turned a b =
    split (leb a b)
    (λ e. e ∙ sym (ap not (le-ltb b a (leb-true a b e))))
    (λ e. e ∙ sym (ap not (lt-ltb b a (leb-false a b e))))

module _ (b : Lent) (key : Key) where
  -- an order
  order_number : (o : Ordering) (ceiling : ℕ) (f : Option ℕ) → find_line b key ≡ f
      → verdict_number (order_judged b (school_of key) (copies o.copies) ceiling f) ≡ number_of (judge (rooms_of b) (told b) (order key o ceiling))
  unfolding order_judged new_line_judged verdict_number refused_number judge tests first_of found rooms_of
  order_number o ceiling (Some i) e = rw (line_found b key i e) refl
  order_number o ceiling None e =
      let n : ℕ = open_copies b (school_of key) + o.copies in
      rw (no_line b key e, ← open_told b (school_of key), lines_told b, limit_turned n ceiling, room_turned (used_lines b) (line_room b))
      (split (ltb ceiling n) (λ t. rw t refl)
      (λ t. rw t (split (leb (line_room b) (used_lines b)) (λ h. rw h refl) (λ h. rw h refl))))

  -- a delivery whose slip key is booked
  slip_number_law : (g : Arrival) (j : ℕ) → find_slip b g.slip ≡ Some j → verdict_number (slip_judged b key (copies g.copies) j) ≡ number_of (judge (rooms_of b) (told b) (goods key g))
  unfolding slip_judged verdict_number refused_number judge tests first_of given found is_same slip_told key_is
  slip_number_law g j e =
      rw (slip_found b g.slip j e, same_turned key (key_at b.lines (slip_line_at b.slips j)), equal_turned g.copies (slip_copies_at b.slips j).0)
      (split (same (key_at b.lines (slip_line_at b.slips j)) key && eqb (slip_copies_at b.slips j).0 g.copies) (λ h. rw h refl) (λ h. rw h refl))

  -- a delivery whose slip key is new
  goods_number : (g : Arrival) (f : Option ℕ) → find_slip b g.slip ≡ None → find_line b key ≡ f
      → verdict_number (goods_judged b (copies g.copies) f) ≡ number_of (judge (rooms_of b) (told b) (goods key g))
  unfolding goods_judged arrival_judged verdict_number refused_number judge tests first_of given found rooms_of limit line_told
  goods_number g None e h = rw (no_slip b g.slip e, no_line b key h) refl
  goods_number g (Some i) e h =
      let n : ℕ = (line_at b.lines i).arrived.0 + g.copies in
      rw (no_slip b g.slip e, line_found b key i h, slips_told b, limit_turned n most_arrived, room_turned (used_slips b) (slip_room b))
      (split (ltb most_arrived n) (λ t. rw t refl)
      (λ t. rw t (split (leb (slip_room b) (used_slips b)) (λ u. rw u refl) (λ u. rw u refl))))

  delivery_number : (g : Arrival) (f : Option ℕ) → find_slip b g.slip ≡ f
      → verdict_number (delivery_judged b key (copies g.copies) f) ≡ number_of (judge (rooms_of b) (told b) (goods key g))
  unfolding delivery_judged
  delivery_number g (Some j) e = slip_number_law g j e
  delivery_number g None e = goods_number g (find_line b key) e refl

  -- a report
  report_number : (m : Telling) (f : Option ℕ) → find_line b key ≡ f → verdict_number (report_judged f) ≡ number_of (judge (rooms_of b) (told b) (report key m))
  unfolding report_judged verdict_number refused_number judge tests first_of found
  report_number m (Some i) e = rw (line_found b key i e) refl
  report_number m None e = rw (no_line b key e) refl

-- a record of a kind with something to book, whose school is on the roster
kind_number : (s roster : List ℕ) (b : Lent) (k : Kind) (ceiling : ℕ) → fixed_width k ≤ length s → nothing_to_book k s ≡ false → standing roster (school_in k s) ≡ Some ceiling
    → verdict_number (book_judged k s ceiling b) ≡ number_of (judge (rooms_of b) (told b) (fit_as k s roster))
unfolding book_judged fit_as ceiling_in nothing_to_book
kind_number s roster b Order ceiling w h t =
    rw (t, school_heads s w) (order_number b (line_key Order s) (record { copies = (copies_in Order s).0; article = article_in Order s }) ceiling (find_line b (line_key Order s)) refl)
kind_number s roster b Goods ceiling w h t =
    delivery_number b (line_key Goods s) (record { slip = slip_key s; copies = (copies_in Goods s).0 }) (find_slip b (slip_key s)) refl
kind_number s roster b Closing ceiling w h t = absurd (let z : ◌≡◌ {A = ℕ} 0 1 = cc in omega arith)
kind_number s roster b Report ceiling w h t = report_number b (line_key Report s) (said_in s) (find_line b (line_key Report s)) refl

-- what a sound book answers a record that is read and has something to book, copies, a reference, and a school on the roster
pub fit_answer : (s : Met) (b : Lent) (n : ℕ) (k : Kind) (ceiling : ℕ) → roster_sound s.roster ≡ true → sound b ≡ true → judged s.given ≡ Ok n → kind_of s.given ≡ Some k
    → nothing_to_book k s.given ≡ false → no_copies k s.given ≡ false → no_reference k s.given ≡ false → standing s.roster (school_in k s.given) ≡ Some ceiling
    → (book_call s b).said.answer ≡ verdict_number (book_judged k s.given ceiling b)
unfolding book book_read book_kind book_as fit_judged on_roster
fit_answer s b n k ceiling o h r g t c f d = rw (o, h, r, g, t, c, f, d) (settled_number k s.given b (book_judged k s.given ceiling b))

-- the numbers agree
pub numbers_agree : NumbersAgree
unfolding fit_of fit_kind
numbers_agree s b n k ceiling o h r g t c f d =
    let wide = (fitting k s.given n g r).wide in
    fit_answer s b n k ceiling o h r g t c f d ∙ rw g (kind_number s.given s.roster b k ceiling (omega arith) t d)
