-- The history that the entries of a book state, booked from empty, is all accepted, and gives the book.
use mathlib.Core.Path.{◌≡◌, ◌∙◌, ap, subst, sym, refl}
use mathlib.Core.Bool.{Bool, false}
use mathlib.Core.Logic.{◌≢◌}
use mathlib.Core.Option.{Option, none, some}
use mathlib.Core.List.{List, [], ◌∷◌, ◌++◌, append-nil, append_assoc}
use Prim.Native.Nat.{ℕ, zero, suc, ◌+◌, ◌*◌, ◌≤◌, ◌<◌}
use native.Mathlib.Nat.{zero-add}
use native.Mathlib.Omega.{arith}
use borrow.Author.Tests.{eqb-true, eqb-false, eq-eqb, ne_eqb, ltb-true, ltb-false, lt-ltb, le-ltb, lt-leb}
use lib.Dec.{eqb, ltb}
use Rattle.cells.specs.Bytes.{pick, same}
use Rattle.cells.specs.Search.{first_from, sum_from}
use Rattle.cells.proofs.Bools.{split}
use Rattle.cells.proofs.Searches.{none_is, first_is, sum_more, sum_less}
use Rattle.cells.proofs.Lists.{same_refl}
use Rattle.roster.specs.Roster.{highest_ceiling}
use Rattle.entry.specs.Stored.{most_copies}
use Rattle.book.specs.Lent.{most_lines}
use Rattle.ledger.specs.Lists.{keep, total, given, found}
use Rattle.ledger.specs.Book.{Key, school_of, of_school, Report, Line, Slip, Book, Rooms, ordered, is_n, still_open}
use Rattle.ledger.specs.Booking.{Fit, order, goods, report, line_at, slip_at, done, first_of, most_arrived, open_of, tests, judge, arrive, tell, change_line, enter}
use Rattle.ledger.specs.History.{bookings}
use Rattle.ledger.proofs.Gives.{Gives, gives_more}
use Rattle.std.specs.Prelude.{Some}
use Rattle.balance.specs.Told.{listed}
use Rattle.balance.proofs.Listings.{listed_length, listed_same, listed_more, none_listed, first_listed, change_listed}
use Rattle.restored.specs.History.{orders_of, deliveries_of, report_on, reports_of, history_of}

-- one more entry is listed last
listed_next : {A : Type 0} (f : ℕ → A) (k : ℕ) → listed f (suc k) 0 ≡ listed f k 0 ++ (f k ∷ [])
listed_next {A} f k = listed_more f k 0 ∙ ap (λ (x : ℕ). listed f k 0 ++ (f x ∷ [])) (zero-add k)

-- one more line is one more order
orders_more : (ls : List Line) (l : Line) → orders_of (ls ++ (l ∷ [])) ≡ orders_of ls ++ (order l.key l.asked highest_ceiling ∷ [])
unfolding orders_of
orders_more [] l = refl
orders_more (x ∷ ls) l = ap (λ (rs : List Fit). order x.key x.asked highest_ceiling ∷ rs) (orders_more ls l)

-- one more slip is one more delivery
deliveries_more : (ts : List Slip) (t : Slip) → deliveries_of (ts ++ (t ∷ [])) ≡ deliveries_of ts ++ (goods t.line t.says ∷ [])
unfolding deliveries_of
deliveries_more [] t = refl
deliveries_more (x ∷ ts) t = ap (λ (rs : List Fit). goods x.line x.says ∷ rs) (deliveries_more ts t)

-- one more line is one more report, if it has a mark
reports_more : (ls : List Line) (l : Line) → reports_of (ls ++ (l ∷ [])) ≡ reports_of ls ++ report_on l l.last
unfolding reports_of
reports_more [] l = append-nil (report_on l l.last)
reports_more (x ∷ ls) l =
    ap (λ (rs : List Fit). report_on x x.last ++ rs) (reports_more ls l) ∙ sym (append_assoc (report_on x x.last) (reports_of ls) (report_on l l.last))

-- no more copies are open on a line than were ordered
open_ordered : (l : Line) → still_open l ≤ l.asked.copies
unfolding still_open ordered
open_ordered l = split (is_n l.last) (λ e. rw e (omega arith)) (λ e. rw e (omega arith))

-- so not too many for a school on listed lines
open_most : (school : Key) (f : ℕ → Line) (n i : ℕ) → ((x : ℕ) → i ≤ x → x < i + n → still_open (f x) ≤ most_copies) → open_of school (listed f n i) ≤ most_copies * n
unfolding open_of listed keep total
open_most school f zero i h = omega arith
open_most school f (suc n) i h =
    let ih = open_most school f n (suc i) (λ x a c. h x (omega arith) (omega arith)) in
    let one = h i (omega arith) (omega arith) in
    split (of_school school (f i).key) (λ e. rw e (omega arith)) (λ e. rw e (omega arith))

-- the copies of the slip at j where it names the line at i, else none
abbrev pub share : (ℕ → Slip) → (ℕ → ℕ) → ℕ → ℕ → ℕ
share slip at i j = pick (eqb (at j) i) (slip j).says.copies 0

-- n lines and m slips, the slip at j on the line at `at j`, within the rooms and as many as a book may have, none of more copies than an order may have: no key is an earlier one's, and each A is its slips' sum, within the limit
pub record Stated (rooms : Rooms) (n m : ℕ) (line : ℕ → Line) (slip : ℕ → Slip) (at : ℕ → ℕ) : Type 0 where
  pub lines_fit : n ≤ rooms.for_lines
  pub few : n ≤ most_lines
  pub small : (i : ℕ) → i < n → (line i).asked.copies ≤ most_copies
  pub slips_fit : m ≤ rooms.for_slips
  pub line_new : (e i : ℕ) → e < i → i < n → same (line i).key (line e).key ≡ false
  pub slip_new : (e j : ℕ) → e < j → j < m → same (slip j).says.slip (slip e).says.slip ≡ false
  pub used : (j : ℕ) → j < m → at j < n
  pub names : (j : ℕ) → j < m → (slip j).line ≡ (line (at j)).key
  pub sums : (i : ℕ) → i < n → (line i).arrived ≡ sum_from (share slip at i) m 0
  pub most : (i : ℕ) → i < n → (line i).arrived ≤ most_arrived

module _ (rooms : Rooms) (n m : ℕ) (line : ℕ → Line) (slip : ℕ → Slip) (at : ℕ → ℕ) (s : Stated rooms n m line slip at) where
  -- the line at i after its order and the first j slips
  abbrev arrived_by : ℕ → ℕ → Line
  arrived_by j i = record { key = (line i).key; asked = (line i).asked; arrived = sum_from (share slip at i) j 0; last = none }

  -- the line at i after all but its report
  abbrev unreported : ℕ → Line
  unreported i = record { key = (line i).key; asked = (line i).asked; arrived = (line i).arrived; last = none }

  -- the line at i after the reports on the first k lines
  abbrev told_by : ℕ → ℕ → Line
  told_by k i = pick (ltb i k) (line i) (unreported i)

  -- the book of the first k orders
  abbrev order_book : ℕ → Book
  order_book k = record { lines = listed (arrived_by 0) k 0; slips = [] }

  -- of all orders and the first j slips
  abbrev slip_book : ℕ → Book
  slip_book j = record { lines = listed (arrived_by j) n 0; slips = listed slip j 0 }

  -- of all orders and slips and the first k reports
  abbrev report_book : ℕ → Book
  report_book k = record { lines = listed (told_by k) n 0; slips = listed slip m 0 }

  -- each line is the first with its key
  own_line : (i : ℕ) → i < n → first_from (λ x. same (line i).key (line x).key) n 0 ≡ Some i
  own_line i h =
      first_is (λ x. same (line i).key (line x).key) n 0 i (omega arith) (omega arith) (same_refl (line i).key) (λ x a c. s.line_new x i c h)

  -- an order is accepted
  order_allowed : (k : ℕ) → k < n → judge rooms (order_book k) (order (line k).key (line k).asked highest_ceiling) ≡ done
  unfolding judge tests first_of found line_at
  order_allowed k h =
      let p : ℕ → Bool = λ x. same (line k).key (line x).key in
      let school : Key = school_of (line k).key in
      let most = open_most school (arrived_by 0) k 0 (λ x a c. omega (arith, open_ordered (arrived_by 0 x), s.small x (omega arith))) in
      let below : open_of school (listed (arrived_by 0) k 0) + (line k).asked.copies ≤ highest_ceiling = omega (arith, most, s.small k h, s.few) in
      rw (none_listed (λ (l : Line). same (line k).key l.key) p (arrived_by 0) (λ x. refl) k 0 (none_is p k 0 (λ x a c. s.line_new x k (omega arith) h)), le-ltb highest_ceiling (open_of school (listed (arrived_by 0) k 0) + (line k).asked.copies) below, listed_length (arrived_by 0) k 0, lt-leb rooms.for_lines k (omega (arith, s.lines_fit)))

  -- so are all, and give the lines with nothing arrived
  orders_give : (k : ℕ) → k ≤ n → Gives rooms (orders_of (listed line k 0)) (order_book k)
  orders_give zero h = unfold bookings orders_of listed in refl
  orders_give (suc k) h =
      gives_more rooms (orders_of (listed line k 0)) (orders_of (listed line (suc k) 0)) (order_book k) (order_book (suc k)) (order (line k).key (line k).asked highest_ceiling)
      (orders_give k (omega arith)) (order_allowed k h)
      (sym (ap orders_of (listed_next line k) ∙ orders_more (listed line k 0) (line k)))
      (unfold enter sum_from in λ x. record { lines = sym (listed_next (arrived_by 0) k) x; slips = [] })

  -- a slip finds its line
  line_named : (j : ℕ) → j < m → first_from (λ x. same (slip j).line (line x).key) n 0 ≡ Some (at j)
  line_named j h = ap (λ (k : Key). first_from (λ x. same k (line x).key) n 0) (s.names j h) ∙ own_line (at j) (s.used j h)

  -- a delivery is accepted
  goods_allowed : (j : ℕ) → j < m → judge rooms (slip_book j) (goods (slip j).line (slip j).says) ≡ done
  unfolding judge tests first_of found given line_at slip_at
  goods_allowed j h =
      let i : ℕ = at j in
      let u : i < n = s.used j h in
      let p : ℕ → Bool = λ x. same (slip j).says.slip (slip x).says.slip in
      let none_yet = none_listed (λ (t : Slip). same (slip j).says.slip t.says.slip) p slip (λ x. refl) j 0 (none_is p j 0 (λ x a c. s.slip_new x j (omega arith) h)) in
      let there = first_listed (λ (l : Line). same (slip j).line l.key) (λ x. same (slip j).line (line x).key) (arrived_by j) (λ x. refl) n 0 i (line_named j h) in
      let own : share slip at i j ≡ (slip j).says.copies = rw (eq-eqb (at j) i refl) in
      let sum : sum_from (share slip at i) j 0 + (slip j).says.copies ≤ most_arrived =
      omega (arith, sum_more (share slip at i) j 0, ap (share slip at i) (zero-add j), own, sum_less (share slip at i) (suc j) m 0 h, s.sums i u, s.most i u) in
      rw (none_yet, there, le-ltb most_arrived (sum_from (share slip at i) j 0 + (slip j).says.copies) sum, listed_length slip j 0, lt-leb rooms.for_slips j (omega (arith, s.slips_fit)))

  -- it is entered
  goods_entered : (j : ℕ) → j < m → enter (slip_book j) (goods (slip j).line (slip j).says) ≡ slip_book (suc j)
  unfolding enter change_line arrive
  goods_entered j h =
      let next : (x : ℕ) → sum_from (share slip at x) (suc j) 0 ≡ sum_from (share slip at x) j 0 + share slip at x j =
      λ x. sum_more (share slip at x) j 0 ∙ ap (λ (y : ℕ). sum_from (share slip at x) j 0 + share slip at x y) (zero-add j) in
      λ i. record {
        lines = sym (change_listed (λ (l : Line). same (slip j).line l.key) (λ x. same (slip j).line (line x).key) (arrived_by j) (λ x. refl)
            (arrive (slip j).says.copies) (arrived_by (suc j)) n 0 (at j) (line_named j h)
            (rw (next (at j), eq-eqb (at j) (at j) refl))
            (λ x ne. rw (next x, ne_eqb (at j) x (λ q. ne (sym q))) (ap (λ (y : ℕ). record { key = (line x).key; asked = (line x).asked; arrived = y; last = none }) (omega arith)))) i;
        slips = sym (listed_next slip j) i;
      }

  -- so are all
  deliveries_give : (rs : List Fit) → Gives rooms rs (slip_book 0) → (j : ℕ) → j ≤ m → Gives rooms (rs ++ deliveries_of (listed slip j 0)) (slip_book j)
  deliveries_give rs g zero h = unfold deliveries_of listed in rw (append-nil rs) g
  deliveries_give rs g (suc j) h =
      let ds : List Fit = deliveries_of (listed slip j 0) in
      let r : Fit = goods (slip j).line (slip j).says in
      gives_more rooms (rs ++ ds) (rs ++ deliveries_of (listed slip (suc j) 0)) (slip_book j) (slip_book (suc j)) r
      (deliveries_give rs g j (omega arith)) (goods_allowed j h)
      (append_assoc rs ds (r ∷ []) ∙ ap (λ (l : List Fit). rs ++ l) (sym (ap deliveries_of (listed_next slip j) ∙ deliveries_more (listed slip j 0) (slip j))))
      (goods_entered j h)

  -- a report keeps the key
  told_key : (k x : ℕ) → (told_by k x).key ≡ (line x).key
  told_key k x = split (ltb x k) (λ e. rw e) (λ e. rw e)

  -- another line's report changes nothing
  told_apart : (k x : ℕ) → x ≢ k → told_by (suc k) x ≡ told_by k x
  told_apart k x ne =
      split (ltb x k)
      (λ e. rw (e, lt-ltb x (suc k) (omega (arith, ltb-true x k e))))
      (λ e. rw (e, le-ltb x (suc k) (omega (arith, ltb-false x k e))))

  -- before its own report the line has none
  told_before : (k : ℕ) → told_by k k ≡ unreported k
  told_before k = rw (le-ltb k k (omega arith))

  -- and after it the line is whole
  told_after_law : (k : ℕ) → told_by (suc k) k ≡ line k
  told_after_law k = rw (lt-ltb k (suc k) (omega arith))

  -- a report is accepted
  report_allowed : (k : ℕ) (r : Report) → k < n → judge rooms (report_book k) (report (line k).key r) ≡ done
  unfolding judge tests first_of found line_at
  report_allowed k r h =
      rw (first_listed (λ (l : Line). same (line k).key l.key) (λ x. same (line k).key (line x).key) (told_by k) (λ x. ap (same (line k).key) (told_key k x)) n 0 k (own_line k h))

  -- it is entered
  report_entered : (k : ℕ) (r : Report) → k < n → (line k).last ≡ some r → enter (report_book k) (report (line k).key r) ≡ report_book (suc k)
  unfolding enter change_line tell
  report_entered k r h e =
      let here : line k ≡ tell r (unreported k) = λ i. record { key = (line k).key; asked = (line k).asked; arrived = (line k).arrived; last = e i } in
      λ i. record {
        lines = sym (change_listed (λ (l : Line). same (line k).key l.key) (λ x. same (line k).key (line x).key) (told_by k) (λ x. ap (same (line k).key) (told_key k x))
            (tell r) (told_by (suc k)) n 0 k (own_line k h) (told_after_law k ∙ here ∙ ap (tell r) (sym (told_before k))) (told_apart k)) i;
        slips = listed slip m 0;
      }

  -- a line with no mark has no report
  report_none : (k : ℕ) → (line k).last ≡ none → report_book k ≡ report_book (suc k)
  report_none k e =
      let here : line k ≡ unreported k = λ i. record { key = (line k).key; asked = (line k).asked; arrived = (line k).arrived; last = e i } in
      λ i. record {
        lines = listed_same (told_by k) (told_by (suc k)) n 0
            (λ x a c. split (eqb x k)
            (λ t. let d = eqb-true x k t in rw d (told_before k ∙ sym (told_after_law k ∙ here)))
            (λ t. sym (told_apart k x (eqb-false x k t)))) i;
        slips = listed slip m 0;
      }

  -- so a line's report is accepted and entered, if it has a mark
  report_gives : (rs : List Fit) (k : ℕ) → k < n → (last : Option Report) → (line k).last ≡ last → Gives rooms rs (report_book k)
      → Gives rooms (rs ++ report_on (line k) last) (report_book (suc k))
  unfolding report_on
  report_gives rs k h none e g = rw (append-nil rs) (subst (Gives rooms rs) (report_none k e) g)
  report_gives rs k h (some r) e g =
      gives_more rooms rs (rs ++ (report (line k).key r ∷ [])) (report_book k) (report_book (suc k)) (report (line k).key r) g (report_allowed k r h) refl (report_entered k r h e)

  -- and all are
  reports_give : (rs : List Fit) → Gives rooms rs (report_book 0) → (k : ℕ) → k ≤ n → Gives rooms (rs ++ reports_of (listed line k 0)) (report_book k)
  reports_give rs g zero h = unfold reports_of listed in rw (append-nil rs) g
  reports_give rs g (suc k) h =
      let ms : List Fit = reports_of (listed line k 0) in
      let e : (rs ++ ms) ++ report_on (line k) (line k).last ≡ rs ++ reports_of (listed line (suc k) 0) =
      append_assoc rs ms (report_on (line k) (line k).last)
      ∙ ap (λ (l : List Fit). rs ++ l) (sym (ap reports_of (listed_next line k) ∙ reports_more (listed line k 0) (line k))) in
      subst (λ (l : List Fit). Gives rooms l (report_book (suc k))) e
      (report_gives (rs ++ ms) k h (line k).last refl (reports_give rs g k (omega arith)))

  -- after all slips each A is the line's
  all_arrived : slip_book m ≡ report_book 0
  all_arrived = λ i. record {
    lines = listed_same (arrived_by m) (told_by 0) n 0
        (λ x a c. rw (le-ltb x 0 (omega arith)) (ap (λ (y : ℕ). record { key = (line x).key; asked = (line x).asked; arrived = y; last = none }) (sym (s.sums x (omega arith))))) i;
    slips = listed slip m 0;
  }

  -- the book of these entries
  abbrev whole : Book
  whole = record { lines = listed line n 0; slips = listed slip m 0 }

  -- after all reports each line is whole
  all_told : report_book n ≡ whole
  all_told = λ i. record { lines = listed_same (told_by n) line n 0 (λ x a c. rw (lt-ltb x n (omega arith))) i; slips = listed slip m 0 }

  -- the history that it states is all accepted, and gives it
  pub history_gives : Gives rooms (history_of whole) whole
  unfolding history_of
  history_gives =
      let os : List Fit = orders_of (listed line n 0) in
      let ds : List Fit = deliveries_of (listed slip m 0) in
      let ms : List Fit = reports_of (listed line n 0) in
      let ordered : Gives rooms os (slip_book 0) = unfold listed in orders_give n (omega arith) in
      let delivered : Gives rooms (os ++ ds) (report_book 0) = subst (Gives rooms (os ++ ds)) all_arrived (deliveries_give os ordered m (omega arith)) in
      let told : Gives rooms (os ++ ds ++ ms) whole = subst (Gives rooms (os ++ ds ++ ms)) all_told (reports_give (os ++ ds) delivered n (omega arith)) in
      subst (λ (l : List Fit). Gives rooms l whole) (append_assoc os ds ms) told
