-- The sums of the accepted records are those of the lines and of the slips: of the whole book, then of any keys' part.
use Prim.Native.Nat.{◌+◌}
use native.Mathlib.Omega.{arith}
use mathlib.Core.Path.{◌≡◌, refl, sym, ◌∙◌, subst}
use mathlib.Core.Bool.{Bool}
use mathlib.Core.List.{List}
use borrow.Author.Tests.{not-false}
use Rattle.cells.specs.Bytes.{same}
use Rattle.cells.proofs.Bools.{split}
use Rattle.ledger.specs.Lists.{keep, total}
use Rattle.ledger.specs.Book.{Key, Line, Slip, Rooms, ordered, filled, extra, is_n, let_go, still_open}
use Rattle.ledger.specs.Booking.{Fit, order, goods, report, line_at, tests, judge, new_line, arrive, tell, change_line, enter}
use Rattle.ledger.specs.History.{State, empty, bookings, lines_of, part, records_of, on_order, on_slip}
use Rattle.ledger.proofs.Lists.{total_more, total_same, total_change}
use Rattle.ledger.proofs.Tests.{none_holds}
use Rattle.ledger.proofs.Histories.{Lasts, by_bookings, alone}

-- a line's filled, let go and open copies are those ordered
ordered_is : (l : Line) → filled l + let_go l + still_open l ≡ ordered l
unfolding filled let_go still_open
ordered_is l = split (is_n l.last) (λ e. rw e (omega arith)) (λ e. rw e (omega arith))

-- a line's filled and extra copies are those arrived
arrived_is : (l : Line) → filled l + extra l ≡ l.arrived
unfolding filled extra
arrived_is l = omega arith

-- copies of a state: on orders and on lines, on deliveries and on lines, on lines and on slips
pub record Sums (st : State) : Type 0 where
  pub orders : total on_order st.accepted ≡ total ordered st.book.lines
  pub slips : total on_slip st.accepted ≡ total (λ l. l.arrived) st.book.lines
  pub arrivals : total (λ l. l.arrived) st.book.lines ≡ total (λ t. t.says.copies) st.book.slips

-- an order adds a line, a delivery adds to a line and is one more slip, a report adds nothing
sums_last : (rooms : Rooms) → Lasts Sums rooms
unfolding judge tests enter ordered on_order on_slip arrive tell change_line line_at
sums_last rooms st (order k o c) e h =
    let x = total_more on_order st.accepted (order k o c) in
    let y = total_more on_slip st.accepted (order k o c) in
    let z = total_more (λ (l : Line). l.arrived) st.book.lines (new_line k o) in
    record {
      orders = omega (arith, h.orders, total_more ordered st.book.lines (new_line k o));
      slips = omega (arith, h.slips, z);
      arrivals = omega (arith, h.arrivals, z);
    }
sums_last rooms st (goods k g) e h =
    let x = total_more on_order st.accepted (goods k g) in
    let y = total_more on_slip st.accepted (goods k g) in
    let t = not-false _ (none_holds (tests rooms st.book (goods k g)) e).1.1.0 in
    let z = total_change (λ (l : Line). l.arrived) (λ (l : Line). same k l.key) (arrive g.copies) g.copies (λ l. omega arith) st.book.lines t in
    let w = total_more (λ (t : Slip). t.says.copies) st.book.slips (record { line = k; says = g }) in
    record {
      orders = omega (arith, h.orders, total_change ordered _ (arrive g.copies) 0 (λ l. omega arith) st.book.lines t);
      slips = omega (arith, h.slips, z);
      arrivals = omega (arith, h.arrivals, z, w);
    }
sums_last rooms st (report k m) e h =
    let x = total_more on_order st.accepted (report k m) in
    let y = total_more on_slip st.accepted (report k m) in
    let t = not-false _ (none_holds (tests rooms st.book (report k m)) e).0 in
    let z = total_change (λ (l : Line). l.arrived) (λ (l : Line). same k l.key) (tell m) 0 (λ l. omega arith) st.book.lines t in
    record {
      orders = omega (arith, h.orders, total_change ordered _ (tell m) 0 (λ l. omega arith) st.book.lines t);
      slips = omega (arith, h.slips, z);
      arrivals = omega (arith, h.arrivals, z);
    }

-- so it is after any bookings from empty
sums : (rooms : Rooms) (rs : List Fit) → Sums (bookings rooms empty rs)
unfolding total
sums rooms rs = by_bookings Sums rooms (sums_last rooms) rs empty (record { orders = refl; slips = refl; arrivals = refl })

-- any keys' part has the sums of these keys' accepted records
part_sums : (p : Key → Bool) (rooms : Rooms) (rs : List Fit)
    → Sums (record { book = part p (bookings rooms empty rs).book; accepted = records_of p (bookings rooms empty rs).accepted })
part_sums p rooms rs = subst Sums (alone p rooms rs) (sums rooms (records_of p (bookings rooms empty rs).accepted))

module _ (p : Key → Bool) (rooms : Rooms) (rs : List Fit) where
  -- copies on accepted orders are filled, let go or open
  pub order_sum : total on_order (records_of p (bookings rooms empty rs).accepted)
      ≡ total (λ l. filled l + let_go l + still_open l) (lines_of p (bookings rooms empty rs).book.lines)
  unfolding part
  order_sum = (part_sums p rooms rs).orders ∙ sym (total_same _ _ ordered_is _)

  -- copies on accepted slips are filled or extra
  pub slip_sum : total on_slip (records_of p (bookings rooms empty rs).accepted)
      ≡ total (λ l. filled l + extra l) (lines_of p (bookings rooms empty rs).book.lines)
  unfolding part
  slip_sum = (part_sums p rooms rs).slips ∙ sym (total_same _ _ arrived_is _)

-- what arrived on a key's line is the sum of the slips that name it
pub arrived_sum : (rooms : Rooms) (rs : List Fit) (k : Key)
    → total (λ l. l.arrived) (lines_of (same k) (bookings rooms empty rs).book.lines)
    ≡ total (λ t. t.says.copies) (keep (λ t. same k t.line) (bookings rooms empty rs).book.slips)
unfolding part
arrived_sum rooms rs k = (part_sums (same k) rooms rs).arrivals
