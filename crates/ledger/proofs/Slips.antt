-- Each slip is booked once, and names a line that is in the book.
use Prim.Native.Nat.{◌≤◌}
use native.Mathlib.Omega.{arith}
use mathlib.Core.Path.{◌≡◌, refl, ap, ◌∙◌}
use mathlib.Core.Bool.{Bool, true, false}
use mathlib.Core.List.{List, [], ◌∷◌, ◌++◌}
use lib.ListN.{length, length-append}
use borrow.Author.Tests.{not-false}
use Rattle.cells.specs.Bytes.{same}
use Rattle.cells.proofs.Bools.{split}
use Rattle.cells.proofs.Lists.{same_true}
use Rattle.ledger.specs.Lists.{keep, found}
use Rattle.ledger.specs.Book.{Key, Line, Slip, Rooms}
use Rattle.ledger.specs.Booking.{Fit, order, goods, report, line_at, slip_at, tests, judge, new_line, arrive, tell, change_line, enter}
use Rattle.ledger.specs.History.{State, empty, bookings, has_slip}
use Rattle.ledger.proofs.Lists.{Each, not_found, keep_in, keep_out, keep_none, found_more, found_change, each_more, each_so}
use Rattle.ledger.proofs.Tests.{none_holds}
use Rattle.ledger.proofs.Parts.{arrive_key, tell_key}
use Rattle.ledger.proofs.Histories.{Lasts, by_bookings}

-- a slip with this key
abbrev has_key : Key → Slip → Bool
has_key s t = same s t.says.slip

-- the accepted deliveries with a slip key
abbrev deliveries_with : Key → State → List Fit
deliveries_with s st = keep (has_slip s) st.accepted

-- the slips with a key
abbrev slips_with : Key → State → List Slip
slips_with s st = keep (has_key s) st.book.slips

-- of one key they are as many, and one at most
pub record Once (s : Key) (st : State) : Type 0 where
  pub as_many : length (deliveries_with s st) ≡ length (slips_with s st)
  pub most : length (slips_with s st) ≤ 1

-- a slip key that is not found is on no slip
none_with : (s j : Key) (ts : List Slip) → same s j ≡ true → found (slip_at j ts) ≡ false → keep (has_key s) ts ≡ []
unfolding slip_at
none_with s j ts i e = rw (same_true s j i) (keep_none _ ts (not_found (slip_at j ts) e))

-- a delivery is refused where its slip is booked
once_lasts : (s : Key) (rooms : Rooms) → Lasts (Once s) rooms
unfolding judge tests enter has_slip
once_lasts s rooms st (order k o c) e h = record { as_many = rw (keep_out (has_slip s) st.accepted (order k o c) refl) h.as_many; most = h.most }
once_lasts s rooms st (report k m) e h = record { as_many = rw (keep_out (has_slip s) st.accepted (report k m) refl) h.as_many; most = h.most }
once_lasts s rooms st (goods k g) e h =
    let t : Slip = record { line = k; says = g } in
    split (same s g.slip)
    (λ i. let o = none_with s g.slip st.book.slips i (none_holds (tests rooms st.book (goods k g)) e).1.0 in
    let d = keep_in (has_slip s) st.accepted (goods k g) i in
    let u = keep_in (has_key s) st.book.slips t i in
    record {
      as_many = rw (d, u, length-append (deliveries_with s st) (goods k g ∷ []), length-append (slips_with s st) (t ∷ []), h.as_many);
      most = rw (u, o) (omega arith);
    })
    (λ i. let d = keep_out (has_slip s) st.accepted (goods k g) i in
    let u = keep_out (has_key s) st.book.slips t i in
    record { as_many = rw (d, u) h.as_many; most = rw u h.most })

-- so it is after any bookings from empty
once : (s : Key) (rooms : Rooms) (rs : List Fit) → Once s (bookings rooms empty rs)
unfolding keep
once s rooms rs = by_bookings (Once s) rooms (once_lasts s rooms) rs empty (record { as_many = refl; most = omega arith })

-- no two accepted deliveries share a slip key
pub slip_once : (rooms : Rooms) (rs : List Fit) (s : Key) → length (keep (has_slip s) (bookings rooms empty rs).accepted) ≤ 1
slip_once rooms rs s = let h = once s rooms rs in rw h.as_many h.most

-- no two slips share a key
pub distinct_slips : (rooms : Rooms) (rs : List Fit) (s : Key) → length (keep (λ t. same s t.says.slip) (bookings rooms empty rs).book.slips) ≤ 1
distinct_slips rooms rs s = (once s rooms rs).most

-- the line that a slip names is among these
abbrev pub HasLine : List Line → Slip → Type 0
HasLine ls t = found (line_at t.line ls) ≡ true

-- each slip names a line of the book
abbrev pub Named : State → Type 0
Named st = Each (HasLine st.book.lines) st.book.slips

-- a change that keeps keys keeps the line that a slip names
kept : (k : Key) (f : Line → Line) → ((l : Line) → (f l).key ≡ l.key) → (ls : List Line) (t : Slip)
    → found (line_at t.line (change_line k f ls)) ≡ found (line_at t.line ls)
unfolding line_at change_line
kept k f g ls t = found_change _ _ f (λ l. ap (same t.line) (g l)) ls

-- no line goes away, and a delivery is refused where its line is not there
named_last : (rooms : Rooms) → Lasts Named rooms
unfolding judge tests enter line_at
named_last rooms st (order k o c) e h =
    each_so (HasLine st.book.lines) _ (λ t. found_more _ st.book.lines (new_line k o)) st.book.slips h
named_last rooms st (goods k g) e h =
    let c = not-false _ (none_holds (tests rooms st.book (goods k g)) e).1.1.0 in
    each_so (HasLine st.book.lines) _ (λ t x. kept k (arrive g.copies) (arrive_key g.copies) st.book.lines t ∙ x)
    (st.book.slips ++ (record { line = k; says = g } ∷ []))
    (each_more (HasLine st.book.lines) st.book.slips (record { line = k; says = g }) h c)
named_last rooms st (report k m) e h =
    each_so (HasLine st.book.lines) _ (λ t x. kept k (tell m) (tell_key m) st.book.lines t ∙ x) st.book.slips h

-- every slip names a line that is in the book
pub slip_lines : (rooms : Rooms) (rs : List Fit) → Each (HasLine (bookings rooms empty rs).book.lines) (bookings rooms empty rs).book.slips
slip_lines rooms rs = by_bookings Named rooms (named_last rooms) rs empty tt
