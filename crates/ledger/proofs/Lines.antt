-- Every line follows from its key's own accepted records; no two lines share a key.
use Prim.Native.Nat.{◌≤◌}
use native.Mathlib.Nat.{add-zero}
use native.Mathlib.Omega.{arith}
use mathlib.Core.Path.{◌≡◌, refl, ap}
use mathlib.Core.Option.{Option, none, some}
use mathlib.Core.List.{List, [], ◌∷◌, ◌++◌}
use lib.ListN.{length}
use Rattle.cells.specs.Bytes.{same}
use Rattle.cells.proofs.Bools.{split}
use Rattle.cells.proofs.Lists.{same_refl, same_true}
use Rattle.ledger.specs.Lists.{keep, total, first, change, found}
use Rattle.ledger.specs.Book.{Key, Report, Book, Rooms}
use Rattle.ledger.specs.Booking.{Fit, order, goods, report, line_at, done, tests, judge, arrive, tell, change_line, enter}
use Rattle.ledger.specs.History.{State, empty, bookings, key_of, lines_of, part, records_of, on_slip, last_report, line_from}
use Rattle.ledger.proofs.Lists.{keep_in, keep_out, total_more}
use Rattle.ledger.proofs.Tests.{none_holds}
use Rattle.ledger.proofs.Parts.{judge_part, enter_in, enter_out}
use Rattle.ledger.proofs.Histories.{Lasts, by_bookings}

-- the last report with one more record
last_more : (earlier : Option Report) (rs : List Fit) (r : Fit) → last_report earlier (rs ++ (r ∷ [])) ≡ last_report (last_report earlier rs) (r ∷ [])
unfolding last_report
last_more earlier [] r = refl
last_more earlier (order k o c ∷ rs) r = last_more earlier rs r
last_more earlier (goods k g ∷ rs) r = last_more earlier rs r
last_more earlier (report k m ∷ rs) r = last_more (some m) rs r

-- a book with one key's lines only: an accepted record of the key is one more of its records
line_next : (rooms : Rooms) (b : Book) (r : Fit) → judge rooms b r ≡ done → (rs : List Fit)
    → b.lines ≡ line_from (key_of r) rs → (enter b r).lines ≡ line_from (key_of r) (rs ++ (r ∷ []))
unfolding judge tests key_of enter line_from change_line change line_at first found arrive tell last_report total on_slip
line_next rooms b (order k o c) e [] d = cc
line_next rooms b (order k o c) e (order j x u ∷ rs) d = cc (same_refl k, (none_holds (tests rooms b (order k o c)) e).0)
line_next rooms b (order k o c) e (goods j x ∷ rs) d = line_next rooms b (order k o c) e rs d
line_next rooms b (order k o c) e (report j x ∷ rs) d = line_next rooms b (order k o c) e rs d
line_next rooms b (goods k g) e [] d = cc
line_next rooms b (goods k g) e (order j x u ∷ rs) d = cc (same_refl k, total_more on_slip rs (goods k g), last_more none rs (goods k g))
line_next rooms b (goods k g) e (goods j x ∷ rs) d = line_next rooms b (goods k g) e rs d
line_next rooms b (goods k g) e (report j x ∷ rs) d = line_next rooms b (goods k g) e rs d
line_next rooms b (report k m) e [] d = cc
line_next rooms b (report k m) e (order j x u ∷ rs) d =
    cc (same_refl k, total_more on_slip rs (report k m), add-zero (total on_slip rs), last_more none rs (report k m))
line_next rooms b (report k m) e (goods j x ∷ rs) d = line_next rooms b (report k m) e rs d
line_next rooms b (report k m) e (report j x ∷ rs) d = line_next rooms b (report k m) e rs d

-- a key's lines are what its accepted records say
abbrev Own : Key → State → Type 0
Own k st = lines_of (same k) st.book.lines ≡ line_from k (records_of (same k) st.accepted)

-- an accepted record with the key is one more of its records, another leaves its lines
own_lasts : (k : Key) (rooms : Rooms) → Lasts (Own k) rooms
unfolding records_of part
own_lasts k rooms st r e o =
    split (same k (key_of r))
    (λ i. let j = same_true k (key_of r) i in
    let n = line_next rooms (part (same k) st.book) r (judge_part (same k) rooms st.book r i e) (records_of (same k) st.accepted) (cc) in
    cc (ap (λ (b : Book). b.lines) (enter_in (same k) st.book r i), keep_in (λ (x : Fit). same k (key_of x)) st.accepted r i))
    (λ i. cc (ap (λ (b : Book). b.lines) (enter_out (same k) st.book r i), keep_out (λ (x : Fit). same k (key_of x)) st.accepted r i))

-- so it is after any bookings from empty
pub every_line : (rooms : Rooms) (rs : List Fit) (k : Key)
    → lines_of (same k) (bookings rooms empty rs).book.lines ≡ line_from k (records_of (same k) (bookings rooms empty rs).accepted)
unfolding records_of lines_of keep line_from
every_line rooms rs k = by_bookings (Own k) rooms (own_lasts k rooms) rs empty refl

-- a key's records make one line at most
line_most : (k : Key) (rs : List Fit) → length (line_from k rs) ≤ 1
unfolding line_from
line_most k [] = omega arith
line_most k (order j o c ∷ rs) = omega arith
line_most k (goods j g ∷ rs) = line_most k rs
line_most k (report j m ∷ rs) = line_most k rs

-- no two lines share a key
pub distinct_lines : (rooms : Rooms) (rs : List Fit) (k : Key) → length (keep (λ l. same k l.key) (bookings rooms empty rs).book.lines) ≤ 1
unfolding lines_of
distinct_lines rooms rs k = rw (every_line rooms rs k) (line_most k _)
