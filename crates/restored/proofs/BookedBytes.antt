-- Lines that are bytes stay bytes, whatever is booked.
use mathlib.Core.Path.{◌≡◌, refl}
use mathlib.Core.Bool.{Bool, true}
use mathlib.Core.List.{List, [], ◌∷◌, ◌++◌, append-nil}
use Prim.Native.Nat.{ℕ, zero, suc, ◌+◌, ◌*◌, ◌%◌, ◌/◌}
use native.Mathlib.Omega.{arith}
use borrow.Author.Tests.{lt-ltb}
use lib.Dec.{ltb}
use lib.ListN.{set}
use lib.Seq.{sets}
use Rattle.cells.specs.Bytes.{all, joined}
use Rattle.cells.specs.Little.{le_bytes}
use Rattle.cells.proofs.Bools.{and_left, and_right}
use Rattle.cells.proofs.Lists.{all_weaker, all_append}
use Rattle.signs.specs.Class.{belongs}
use Rattle.signs.proofs.Classes.{allowed_byte}
use Rattle.signs.specs.declared.Class.TheVariants.{Allowed}
use Rattle.record.specs.declared.layout.Kind.{Kind}
use Rattle.record.specs.declared.layout.Kind.TheVariants.{Order, Goods, Closing, Report}
use Rattle.reader.proofs.Fitting.{Fitting}
use Rattle.entry.specs.Line.{mark_byte}
use Rattle.rules.specs.declared.amount.Copies.{Copies}
use Rattle.entry.specs.Report.{message_number, blank_date}
use Rattle.entry.specs.Stored.{line_width, mark_at, arrived_at, report_bytes, new_bytes, put_in, put_arrived, put_report, add_line}
use Rattle.entry.specs.declared.report.Message.{Message}
use Rattle.entry.specs.declared.report.Message.TheVariants.{NoReport}
use Rattle.entry.specs.declared.line.Mark.{Mark}
use Rattle.entry.specs.declared.line.Mark.TheVariants.{Unmarked, Held, Dropped}
use Rattle.book.specs.Lent.{Lent}
use Rattle.book.specs.Booking.{key_fields, line_key, article_fields, article_in, copies_in, mark_in, message_in, date_in, line_after, lent_after}
use Rattle.book.proofs.Fields.{named_fields}
use Rattle.balance.specs.Met.{Met}
use Rattle.balance.specs.Demand3.{fresh}
use Rattle.restored.specs.Restored.{Bytes}
use Rattle.restored.specs.Bookings.{book_of, StaysBytes}
use Rattle.restored.proofs.Keys.{all_fields, fit_allowed}
use Rattle.restored.proofs.Given.{all_given}

-- where each byte of a list passes a test, and what is stored in it does, each byte still passes
module _ (p : ℕ → Bool) where
  all_set : (s : List ℕ) (i x : ℕ) → all p s ≡ true → p x ≡ true → all p (set s i x) ≡ true
  unfolding all
  all_set [] i x e f = refl
  all_set (y ∷ ys) zero x e f = rw f (and_right (p y) (all p ys) e)
  all_set (y ∷ ys) (suc i) x e f = rw (and_left (p y) (all p ys) e) (all_set ys i x (and_right (p y) (all p ys) e) f)

  -- so for a run
  all_sets : (s : List ℕ) (i : ℕ) (xs : List ℕ) → all p s ≡ true → all p xs ≡ true → all p (sets s i xs) ≡ true
  unfolding all
  all_sets s i [] e f = e
  all_sets s i (x ∷ xs) e f = all_sets (set s i x) (suc i) xs (all_set s i x e (and_left (p x) (all p xs) f)) (and_right (p x) (all p xs) f)

-- a number's bytes are bytes
le_bytes_law : (w n : ℕ) → Bytes (le_bytes w n)
unfolding le_bytes all
le_bytes_law zero n = refl
le_bytes_law (suc w) n = rw (lt-ltb (n % 256) 256 (omega arith)) (le_bytes_law w (n / 256))

-- so is a mark's byte
mark_is_byte : (m : Mark) → ltb (mark_byte m) 256 ≡ true
unfolding mark_byte
mark_is_byte Unmarked = refl
mark_is_byte Held = refl
mark_is_byte Dropped = refl

-- and what a report says, where its date is bytes
report_bytes_law : (m : Mark) (n : Message) (date : List ℕ) → Bytes date → Bytes (report_bytes m n date)
unfolding report_bytes all
report_bytes_law m n date e = rw (mark_is_byte m, all_append (λ b. ltb b 256) (le_bytes 2 (message_number n)) date, le_bytes_law 2 (message_number n)) e

-- a new line's figures
new_bytes_law : (n : Copies) → Bytes (new_bytes n)
unfolding new_bytes
new_bytes_law n =
    let none : List ℕ = report_bytes Unmarked NoReport blank_date in
    rw (all_append (λ b. ltb b 256) (le_bytes 2 n.0) (none ++ le_bytes 4 0), le_bytes_law 2 n.0, all_append (λ b. ltb b 256) none (le_bytes 4 0), report_bytes_law Unmarked NoReport blank_date (unfold all in refl))
    (le_bytes_law 4 0)

-- bytes put into a line
put_bytes : (ls : List ℕ) (i at : ℕ) (s : List ℕ) → Bytes ls → Bytes s → Bytes (put_in ls i at s)
unfolding put_in
put_bytes ls i at s e f = all_sets (λ b. ltb b 256) ls (line_width * i + at) s e f

-- the expected date of a report that fits is bytes
date_bytes : (s : List ℕ) (n : ℕ) → Fitting Report s n → Bytes (date_in s)
unfolding date_in joined
date_bytes s n f =
    rw append-nil at (all_fields (λ b. ltb b 256) Report (11 ∷ []) s (all_weaker (belongs Allowed) (λ b. ltb b 256) allowed_byte s (fit_allowed Report s n f)))

-- a record of any kind entered
kind_bytes : (k : Kind) (s : List ℕ) (b : Lent) (i n : ℕ) → Fitting k s n → Bytes b.lines → Bytes (lent_after k s b i).lines
unfolding lent_after add_line put_arrived put_report
kind_bytes Order s b i n f e =
    all_sets (λ b. ltb b 256) b.lines (line_width * i) ((line_key Order s ++ article_in Order s) ++ new_bytes (copies_in Order s)) e
    (rw (all_append (λ b. ltb b 256) (line_key Order s ++ article_in Order s) (new_bytes (copies_in Order s)), named_fields Order s, all_fields (λ b. ltb b 256) Order (key_fields Order ++ article_fields Order) s (all_weaker (belongs Allowed) (λ b. ltb b 256) allowed_byte s (fit_allowed Order s n f)))
    (new_bytes_law (copies_in Order s)))
kind_bytes Goods s b i n f e = put_bytes b.lines i arrived_at (le_bytes 4 (line_after Goods s b i).arrived.0) e (le_bytes_law 4 (line_after Goods s b i).arrived.0)
kind_bytes Closing s b i n f e = e
kind_bytes Report s b i n f e =
    put_bytes b.lines i mark_at (report_bytes (mark_in s) (message_in s) (date_in s)) e (report_bytes_law (mark_in s) (message_in s) (date_in s) (date_bytes s n f))

-- any records given keep lines that are bytes so
pub stays_bytes : StaysBytes
stays_bytes g records e = all_given (λ (b : Lent). Bytes b.lines) (λ k s roster b i n f q. kind_bytes k s b i n f) records g e

-- also from rooms with no used entries
pub bookings_bytes : (lines slips : List ℕ) (records : List Met) → Bytes lines → Bytes (book_of lines slips records).lines
bookings_bytes lines slips records e = stays_bytes (fresh lines slips) records e
