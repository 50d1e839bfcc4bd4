-- A school's open copies in the bytes are those of the book that they tell; so what passes the ceiling, or keeps it, does so there.
use mathlib.Core.Path.{◌≡◌, ◌∙◌, ap, sym, refl}
use mathlib.Core.Bool.{Bool}
use mathlib.Core.List.{List}
use Prim.Native.Nat.{ℕ, zero, suc, ◌+◌, ◌*◌, ◌≤◌, ◌<◌}
use native.Mathlib.Omega.{arith}
use lib.ListN.{take, drop}
use lib.Seq.{slice, take-take}
use borrow.Author.Tests.{lt-leb, le-ltb}
use Rattle.cells.specs.Bytes.{pick}
use Rattle.cells.specs.Search.{sum_from}
use Rattle.std.specs.Prelude.{None}
use Rattle.cells.proofs.Bools.{split}
use Rattle.cells.proofs.Parts.{take_from}
use Rattle.entry.specs.Line.{open_of as openBy, filled_of, figures_of}
use Rattle.entry.specs.Stored.{line_width, key_width, school_width, line_at, key_at, school_at, school_is, open_at}
use Rattle.entry.specs.declared.line.Mark.{Mark}
use Rattle.entry.specs.declared.line.Mark.TheVariants.{Unmarked, Held, Dropped}
use Rattle.ledger.specs.Lists.{keep, total, found}
use Rattle.ledger.specs.Book.{Key, Order, Line, school_of, of_school, ordered, filled, is_n, still_open}
use Rattle.ledger.specs.Booking.{order, done, open_of, first_of, tests, judge}
use Rattle.book.specs.Lent.{Lent, used_lines, line_room, find_line, open_copies}
use Rattle.balance.specs.Told.{listed, report_of, line_told, told, rooms_of}
use Rattle.balance.proofs.Found.{same_turned, no_line, lines_told}

-- a sum over places is the sum over what passes of what is listed there
sum_listed : {A : Type 0} (f : ℕ → ℕ) (p : A → Bool) (g : A → ℕ) (h : ℕ → A) → ((x : ℕ) → f x ≡ pick (p (h x)) (g (h x)) 0)
    → (n i : ℕ) → sum_from f n i ≡ total g (keep p (listed h n i))
unfolding sum_from total keep listed
sum_listed f p g h e zero i = refl
sum_listed f p g h e (suc n) i =
    let ih = sum_listed f p g h e n (suc i) in
    split (p (h i)) (λ t. rw (e i, t) (omega arith)) (λ t. rw (e i, t) (omega arith))

module _ (lines : List ℕ) (x : ℕ) where
  -- a line is a school's in the bytes as it is told
  school_told : (school : List ℕ) → school_is lines school x ≡ of_school school (line_told lines x).key
  unfolding school_is school_at of_school school_of line_told key_at
  school_told school =
      let e : slice (line_width * x) (line_width * x + school_width) lines ≡ take school_width (slice (line_width * x) (line_width * x + key_width) lines) =
      sym (take_from school_width (line_width * x) lines)
      ∙ sym (take-take school_width key_width (drop (line_width * x) lines) (omega arith))
      ∙ ap (take school_width) (take_from key_width (line_width * x) lines) in
      rw e (same_turned _ school)

  -- and has the same open copies
  open_figure : (figures_of (line_at lines x)).still_open.0 ≡ still_open (line_told lines x)
  unfolding figures_of filled_of openBy line_told report_of ordered filled is_n still_open
  open_figure = go (line_at lines x).mark refl
    where
      go : (m : Mark) → (line_at lines x).mark ≡ m → (figures_of (line_at lines x)).still_open.0 ≡ still_open (line_told lines x)
      go Unmarked e = rw e refl
      go Held e = rw e refl
      go Dropped e = rw e refl

  open_at_told : (school : List ℕ) → open_at lines school x ≡ pick (of_school school (line_told lines x).key) (still_open (line_told lines x)) 0
  unfolding open_at
  open_at_told school = rw (school_told school, open_figure) refl

-- so a school has the same open copies
pub open_told : (b : Lent) (school : List ℕ) → open_copies b school ≡ open_of school (told b).lines
unfolding open_copies open_of told
open_told b school =
    sum_listed (open_at b.lines school) (λ (l : Line). of_school school l.key) still_open (line_told b.lines) (λ x. open_at_told b.lines x school) (used_lines b) 0

-- an order that the bytes let pass, the told book lets pass
pub order_passes : (b : Lent) (key : Key) (o : Order) (ceiling : ℕ) → find_line b key ≡ None → open_copies b (school_of key) + o.copies ≤ ceiling
    → used_lines b < line_room b → judge (rooms_of b) (told b) (order key o ceiling) ≡ done
unfolding judge tests first_of found rooms_of
order_passes b key o ceiling e below h =
    rw (no_line b key e, ← open_told b (school_of key), le-ltb ceiling (open_copies b (school_of key) + o.copies) below, lines_told b, lt-leb (line_room b) (used_lines b) h)
