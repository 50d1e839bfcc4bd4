-- A book made by bookings from empty can be saved and loaded.
use mathlib.Core.Path.{◌≡◌, refl}
use mathlib.Core.Bool.{true}
use mathlib.Core.List.{List}
use Prim.Native.Nat.{ℕ, ◌≤◌}
use native.Mathlib.Omega.{arith}
use lib.ListN.{length}
use borrow.Author.Tests.{eqb-false, le-leb}
use Rattle.cells.specs.Search.{all_from}
use Rattle.record.specs.declared.layout.Kind.{Kind}
use Rattle.record.specs.declared.layout.Kind.TheVariants.{Order, Goods, Closing, Report}
use Rattle.reader.proofs.Fitting.{Fitting}
use Rattle.book.specs.Lent.{Lent, used_lines, used_slips, sound, find_line, find_slip}
use Rattle.book.specs.Booking.{line_key, article_in, slip_key, school_in, copies_in, no_copies, book_judged, line_after, lent_after}
use Rattle.book.proofs.Fields.{order_key, order_named, slip_key_width_law, order_copies, goods_copies}
use Rattle.balance.specs.Demand3.{fresh, give_all}
use Rattle.balance.proofs.Followed.{FitPassed, fit_passed, order_fits, delivery_fits, report_fits_law}
use Rattle.save.specs.Entries.{lines_kept, slips_kept, sums_kept, entries_kept}
use Rattle.save.specs.Saved.{saved_width, saved_as, save}
use Rattle.save.specs.declared.form.Form.TheVariants.{New}
use Rattle.restored.specs.Restored.{Orderly}
use Rattle.restored.specs.Bookings.{book_of, BookingsOrderly, BookSurvives, StaysOrderly}
use Rattle.restored.proofs.Keys.{order_named_kept, slip_key_kept, goods_parties}
use Rattle.restored.proofs.Ordered.{Ordered, orderly}
use Rattle.restored.proofs.Opened.{ordered}
use Rattle.restored.proofs.Entered.{report_ordered, order_ordered, goods_ordered}
use Rattle.restored.proofs.Given.{all_given}
use Rattle.restored.proofs.BookedBytes.{bookings_bytes}
use Rattle.restored.proofs.Restored.{load_of_save}

-- a record that fits, entered, keeps the book so
module _ (s roster : List ℕ) (b : Lent) (i n : ℕ) (o : Ordered b) where
  -- an order
  order_entered : Fitting Order s n → FitPassed Order s roster b i → Ordered (lent_after Order s b i)
  unfolding lent_after line_after no_copies book_judged
  order_entered fit e =
      let q = order_fits b i (school_in Order s) (copies_in Order s) e.ceiling (find_line b (line_key Order s)) e.judged_fit in
      let ne = eqb-false (copies_in Order s).0 0 e.copies in
      let d = q.1.1.1 in
      rw d (order_ordered b (line_key Order s) (article_in Order s) (copies_in Order s) o (order_key s n fit) (order_named s n fit) (omega arith) (order_copies s n fit) q.0 q.1.1.0 (order_named_kept s n fit e.referenced))

  -- a delivery
  goods_entered : Fitting Goods s n → FitPassed Goods s roster b i → Ordered (lent_after Goods s b i)
  unfolding lent_after line_after no_copies book_judged used_slips
  goods_entered fit e =
      let q = delivery_fits b i (line_key Goods s) (copies_in Goods s) (find_slip b (slip_key s)) e.judged_fit in
      let ne = eqb-false (copies_in Goods s).0 0 e.copies in
      goods_ordered b (line_key Goods s) (slip_key s) (copies_in Goods s) i o (slip_key_width_law s n fit) (omega arith) (goods_copies s n fit) q.0 q.1.0 q.1.1.0 q.1.1.1 (slip_key_kept s n fit e.something) (goods_parties s n fit)

  -- a report
  report_entered : Fitting Report s n → FitPassed Report s roster b i → Ordered (lent_after Report s b i)
  unfolding lent_after book_judged
  report_entered fit e = report_ordered b (line_key Report s) s n i o fit (report_fits_law b i (find_line b (line_key Report s)) e.judged_fit)

  -- a record of any kind; a closing record enters nothing
  kind_entered : (k : Kind) → Fitting k s n → FitPassed k s roster b i → Ordered (lent_after k s b i)
  unfolding lent_after
  kind_entered Order fit e = order_entered fit e
  kind_entered Goods fit e = goods_entered fit e
  kind_entered Closing fit e = o
  kind_entered Report fit e = report_entered fit e

-- bookings keep an orderly book so
pub stays_orderly : StaysOrderly
stays_orderly g records o two =
    let b : Lent = (give_all g records).book in
    let kept : Ordered b = all_given Ordered (λ k s roster b i n f q o. kind_entered s roster b i n o k f (fit_passed k s roster b i q)) records g (ordered g.book o two) in
    (orderly b kept, kept.kept.counts)

-- a sound book with no used entries is orderly
fresh_orderly : (lines slips : List ℕ) → sound (fresh lines slips).book ≡ true → Orderly (fresh lines slips).book
unfolding used_lines used_slips entries_kept lines_kept slips_kept sums_kept all_from
fresh_orderly lines slips e = record { is_sound = e; entries = refl; sums = λ i h. absurd (omega arith) }

-- so a book made by bookings is
pub bookings_orderly : BookingsOrderly
bookings_orderly lines slips records e = (stays_orderly (fresh lines slips) records (fresh_orderly lines slips e) refl).0

-- a save of a sound book is done where the output is large enough
save_done : (b : Lent) (out : List ℕ) → sound b ≡ true → saved_width New (used_lines b) (used_slips b) ≤ length out → (save b out).said.answer ≡ 0
unfolding save saved_as
save_done b out e h = rw (e, le-leb (saved_width New (used_lines b) (used_slips b)) (length out) h)

-- the save of a book made by bookings loads, and gives the same book
pub book_survives : BookSurvives
book_survives lines slips records c out e bytes holds room =
    let b : Lent = book_of lines slips records in
    let o : Orderly b = bookings_orderly lines slips records e in
    load_of_save b c out o (bookings_bytes lines slips records bytes) holds (save_done b out o.is_sound room)
