-- Where a record that fits is entered, there is room.
use mathlib.Core.Path.{◌≡◌}
use mathlib.Core.List.{List}
use Prim.Native.Nat.{ℕ, ◌+◌, ◌*◌, ◌≤◌, ◌<◌}
use native.Mathlib.Omega.{arith}
use lib.ListN.{length, get_or}
use Rattle.record.specs.Layout.{fixed_width, kind_of}
use Rattle.record.specs.Read.{judged}
use Rattle.std.specs.Prelude.{Ok, Some}
use Rattle.record.specs.declared.layout.Kind.{Kind}
use Rattle.record.specs.declared.layout.Kind.TheVariants.{Order, Goods, Closing, Report}
use Rattle.reader.proofs.Fitting.{Fitting, fitting, fits_wide}
use Rattle.entry.specs.Stored.{line_width, slip_width, most_copies, most_arrived, line_at}
use Rattle.book.specs.Lent.{Lent, used_lines, used_slips}
use Rattle.book.specs.Booking.{line_key, copies_in}
use Rattle.book.proofs.Fields.{order_copies, goods_copies}
use Rattle.book.proofs.Sounds.{sound_so}
use Rattle.book.proofs.Finds.{line_stands}
use Rattle.booking.specs.Fits.{Fits}
use Rattle.booking.proofs.Stages.{order_fits, goods_fits, report_fits_law}

-- a record that fits has its room in a sound book
module _ (s : List ℕ) (b : Lent) (i : ℕ) where
  pub order_room : Fits Order s b i → (line_width * i + line_width ≤ length b.lines) × (get_or b.used 0 0 < 512)
  unfolding used_lines
  order_room q =
      let f = order_fits s b i q in
      let h = sound_so b q.is_sound in
      (omega (arith, f.next, f.room, h.lines_room), omega (arith, f.room, h.lines_most))

  pub goods_room : Fits Goods s b i
      → (line_width * i + line_width ≤ length b.lines) × (slip_width * get_or b.used 1 0 + slip_width ≤ length b.slips) × (get_or b.used 1 0 < 1024) × ((line_at b.lines i).arrived.0 + (copies_in Goods s).0 ≤ most_arrived)
  unfolding used_slips
  goods_room q =
      let f = goods_fits s b i q in
      let h = sound_so b q.is_sound in (
        (line_stands b q.is_sound (line_key Goods s) i f.found).0,
        omega (arith, f.room, h.slips_room),
        omega (arith, f.room, h.slips_most),
        f.within,
      )

  pub report_room : Fits Report s b i → line_width * i + line_width ≤ length b.lines
  report_room q = (line_stands b q.is_sound (line_key Report s) i (report_fits_law s b i q)).0

-- a record that is read holds its fixed part, and its quantity has at most four digits
few : (k : Kind) (s : List ℕ) (n : ℕ) → Fitting k s n → (copies_in k s).0 ≤ most_copies
unfolding copies_in
few Order s n f = order_copies s n f
few Goods s n f = goods_copies s n f
few Closing s n f = omega arith
few Report s n f = omega arith

pub fixed_wide : (k : Kind) (s : List ℕ) (n : ℕ) → kind_of s ≡ Some k → judged s ≡ Ok n → fixed_width k ≤ length s
fixed_wide k s n g e = omega (arith, fits_wide k s n g e)

pub read_so : (k : Kind) (s : List ℕ) (n : ℕ) → kind_of s ≡ Some k → judged s ≡ Ok n → (fixed_width k ≤ length s) × ((copies_in k s).0 ≤ most_copies)
read_so k s n g e = (fixed_wide k s n g e, few k s n (fitting k s n g e))
