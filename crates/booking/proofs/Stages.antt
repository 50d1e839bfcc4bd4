-- Where a record that fits is entered, kind by kind.
use mathlib.Core.Path.{◌≡◌, ◌∙◌, ap, sym, refl}
use mathlib.Core.Bool.{Bool, true, false, ◌&&◌}
use mathlib.Core.List.{List}
use Prim.Native.Nat.{ℕ, ◌+◌, ◌≤◌, ◌<◌}
use native.Mathlib.Omega.{arith}
use borrow.Author.Tests.{ltb-true, leb-true}
use lib.Dec.{ltb, leb, eqb}
use Rattle.cells.specs.Bytes.{pick}
use Rattle.roster.specs.Roster.{standing}
use Rattle.std.specs.Prelude.{Err, None, Ok, Option, Some}
use Rattle.record.specs.declared.layout.Kind.{Kind}
use Rattle.record.specs.declared.layout.Kind.TheVariants.{Order, Goods, Closing, Report}
use Rattle.entry.specs.Stored.{most_arrived, line_at, key_is, slip_line_at, slip_copies_at}
use Rattle.book.specs.Lent.{Lent, used_lines, used_slips, line_room, slip_room, sound, find_line, find_slip, open_copies}
use Rattle.book.specs.Booking.{line_key, slip_key, school_in, copies_in, nothing_to_book, no_copies, no_reference, new_line_judged, order_judged, slip_judged, arrival_judged, goods_judged, delivery_judged, report_judged, book_judged, on_roster, fit_judged, outcome, not_booked, settled, book_as}
use Rattle.book.specs.declared.answer.Refused.{Refused}
use Rattle.book.specs.declared.answer.Refused.TheVariants.{NothingToBook, NoCopies, NoReference, SlipBooked, SlipDiffers}
use Rattle.book.specs.Verdicts.{Verdict}
use Rattle.booking.specs.Fits.{Fits}

pub closing_so : (s roster : List ℕ) (b : Lent) → book_as Closing s roster b ≡ outcome (not_booked NothingToBook) b
unfolding book_as settled fit_judged nothing_to_book
closing_so s roster b = refl

-- a verdict that fits past tests that would refuse
past : (t : Bool) (r : Refused) (v : Verdict) (i : ℕ) → pick t (Err r) v ≡ Ok i → v ≡ Ok i
past true r v i e = let z : ◌≡◌ {A = ℕ} 0 1 = cc in absurd (omega arith)
past false r v i e = e

passed : (t : Bool) (r : Refused) (v : Verdict) (i : ℕ) → pick t v (Err r) ≡ Ok i → (t ≡ true) × (v ≡ Ok i)
passed true r v i e = (refl, e)
passed false r v i e = let z : ◌≡◌ {A = ℕ} 0 1 = cc in absurd (omega arith)

-- a record that fits has a school on the roster, and fits the book
pub judged_fits : (k : Kind) (s roster : List ℕ) (b : Lent) (i : ℕ) → sound b ≡ true → fit_judged k s roster b ≡ Ok i → Fits k s b i
unfolding fit_judged
judged_fits k s roster b i h e =
    let v : Verdict = on_roster k s b (standing roster (school_in k s)) in
    go (standing roster (school_in k s))
    (past (no_reference k s) NoReference v i
    (past (no_copies k s) NoCopies (pick (no_reference k s) (Err NoReference) v) i
    (past (nothing_to_book k s) NothingToBook _ i e)))
  where
    go : (t : Option ℕ) → on_roster k s b t ≡ Ok i → Fits k s b i
    go None q = unfold on_roster in let z : ◌≡◌ {A = ℕ} 0 1 = cc in absurd (omega arith)
    go (Some ceiling) q = unfold on_roster in record { is_sound = h; ceiling = ceiling; fits = q }

-- an order fits at the first unused line
pub record OrderFits (b : Lent) (i : ℕ) : Type 0 where
  pub next : i ≡ used_lines b
  pub room : used_lines b < line_room b

pub order_fits : (s : List ℕ) (b : Lent) (i : ℕ) → Fits Order s b i → OrderFits b i
unfolding book_judged order_judged new_line_judged
order_fits s b i q =
    go q.ceiling (find_line b (line_key Order s)) q.fits
  where
    go : (ceiling : ℕ) (f : Option ℕ) → order_judged b (school_in Order s) (copies_in Order s) ceiling f ≡ Ok i → OrderFits b i
    go ceiling (Some j) q = let z : ◌≡◌ {A = ℕ} 0 1 = cc in absurd (omega arith)
    go ceiling None q =
        let below = passed (leb (open_copies b (school_in Order s) + (copies_in Order s).0) ceiling) _ _ i q in
        let p = passed (ltb (used_lines b) (line_room b)) _ (Ok (used_lines b)) i below.1 in
        let same : Ok (used_lines b) ≡ Ok i = p.1 in
        let n : i ≡ used_lines b = cc in
        record { next = n; room = ltb-true _ _ p.0 }

-- a slip key that is booked never fits
never : (t : Bool) (r q : Refused) (i : ℕ) → pick t (Err r) (Err q) ≡ Ok i → ⊥
never true r q i e = let z : ◌≡◌ {A = ℕ} 0 1 = cc in omega arith
never false r q i e = let z : ◌≡◌ {A = ℕ} 0 1 = cc in omega arith

-- a delivery fits at its line, with room for its slip and within the limit
pub record GoodsFits (s : List ℕ) (b : Lent) (i : ℕ) : Type 0 where
  pub found : find_line b (line_key Goods s) ≡ Some i
  pub fresh : find_slip b (slip_key s) ≡ None
  pub room : used_slips b < slip_room b
  pub within : (line_at b.lines i).arrived.0 + (copies_in Goods s).0 ≤ most_arrived

pub goods_fits : (s : List ℕ) (b : Lent) (i : ℕ) → Fits Goods s b i → GoodsFits s b i
unfolding book_judged delivery_judged goods_judged arrival_judged slip_judged
goods_fits s b i q = go (find_slip b (slip_key s)) refl q.fits
  where
    in_line : find_slip b (slip_key s) ≡ None → (f : Option ℕ) → find_line b (line_key Goods s) ≡ f → goods_judged b (copies_in Goods s) f ≡ Ok i → GoodsFits s b i
    in_line n None g q = let z : ◌≡◌ {A = ℕ} 0 1 = cc in absurd (omega arith)
    in_line n (Some j) g q =
        let p = passed (leb ((line_at b.lines j).arrived.0 + (copies_in Goods s).0) most_arrived) _ _ i q in
        let r = passed (ltb (used_slips b) (slip_room b)) _ (Ok j) i p.1 in
        let same : Ok j ≡ Ok i = r.1 in
        let at : j ≡ i = cc in
        record {
          found = g ∙ ap Some at;
          fresh = n;
          room = ltb-true _ _ r.0;
          within = leb-true ((line_at b.lines i).arrived.0 + (copies_in Goods s).0) most_arrived (ap (λ (m : ℕ). leb ((line_at b.lines m).arrived.0 + (copies_in Goods s).0) most_arrived) (sym at) ∙ p.0);
        }

    go : (f : Option ℕ) → find_slip b (slip_key s) ≡ f → delivery_judged b (line_key Goods s) (copies_in Goods s) f ≡ Ok i → GoodsFits s b i
    go (Some j) g q = absurd (never (key_is b.lines (line_key Goods s) (slip_line_at b.slips j) && eqb (slip_copies_at b.slips j).0 (copies_in Goods s).0) SlipBooked SlipDiffers i q)
    go None g q = in_line g (find_line b (line_key Goods s)) refl q

-- a report fits at its line
pub report_fits_law : (s : List ℕ) (b : Lent) (i : ℕ) → Fits Report s b i → find_line b (line_key Report s) ≡ Some i
unfolding book_judged report_judged
report_fits_law s b i q = go (find_line b (line_key Report s)) refl q.fits
  where
    go : (f : Option ℕ) → find_line b (line_key Report s) ≡ f → report_judged f ≡ Ok i → find_line b (line_key Report s) ≡ Some i
    go None g q = let z : ◌≡◌ {A = ℕ} 0 1 = cc in absurd (omega arith)
    go (Some j) g q = let at : j ≡ i = cc in g ∙ ap Some at
