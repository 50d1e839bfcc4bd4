-- A record that answers 0 is accepted by the book that the bytes tell, and the bytes afterwards tell that book with the record entered.
use mathlib.Core.Path.{◌≡◌, ◌∙◌, ap, ap₂, sym, refl}
use mathlib.Core.Bool.{Bool, true, false, ◌&&◌}
use mathlib.Core.Option.{some}
use mathlib.Core.List.{List, [], ◌∷◌, ◌++◌}
use Prim.Native.Nat.{ℕ, ◌+◌, ◌≤◌, ◌<◌}
use native.Mathlib.Omega.{arith}
use lib.Dec.{leb, ltb, eqb}
use lib.ListN.{length}
use borrow.Author.Tests.{ltb-true, leb-true, eqb-false}
use Rattle.cells.specs.Bytes.{pick, bytes, same}
use Rattle.cells.proofs.Bools.{split}
use Rattle.rules.specs.declared.amount.Copies.{Copies}
use Rattle.record.specs.Values.{field_bytes}
use Rattle.record.specs.declared.layout.Kind.{Kind}
use Rattle.record.specs.declared.layout.Kind.TheVariants.{Order, Goods, Closing, Report}
use Rattle.reader.proofs.Fitting.{Fitting, fitting}
use Rattle.rules.specs.Values.{expected_of}
use Rattle.entry.specs.Line.{new_line, with_report, with_arrivals}
use Rattle.entry.specs.Stored.{key_width, ordered_at, slip_key_width, most_copies, most_arrived, line_at, put_arrived, put_report, key_is, line_sound, slip_line_at, slip_copies_at}
use Rattle.entry.proofs.Sound.{arrived_sound, reported_sound}
use Rattle.entry.proofs.Kept.{Changed, same_key, arrived_changed, arrived_date, arrived_back, report_changed, report_date as date-back, report_back}
use Rattle.roster.specs.Roster.{standing}
use Rattle.std.specs.Prelude.{Err, None, Ok, Option, Some}
use Rattle.ledger.specs.Book.{Key, school_of, Report as Telling, Line, Slip}
use Rattle.ledger.specs.Booking.{Fit, order as ordering, goods as arriving, report as telling, done, judge, arrive, tell, change_line, enter}
use Rattle.book.specs.Lent.{Lent, used_lines, used_slips, line_room, slip_room, find_line, find_slip, open_copies}
use Rattle.book.specs.Booking.{line_key, article_in, slip_key, school_in, copies_in, mark_in, message_in, date_in, nothing_to_book, no_copies, no_reference, new_line_judged, order_judged, slip_judged, arrival_judged, goods_judged, delivery_judged, report_judged, book_judged, on_roster, fit_judged, line_after, lent_after}
use Rattle.balance.specs.Met.{Met}
use Rattle.balance.specs.Calls.{book_call}
use Rattle.balance.specs.Told.{known_number, report_of, line_told, told, rooms_of, hold_of, ceiling_in, fit_as, fit_kind, fit_of}
use Rattle.book.specs.declared.answer.Refused.{Refused}
use Rattle.book.specs.declared.answer.Refused.TheVariants.{SlipBooked, SlipDiffers}
use Rattle.book.specs.Verdicts.{Verdict}
use Rattle.book.proofs.Sounds.{sound_so}
use Rattle.balance.proofs.Listings.{change_listed}
use Rattle.balance.proofs.Soundness.{Kept}
use Rattle.book.proofs.Fields.{order_key, order_named, slip_key_width_law, order_copies, goods_copies, report_date, report_small, report_number, report_goes}
use Rattle.balance.proofs.Accepted.{Accepts}
use Rattle.balance.proofs.Entered.{line_of, at, with_lines, put_here, put_other, put_slips, put_rooms, put_kept, more_line, add_lines, add_slips, add_rooms, add_kept, more_slip, slip_lines, slip_slips, slip_rooms, slip_kept_law}
use Rattle.balance.proofs.Found.{key_told, line_used, goods_passes, report_passes}
use Rattle.balance.proofs.Keys.{school_heads}
use Rattle.balance.proofs.Opens.{order_passes}

-- a verdict that fits after a test that refuses: the test does not hold, and the rest fits
pub passed : (t : Bool) (r : Refused) (v : Verdict) (i : ℕ) → pick t (Err r) v ≡ Ok i → (t ≡ false) × (v ≡ Ok i)
passed true r v i e = let z : ◌≡◌ {A = ℕ} 0 1 = cc in absurd (omega arith)
passed false r v i e = (refl, e)

-- a verdict that fits by a test that lets pass
let_pass : (t : Bool) (v : Verdict) (r : Refused) (i : ℕ) → pick t v (Err r) ≡ Ok i → (t ≡ true) × (v ≡ Ok i)
let_pass true v r i e = (refl, e)
let_pass false v r i e = let z : ◌≡◌ {A = ℕ} 0 1 = cc in absurd (omega arith)

-- a record that fits has something to book, copies and a reference, a school on the roster, and fits the book
pub record FitPassed (k : Kind) (s roster : List ℕ) (b : Lent) (i : ℕ) : Type 0 where
  pub something : nothing_to_book k s ≡ false
  pub copies : no_copies k s ≡ false
  pub referenced : no_reference k s ≡ false
  pub ceiling : ℕ
  pub is_on_roster : standing roster (school_in k s) ≡ Some ceiling
  pub judged_fit : book_judged k s ceiling b ≡ Ok i

pub fit_passed : (k : Kind) (s roster : List ℕ) (b : Lent) (i : ℕ) → fit_judged k s roster b ≡ Ok i → FitPassed k s roster b i
unfolding fit_judged
fit_passed k s roster b i e =
    let one = passed (nothing_to_book k s) _ _ i e in
    let two = passed (no_copies k s) _ _ i one.1 in
    let three = passed (no_reference k s) _ _ i two.1 in
    go one.0 two.0 three.0 (standing roster (school_in k s)) refl three.1
  where
    go : nothing_to_book k s ≡ false → no_copies k s ≡ false → no_reference k s ≡ false
        → (t : Option ℕ) → standing roster (school_in k s) ≡ t → on_roster k s b t ≡ Ok i → FitPassed k s roster b i
    go one two three None h q = unfold on_roster in let z : ◌≡◌ {A = ℕ} 0 1 = cc in absurd (omega arith)
    go one two three (Some ceiling) h q =
        unfold on_roster in record { something = one; copies = two; referenced = three; ceiling = ceiling; is_on_roster = h; judged_fit = q }

module _ (b : Lent) (i : ℕ) where
  -- an order that fits: no line has its key, its copies keep the ceiling, and there is room for the next line
  pub order_fits : (school : List ℕ) (copies : Copies) (ceiling : ℕ) (f : Option ℕ) → order_judged b school copies ceiling f ≡ Ok i
      → (f ≡ None) × ((open_copies b school + copies.0 ≤ ceiling) × ((used_lines b < line_room b) × (i ≡ used_lines b)))
  unfolding order_judged new_line_judged
  order_fits school copies ceiling (Some j) e = let z : ◌≡◌ {A = ℕ} 0 1 = cc in absurd (omega arith)
  order_fits school copies ceiling None e =
      let n : ℕ = open_copies b school + copies.0 in
      let below = let_pass (leb n ceiling) _ _ i e in
      let p = let_pass (ltb (used_lines b) (line_room b)) _ _ i below.1 in
      let q = p.1 in
      (refl, (leb-true n ceiling below.0, (ltb-true (used_lines b) (line_room b) p.0, cc)))

  -- a delivery that fits: no slip has its key, a line has its line key, and there is room for its copies and its slip
  arrival_fits : (copies : Copies) (j : ℕ) → arrival_judged b copies j ≡ Ok i
      → (i ≡ j) × (((line_at b.lines j).arrived.0 + copies.0 ≤ most_arrived) × (used_slips b < slip_room b))
  unfolding arrival_judged
  arrival_fits copies j e =
      let n : ℕ = (line_at b.lines j).arrived.0 + copies.0 in
      let p = let_pass (leb n most_arrived) _ _ i e in
      let q = let_pass (ltb (used_slips b) (slip_room b)) _ _ i p.1 in
      let r = q.1 in
      (cc, (leb-true n most_arrived p.0, ltb-true (used_slips b) (slip_room b) q.0))

  goods_fits : (copies : Copies) (f : Option ℕ) → goods_judged b copies f ≡ Ok i
      → (f ≡ Some i) × (((line_at b.lines i).arrived.0 + copies.0 ≤ most_arrived) × (used_slips b < slip_room b))
  unfolding goods_judged
  goods_fits copies None e = let z : ◌≡◌ {A = ℕ} 0 1 = cc in absurd (omega arith)
  goods_fits copies (Some j) e =
      let p = arrival_fits copies j e in
      let d = p.0 in
      (ap Some (sym d), (rw d p.1.0, p.1.1))

  pub delivery_fits : (key : List ℕ) (copies : Copies) (f : Option ℕ) → delivery_judged b key copies f ≡ Ok i
      → (f ≡ None) × ((find_line b key ≡ Some i) × (((line_at b.lines i).arrived.0 + copies.0 ≤ most_arrived) × (used_slips b < slip_room b)))
  unfolding delivery_judged slip_judged
  delivery_fits key copies (Some j) e =
      let p = let_pass (key_is b.lines key (slip_line_at b.slips j) && eqb (slip_copies_at b.slips j).0 copies.0) (Err SlipBooked) SlipDiffers i e in
      let q = p.1 in
      let z : ◌≡◌ {A = ℕ} 0 1 = cc in absurd (omega arith)
  delivery_fits key copies None e = (refl, goods_fits copies (find_line b key) e)

  -- a report that fits: a line has its key
  pub report_fits_law : (f : Option ℕ) → report_judged f ≡ Ok i → f ≡ Some i
  unfolding report_judged
  report_fits_law None e = let z : ◌≡◌ {A = ℕ} 0 1 = cc in absurd (omega arith)
  report_fits_law (Some j) e = cc

-- the told book accepts the record, is told with it entered, and the lent book stays sound with its rooms
pub record Follows (b : Lent) (r : Fit) (c : Lent) : Type 0 where
  pub allowed : judge (rooms_of b) (told b) r ≡ done
  pub tells : told c ≡ enter (told b) r
  pub kept : Kept c
  pub rooms : rooms_of c ≡ rooms_of b

-- the line with a key changed in the bytes is the first with this key changed in the told book
module _ (b : Lent) (key : Key) (i : ℕ) (ls : List ℕ) (h : Line → Line) (k : Kept b) (f : find_line b key ≡ Some i) (c : Changed ls b.lines i) where
  line_changed : line_told ls i ≡ h (line_told b.lines i) → (told (with_lines b ls)).lines ≡ change_line key h (told b).lines
  unfolding told change_line used_lines find_line
  line_changed e =
      change_listed (λ (l : Line). same key l.key) (key_is b.lines key) (line_told b.lines) (key_told b key) h
      (line_told ls) (used_lines b) 0 i f e (put_other b i ls c k)

-- an order is entered
module _ (b : Lent) (key article : List ℕ) (copies : Copies) (k : Kept b) (wide : length key ≡ key_width) (whole : length (key ++ article) ≡ ordered_at) (least : 1 ≤ copies.0) (most : copies.0 ≤ most_copies) where
  order_entered : (ceiling : ℕ) → find_line b key ≡ None → open_copies b (school_of key) + copies.0 ≤ ceiling → used_lines b < line_room b
      → Follows b (ordering key (record { copies = copies.0; article = article }) ceiling) (more_line b (key ++ article) copies)
  unfolding enter new_line line_of report_of
  order_entered ceiling e below room =
      record {
        allowed = order_passes b key (record { copies = copies.0; article = article }) ceiling e below room;
        tells = λ x. record {
          lines = add_lines b key article copies k room wide whole least most x;
          slips = add_slips b key article copies k room wide whole least most x;
        };
        kept = add_kept b key article copies k room wide whole least most;
        rooms = add_rooms b key article copies k room wide whole least most;
      }

-- a used line with copies that the limit lets pass: it is read back so, told as the told line with them, and sound
module _ (b : Lent) (k : Kept b) (i : ℕ) (used : i < used_lines b) (copies : Copies) (most : (line_at b.lines i).arrived.0 + copies.0 ≤ most_arrived) where
  abbrev pub lines_arrived : List ℕ
  lines_arrived = put_arrived b.lines i (with_arrivals copies (line_at b.lines i)).arrived

  pub line_arrived : line_at lines_arrived i ≡ with_arrivals copies (line_at b.lines i)
  unfolding with_arrivals
  line_arrived = arrived_back b.lines i (with_arrivals copies (line_at b.lines i)).arrived (at b i k used) (omega arith)

  arrived_told : line_told lines_arrived i ≡ arrive copies.0 (line_told b.lines i)
  unfolding line_of with_arrivals arrive line_told
  arrived_told =
      put_here b i lines_arrived (arrived_changed b.lines i _) k
      ∙ rw (line_arrived, arrived_date b.lines i (with_arrivals copies (line_at b.lines i)).arrived) refl

  pub line_arrived_sound : line_sound lines_arrived i ≡ true
  unfolding with_arrivals
  line_arrived_sound =
      arrived_sound b.lines i (at b i k used) (with_arrivals copies (line_at b.lines i)).arrived ((sound_so b k.is_sound).line_sound_law i used) most

-- a delivery is entered
module _ (b : Lent) (key slip : Key) (copies : Copies) (i : ℕ) (k : Kept b) (wide : length slip ≡ slip_key_width) (few : copies.0 ≤ most_copies) where
  goods_entered : find_slip b slip ≡ None → find_line b key ≡ Some i → (most : (line_at b.lines i).arrived.0 + copies.0 ≤ most_arrived) → used_slips b < slip_room b
      → Follows b (arriving key (record { slip = slip; copies = copies.0 }))
      (more_slip (with_lines b (put_arrived b.lines i (with_arrivals copies (line_at b.lines i)).arrived)) slip i copies)
  unfolding enter used_lines used_slips slip_room
  goods_entered e f most room =
      let used = (line_used b key i f).0 in
      let own = (line_used b key i f).1 in
      let ls : List ℕ = put_arrived b.lines i (with_arrivals copies (line_at b.lines i)).arrived in
      let c : Lent = with_lines b ls in
      let changed : Changed ls b.lines i = arrived_changed b.lines i _ in
      let kept = put_kept b i ls changed k (line_arrived_sound b k i used copies most) in
      record {
        allowed = goods_passes b key (record { slip = slip; copies = copies.0 }) i e f most room;
        tells = λ x. record {
          lines = (slip_lines c slip i copies kept room wide used (omega arith) ∙ line_changed b key i ls (arrive copies.0) k f changed (arrived_told b k i used copies most)) x;
          slips = (slip_slips c slip i copies kept room wide used (omega arith)
              ∙ ap₂ (λ (t : List Slip) (line : Key). t ++ (record { line = line; says = record { slip = slip; copies = copies.0 } } ∷ []))
              (put_slips b i ls changed k) (same_key changed i ∙ own)) x;
        };
        kept = slip_kept_law c slip i copies kept room wide used (omega arith);
        rooms = slip_rooms c slip i copies kept room wide used (omega arith) ∙ put_rooms b i ls changed k;
      }

-- what a report's record says, as the last report of its line
abbrev pub said_in : List ℕ → Telling
said_in s = record { hold = hold_of (mark_in s); message = known_number (message_in s); date = date_in s }

-- a report's mark is J or N
pub report_mark : (s : List ℕ) → report_of (mark_in s) (message_in s) (date_in s) ≡ some (said_in s)
unfolding mark_in report_of hold_of
report_mark s = split (same (field_bytes Report 10 s) (bytes "J")) (λ e. rw e) (λ e. rw e)

-- a report is entered
module _ (b : Lent) (s : List ℕ) (n i : ℕ) (k : Kept b) (fit : Fitting Report s n) (used : i < used_lines b) where
  abbrev pub lines_reported : List ℕ
  lines_reported = put_report b.lines i (mark_in s) (message_in s) (date_in s)

  pub line_reported : line_at lines_reported i ≡ with_report (mark_in s) (message_in s) (expected_of (date_in s)) (line_at b.lines i)
  line_reported =
      report_back b.lines i (mark_in s) (message_in s) (date_in s) (report_date s n fit) (at b i k used) (report_small s n fit) (report_number s n fit)

  reported_told_law : line_told lines_reported i ≡ tell (said_in s) (line_told b.lines i)
  unfolding line_of with_report tell line_told
  reported_told_law =
      put_here b i lines_reported (report_changed b.lines i _ _ _ (report_date s n fit)) k
      ∙ rw (line_reported, date-back b.lines i (mark_in s) (message_in s) (date_in s) (report_date s n fit) (at b i k used), report_mark s) refl

  pub line_reported_sound : line_sound lines_reported i ≡ true
  line_reported_sound =
      reported_sound b.lines i (at b i k used) (mark_in s) (message_in s) (date_in s) (report_date s n fit) (report_small s n fit) (report_number s n fit)
      ((sound_so b k.is_sound).line_sound_law i used) (report_goes s n fit)

report_entered : (b : Lent) (key : Key) (s : List ℕ) (n i : ℕ) → Kept b → Fitting Report s n → find_line b key ≡ Some i
    → Follows b (telling key (said_in s)) (with_lines b (put_report b.lines i (mark_in s) (message_in s) (date_in s)))
unfolding enter
report_entered b key s n i k fit f =
    let used = (line_used b key i f).0 in
    let ls : List ℕ = put_report b.lines i (mark_in s) (message_in s) (date_in s) in
    let changed : Changed ls b.lines i = report_changed b.lines i _ _ _ (report_date s n fit) in
    record {
      allowed = report_passes b key (said_in s) i f;
      tells = λ x. record {
        lines = line_changed b key i ls (tell (said_in s)) k f changed (reported_told_law b s n i k fit used) x;
        slips = put_slips b i ls changed k x;
      };
      kept = put_kept b i ls changed k (line_reported_sound b s n i k fit used);
      rooms = put_rooms b i ls changed k;
    }

module _ (s roster : List ℕ) (b : Lent) (i n : ℕ) (k : Kept b) where
  order_follows : Fitting Order s n → fit_judged Order s roster b ≡ Ok i → Follows b (fit_as Order s roster) (lent_after Order s b i)
  unfolding fit_as lent_after line_after no_copies book_judged ceiling_in
  order_follows fit e =
      let p = fit_passed Order s roster b i e in
      let q = order_fits b i (school_in Order s) (copies_in Order s) p.ceiling (find_line b (line_key Order s)) p.judged_fit in
      let ne = eqb-false (copies_in Order s).0 0 p.copies in
      let heads = school_heads s (omega (arith, fit.wide)) in
      let below : open_copies b (school_of (line_key Order s)) + (copies_in Order s).0 ≤ p.ceiling = rw heads at q.1.0 in
      let d = q.1.1.1 in
      rw (d, p.is_on_roster)
      (order_entered b (line_key Order s) (article_in Order s) (copies_in Order s) k (order_key s n fit) (order_named s n fit) (omega arith) (order_copies s n fit) p.ceiling q.0 below q.1.1.0)

  goods_follows : Fitting Goods s n → fit_judged Goods s roster b ≡ Ok i → Follows b (fit_as Goods s roster) (lent_after Goods s b i)
  unfolding fit_as lent_after line_after book_judged used_slips
  goods_follows fit e =
      let p = fit_passed Goods s roster b i e in
      let q = delivery_fits b i (line_key Goods s) (copies_in Goods s) (find_slip b (slip_key s)) p.judged_fit in
      goods_entered b (line_key Goods s) (slip_key s) (copies_in Goods s) i k (slip_key_width_law s n fit) (goods_copies s n fit) q.0 q.1.0 q.1.1.0 q.1.1.1

  report_follows : Fitting Report s n → fit_judged Report s roster b ≡ Ok i → Follows b (fit_as Report s roster) (lent_after Report s b i)
  unfolding fit_as lent_after book_judged
  report_follows fit e =
      let p = fit_passed Report s roster b i e in
      report_entered b (line_key Report s) s n i k fit (report_fits_law b i (find_line b (line_key Report s)) p.judged_fit)

  -- a record of any kind; a closing record never fits
  kind_follows : (j : Kind) → Fitting j s n → fit_judged j s roster b ≡ Ok i → Follows b (fit_as j s roster) (lent_after j s b i)
  kind_follows Order fit e = order_follows fit e
  kind_follows Goods fit e = goods_follows fit e
  kind_follows Closing fit e =
      let p = fit_passed Closing s roster b i e in
      closing_never p.ceiling p.judged_fit
    where
      closing_never : (ceiling : ℕ) → book_judged Closing s ceiling b ≡ Ok i → Follows b (fit_as Closing s roster) (lent_after Closing s b i)
      closing_never ceiling e = unfold book_judged in let z : ◌≡◌ {A = ℕ} 0 1 = cc in absurd (omega arith)
  kind_follows Report fit e = report_follows fit e

-- a record that is accepted
pub follows : (s : Met) (b : Lent) → Kept b → (a : Accepts s b) → Follows b (fit_of s) (book_call s b).lent
unfolding fit_of fit_kind
follows s b k a =
    rw (a.known, a.lent)
    (kind_follows s.given s.roster b a.place a.fields k a.kind (fitting a.kind s.given a.fields a.known a.read) a.fits)
