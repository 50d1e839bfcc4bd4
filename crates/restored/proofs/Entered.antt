-- A record entered keeps what bookings keep of a book.
use mathlib.Core.Path.{◌≡◌, ◌∙◌, sym, refl}
use mathlib.Core.Bool.{true, false}
use mathlib.Core.Logic.{◌≢◌}
use mathlib.Core.List.{List, ◌++◌}
use Prim.Native.Nat.{ℕ, suc, ◌+◌, ◌*◌, ◌≤◌, ◌<◌}
use native.Mathlib.Nat.{zero-add}
use native.Mathlib.Omega.{arith}
use borrow.Author.Tests.{eqb-true, eqb-false, eq-eqb, ne_eqb, le-leb}
use lib.Dec.{eqb}
use lib.ListN.{length}
use Rattle.cells.specs.Bytes.{pick, same}
use Rattle.cells.specs.Search.{sum_from}
use Rattle.cells.proofs.Bools.{split}
use Rattle.rules.specs.declared.amount.Copies.{Copies}
use Rattle.record.specs.declared.layout.Kind.TheVariants.{Report}
use Rattle.reader.proofs.Fitting.{Fitting}
use Rattle.entry.specs.Line.{new_line, with_report, with_arrivals}
use Rattle.entry.specs.Stored.{key_width, ordered_at, slip_width, slip_key_width, most_copies, most_arrived, line_at, put_arrived, put_report, add_line, key_at, key_is, slip_key_at, slip_is, slip_line_at, add_slip}
use Rattle.entry.proofs.Kept.{Changed, other_line, same_key, arrived_changed, report_changed, add_back, add_named, add_key, add_apart, add_named_apart, add_key_apart, slip_key_law, slip_line, slip_copies_law, slip_key_apart, slip_line_apart, slip_copies_apart}
use Rattle.book.specs.Lent.{Lent, used_lines, used_slips, line_room, slip_room, find_line, find_slip}
use Rattle.book.specs.Booking.{slip_fields, mark_in, message_in, date_in}
use Rattle.book.proofs.Fields.{report_date}
use Rattle.std.specs.Prelude.{None, Some}
use Rattle.cells.proofs.Searches.{none_at, sum_same, sum_more, sum_none}
use Rattle.book.proofs.Sounds.{sound_so}
use Rattle.balance.proofs.Found.{line_used}
use Rattle.balance.proofs.Entered.{with_lines, put_kept, more_line, next, lines_after, slips_after, add_kept, more_slip, slip_next, lines_as_before, one_slip_more, slip_kept_law}
use Rattle.balance.proofs.Followed.{line_arrived, line_arrived_sound, line_reported, line_reported_sound}
use Rattle.save.specs.Entries.{reference_at, slip_number_at, line_fields, fields_kept, parties_agree}
use Rattle.restored.proofs.Ordered.{booked_on, Ordered}

-- no line is found with a key: it is no used line's
line_is_new : (b : Lent) (key : List ℕ) → find_line b key ≡ None → (x : ℕ) → x < used_lines b → same (key_at b.lines x) key ≡ false
unfolding find_line key_is
line_is_new b key e x h = none_at (key_is b.lines key) (used_lines b) 0 x e (omega arith) (omega arith)

-- no slip is found with a key: it is no used slip's
slip_is_new : (b : Lent) (key : List ℕ) → find_slip b key ≡ None → (x : ℕ) → x < used_slips b → same (slip_key_at b.slips x) key ≡ false
unfolding find_slip slip_is
slip_is_new b key e x h = none_at (slip_is b.slips key) (used_slips b) 0 x e (omega arith) (omega arith)

-- a report is entered: what it says is set in its line
module _ (b : Lent) (key s : List ℕ) (n i : ℕ) (o : Ordered b) (fit : Fitting Report s n) (f : find_line b key ≡ Some i) where
  pub report_ordered : Ordered (with_lines b (put_report b.lines i (mark_in s) (message_in s) (date_in s)))
  unfolding used_lines used_slips with_report
  report_ordered =
      let ls : List ℕ = put_report b.lines i (mark_in s) (message_in s) (date_in s) in
      let used : i < used_lines b = (line_used b key i f).0 in
      let c : Changed ls b.lines i = report_changed b.lines i _ _ _ (report_date s n fit) in
      let here = line_reported b s n i o.kept fit used in
      record {
        kept = put_kept b i ls c o.kept (line_reported_sound b s n i o.kept fit used);
        line_rules = λ x h. rw (c.named x) (o.line_rules x h);
        line_new = λ e x g h. rw (same_key c e, same_key c x) (o.line_new e x g h);
        slip_rules = o.slip_rules;
        slip_copies_law = o.slip_copies_law;
        slip_parties = λ j h. rw (same_key c (slip_line_at b.slips j)) (o.slip_parties j h);
        slip_new = o.slip_new;
        sums = λ x h. split (eqb x i)
            (λ e. let d = eqb-true x i e in rw (d, here) (o.sums i used))
            (λ e. rw (other_line c x (eqb-false x i e)) (o.sums x h));
      }

-- an order is entered: a line is added
module _ (b : Lent) (key article : List ℕ) (copies : Copies) (o : Ordered b) (wide : length key ≡ key_width) (whole : length (key ++ article) ≡ ordered_at) (least : 1 ≤ copies.0) (most : copies.0 ≤ most_copies) where
  pub order_ordered : find_line b key ≡ None → used_lines b < line_room b → fields_kept line_fields reference_at (key ++ article) ≡ true → Ordered (more_line b (key ++ article) copies)
  unfolding new_line booked_on
  order_ordered f room rules =
      let n : ℕ = used_lines b in
      let ls : List ℕ = b.lines in
      let k = o.kept in
      let names : List ℕ = key ++ article in
      let fits = next b key article copies k room wide whole least most in
      let more : used_lines (more_line b names copies) ≡ suc n = lines_after b key article copies k room wide whole least most in
      let slips : used_slips (more_line b names copies) ≡ used_slips b = slips_after b key article copies k room wide whole least most in
      let own : key_at (add_line ls n names copies) n ≡ key = add_key ls n key article copies wide whole fits in
      let apart : (x : ℕ) → x ≢ n → key_at (add_line ls n names copies) x ≡ key_at ls x = add_key_apart ls n names copies whole in
      let lined = (sound_so b k.is_sound).slip_names in
      record {
        kept = add_kept b key article copies k room wide whole least most;
        line_rules = λ x h. split (eqb x n)
            (λ e. let d = eqb-true x n e in rw (d, add_named ls n names copies whole fits) rules)
            (λ e. let ne = eqb-false x n e in rw (add_named_apart ls n names copies whole x ne) (o.line_rules x (omega (arith, more))));
        line_new = λ e x g h. split (eqb x n)
            (λ t. let d = eqb-true x n t in rw (d, own, apart e (λ q. omega arith)) (line_is_new b key f e (omega arith)))
            (λ t. let ne = eqb-false x n t in rw (apart x ne, apart e (λ q. omega (arith, more))) (o.line_new e x g (omega (arith, more))));
        slip_rules = λ j h. o.slip_rules j (omega (arith, slips));
        slip_copies_law = λ j h. o.slip_copies_law j (omega (arith, slips));
        slip_parties = λ j h.
            let u : j < used_slips b = omega (arith, slips) in
            rw (apart (slip_line_at b.slips j) (λ q. omega (arith, lined j u))) (o.slip_parties j u);
        slip_new = λ e j g h. o.slip_new e j g (omega (arith, slips));
        sums = λ x h. split (eqb x n)
            (λ e.
            let d = eqb-true x n e in
            rw (d, slips, add_back ls n names copies whole fits (omega arith))
            (sym (sum_none (booked_on b.slips n) (used_slips b) 0
            (λ j a c. rw (ne_eqb (slip_line_at b.slips j) n (λ q. omega (arith, lined j (omega arith))))))))
            (λ e. let ne = eqb-false x n e in rw (slips, add_apart ls n names copies whole x ne) (o.sums x (omega (arith, more))));
      }

-- the copies that slips have on a line, with one slip more
module _ (ss : List ℕ) (m : ℕ) (key : List ℕ) (i : ℕ) (copies : Copies) (x : ℕ) (wide : length key ≡ slip_key_width) (fits : slip_width * m + slip_width ≤ length ss) (few : copies.0 < 65536) (low : i < 65536) where
  sum_after : sum_from (booked_on (add_slip ss m key i copies) x) (suc m) 0 ≡ sum_from (booked_on ss x) m 0 + pick (eqb i x) copies.0 0
  unfolding booked_on
  sum_after =
      let after : ℕ → ℕ = booked_on (add_slip ss m key i copies) x in
      let before : sum_from after m 0 ≡ sum_from (booked_on ss x) m 0 =
      sum_same after (booked_on ss x) m 0
      (λ j a c.
      let ne : j ≢ m = λ q. omega arith in
      rw (slip_line_apart ss m key i copies wide j ne, slip_copies_apart ss m key i copies wide j ne)) in
      let last : after m ≡ pick (eqb i x) copies.0 0 = rw (slip_line ss m key i copies wide fits low, slip_copies_law ss m key i copies wide fits few) in
      sum_more after m 0 ∙ rw (zero-add m, before, last)

-- a delivery is entered: a slip is added, and its copies to its line
module _ (b : Lent) (key slip : List ℕ) (copies : Copies) (i : ℕ) (o : Ordered b) (wide : length slip ≡ slip_key_width) (least : 1 ≤ copies.0) (few : copies.0 ≤ most_copies) where
  pub goods_ordered : find_slip b slip ≡ None → find_line b key ≡ Some i → (line_at b.lines i).arrived.0 + copies.0 ≤ most_arrived → used_slips b < slip_room b
      → fields_kept slip_fields slip_number_at slip ≡ true → parties_agree slip key ≡ true
      → Ordered (more_slip (with_lines b (put_arrived b.lines i (with_arrivals copies (line_at b.lines i)).arrived)) slip i copies)
  unfolding used_lines used_slips slip_room with_arrivals
  goods_ordered f g most room rules agree =
      let m : ℕ = used_slips b in
      let ss : List ℕ = b.slips in
      let ls : List ℕ = put_arrived b.lines i (with_arrivals copies (line_at b.lines i)).arrived in
      let c : Lent = with_lines b ls in
      let changed : Changed ls b.lines i = arrived_changed b.lines i _ in
      let used : i < used_lines b = (line_used b key i g).0 in
      let own : key_at b.lines i ≡ key = (line_used b key i g).1 in
      let k = put_kept b i ls changed o.kept (line_arrived_sound b o.kept i used copies most) in
      let here = line_arrived b o.kept i used copies most in
      let fits : slip_width * m + slip_width ≤ length ss = slip_next c slip i copies k room wide used (omega arith) in
      let lines : used_lines (more_slip c slip i copies) ≡ used_lines b = lines_as_before c slip i copies k room wide used (omega arith) in
      let more : used_slips (more_slip c slip i copies) ≡ suc m = one_slip_more c slip i copies k room wide used (omega arith) in
      let low : i < 65536 = omega (arith, sound_so b o.kept.is_sound) in
      let new : slip_key_at (add_slip ss m slip i copies) m ≡ slip = slip_key_law ss m slip i copies wide fits in
      let apart : (x : ℕ) → x ≢ m → slip_key_at (add_slip ss m slip i copies) x ≡ slip_key_at ss x = slip_key_apart ss m slip i copies wide in
      record {
        kept = slip_kept_law c slip i copies k room wide used (omega arith);
        line_rules = λ x h. rw (changed.named x) (o.line_rules x (omega (arith, lines)));
        line_new = λ e x u h. rw (same_key changed e, same_key changed x) (o.line_new e x u (omega (arith, lines)));
        slip_rules = λ j h. split (eqb j m)
            (λ e. let d = eqb-true j m e in rw (d, new) rules)
            (λ e. let ne = eqb-false j m e in rw (apart j ne) (o.slip_rules j (omega (arith, more))));
        slip_copies_law = λ j h. split (eqb j m)
            (λ e. let d = eqb-true j m e in rw (d, slip_copies_law ss m slip i copies wide fits (omega arith), le-leb 1 copies.0 least, le-leb copies.0 most_copies few))
            (λ e. let ne = eqb-false j m e in rw (slip_copies_apart ss m slip i copies wide j ne) (o.slip_copies_law j (omega (arith, more))));
        slip_parties = λ j h. split (eqb j m)
            (λ e. let d = eqb-true j m e in rw (d, new, slip_line ss m slip i copies wide fits low, same_key changed i, own) agree)
            (λ e.
            let ne = eqb-false j m e in
            rw (apart j ne, slip_line_apart ss m slip i copies wide j ne, same_key changed (slip_line_at ss j)) (o.slip_parties j (omega (arith, more))));
        slip_new = λ e j u h. split (eqb j m)
            (λ t. let d = eqb-true j m t in rw (d, new, apart e (λ q. omega arith)) (slip_is_new b slip f e (omega arith)))
            (λ t. let ne = eqb-false j m t in rw (apart j ne, apart e (λ q. omega (arith, more))) (o.slip_new e j u (omega (arith, more))));
        sums = λ x h.
            let sum = sum_after ss m slip i copies x wide fits (omega arith) low in
            split (eqb x i)
            (λ e. let d = eqb-true x i e in rw (more, sum, d, here, eq-eqb i i refl, o.sums i used))
            (λ e.
            let ne = eqb-false x i e in
            rw (more, sum, other_line changed x ne, ne_eqb i x (λ q. ne (sym q)), o.sums x (omega (arith, lines))) (omega arith));
      }
