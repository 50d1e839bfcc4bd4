-- A sound line: what the test says of its values and its last report, and what a line written leaves of it.
use mathlib.Core.Path.{◌≡◌, refl}
use mathlib.Core.Bool.{Bool, true, false, ◌&&◌}
use mathlib.Core.List.{List}
use mathlib.Core.Logic.{◌≢◌}
use Prim.Native.Nat.{ℕ, ◌+◌, ◌*◌, ◌≤◌, ◌<◌}
use native.Mathlib.Omega.{arith}
use lib.Dec.{eqb, leb}
use lib.ListN.{length, get_or}
use borrow.Author.Tests.{leb-true, le-leb, eqb-true, eqb-false, ne_eqb}
use Rattle.cells.specs.Bytes.{within, same}
use Rattle.cells.specs.Little.{le_at}
use Rattle.cells.proofs.Bools.{split, and_left, and_right}
use Rattle.cells.proofs.Lists.{same_true}
use Rattle.rules.specs.Day.{day_width}
use Rattle.rules.specs.Rule.{expected}
use Rattle.rules.specs.declared.amount.Copies.{Copies}
use Rattle.cells.proofs.Stores.{number_ext}
use Rattle.entry.specs.Report.{no_report, message_unknown, most_message, no_mark, least_mark, most_mark, blank_date, message_of, message_number, report_sound}
use Rattle.entry.specs.Line.{mark_of, mark_byte, new_line, with_report, open_of, not_filled, figures_of}
use Rattle.entry.specs.Stored.{line_width, ordered_at, mark_at, message_at, arrived_at, most_copies, most_arrived, line_at, date_at, school_is, open_at, put_arrived, put_report, add_line, line_sound}
use Rattle.entry.specs.declared.line.Mark.{Mark}
use Rattle.entry.specs.declared.line.Mark.TheVariants.{Unmarked, Held, Dropped}
use Rattle.entry.specs.declared.report.Message.{Message}
use Rattle.entry.specs.declared.report.Message.TheVariants.{NoReport}
use Rattle.entry.specs.declared.line.Line.{Line}
use Rattle.entry.proofs.Kept.{SameIn, Changed, date_ext, arrived_mark, arrived_number, arrived_date, arrived_back, report_mark, report_message, report_date, report_back, add_length, add_bytes, add_back, add_reported}

-- Q and A are within their bounds
pub record Bounded (l : Line) : Type 0 where
  pub least : 1 ≤ l.ordered.0
  pub most : l.ordered.0 ≤ most_copies
  pub sum : l.arrived.0 ≤ most_arrived

-- what is asked of a line: of Q, of A, and of what is kept of its last report
abbrev copies_fit : List ℕ → ℕ → Bool
copies_fit ls i = within 1 most_copies (le_at ls (line_width * i + ordered_at) 2)

abbrev fitting_sum : List ℕ → ℕ → Bool
fitting_sum ls i = leb (le_at ls (line_width * i + arrived_at) 4) most_arrived

abbrev pub report_fits : List ℕ → ℕ → Bool
report_fits ls i = report_sound (get_or ls (line_width * i + mark_at) 0) (le_at ls (line_width * i + message_at) 2) (date_at ls i)

-- the values of a sound line are within their bounds, and its last report goes together
module _ (ls : List ℕ) (i : ℕ) (h : line_sound ls i ≡ true) where
  copies_fit_law : copies_fit ls i ≡ true
  unfolding line_sound
  copies_fit_law = and_left (copies_fit ls i) (fitting_sum ls i && report_fits ls i) h

  sum_fits : fitting_sum ls i ≡ true
  unfolding line_sound
  sum_fits = and_left (fitting_sum ls i) (report_fits ls i) (and_right (copies_fit ls i) (fitting_sum ls i && report_fits ls i) h)

  pub report_fits_law : report_fits ls i ≡ true
  unfolding line_sound
  report_fits_law = and_right (fitting_sum ls i) (report_fits ls i) (and_right (copies_fit ls i) (fitting_sum ls i && report_fits ls i) h)

  pub sound_bounded : Bounded (line_at ls i)
  unfolding line_at
  sound_bounded =
      let q : ℕ = le_at ls (line_width * i + ordered_at) 2 in
      record {
        least = leb-true 1 q (and_left (leb 1 q) (leb q most_copies) copies_fit_law);
        most = leb-true q most_copies (and_right (leb 1 q) (leb q most_copies) copies_fit_law);
        sum = leb-true (le_at ls (line_width * i + arrived_at) 4) most_arrived sum_fits;
      }

-- and a line is sound where they are so
fits_sound : (ls : List ℕ) (i : ℕ) → Bounded (line_at ls i) → report_fits ls i ≡ true → line_sound ls i ≡ true
unfolding line_sound line_at
fits_sound ls i b r =
    rw (le-leb 1 _ b.least, le-leb _ most_copies b.most, le-leb _ most_arrived b.sum, r)

-- no more copies are open on a line than were ordered
open_most : (m : Mark) (n : Copies) → (open_of m n).0 ≤ n.0
unfolding open_of
open_most Unmarked n = omega arith
open_most Held n = omega arith
open_most Dropped n = omega arith

-- so on a sound line at most as many as one order may have, whatever school is asked for
pub open_bounded : (ls school : List ℕ) (i : ℕ) → line_sound ls i ≡ true → open_at ls school i ≤ most_copies
unfolding open_at figures_of
open_bounded ls school i h =
    let most = (sound_bounded ls i h).most in
    let low = open_most (line_at ls i).mark (not_filled (line_at ls i)) in
    split (school_is ls school i) (λ e. rw e (omega arith)) (λ e. rw e (omega arith))

-- what a line keeps of its last report, by its mark: none, with eight blanks, or one
unfoldable pub Said : Mark → Message → List ℕ → Type 0
Said Unmarked n date = (n ≡ NoReport) × (date ≡ blank_date)
Said Held n date = n ≢ NoReport
Said Dropped n date = n ≢ NoReport

-- a number that does not say so is of a report
of_report : (n : ℕ) → eqb n no_report ≡ false → message_of n ≢ NoReport
unfolding message_of
of_report n e p =
    split (eqb n message_unknown) (λ u. let q = rw (e, u) at p in let z : ◌≡◌ {A = ℕ} 0 1 = cc in omega arith) (λ u. let q = rw (e, u) at p in let z : ◌≡◌ {A = ℕ} 0 1 = cc in omega arith)

-- what goes together in the bytes says the one or the other
report_said : (mark message : ℕ) (date : List ℕ) → report_sound mark message date ≡ true → Said (mark_of mark) (message_of message) date
unfolding report_sound Said
report_said mark message date h = split (eqb message no_report) none_said some_said
  where
    none_said : eqb message no_report ≡ true → Said (mark_of mark) (message_of message) date
    none_said e =
        let both : eqb mark no_mark && same date blank_date ≡ true = rw e at h in
        let unmarked = eqb-true mark no_mark (and_left (eqb mark no_mark) (same date blank_date) both) in
        rw (unmarked, eqb-true message no_report e) (unfold message_of in refl, same_true date blank_date (and_right (eqb mark no_mark) (same date blank_date) both))

    some_said : eqb message no_report ≡ false → Said (mark_of mark) (message_of message) date
    some_said e =
        let marked : within least_mark most_mark mark ≡ true = and_left (within least_mark most_mark mark) _ (rw e at h) in
        let least = leb-true least_mark mark (and_left (leb least_mark mark) (leb mark most_mark) marked) in
        let most = leb-true mark most_mark (and_right (leb least_mark mark) (leb mark most_mark) marked) in
        split (eqb mark 1) (λ a. rw a (of_report message e))
        (λ a. split (eqb mark 2) (λ b. rw (a, b) (of_report message e)) (λ b. absurd (omega (arith, eqb-false mark 1 a, eqb-false mark 2 b))))

-- so does a sound line
pub sound_said : (ls : List ℕ) (i : ℕ) → line_sound ls i ≡ true → Said (line_at ls i).mark (line_at ls i).message (date_at ls i)
unfolding line_at
sound_said ls i h = report_said _ _ _ (report_fits_law ls i h)

-- a report with a mark, a number and an expected date goes together
pub numbered_sound : (m : Mark) (n : ℕ) (date : List ℕ) → m ≢ Unmarked → n ≤ most_message → expected date ≡ true → report_sound (mark_byte m) n date ≡ true
unfolding report_sound mark_byte
numbered_sound Unmarked n date ne h e = absurd (ne refl)
numbered_sound Held n date ne h e = rw (ne_eqb n no_report (omega arith), ne_eqb n message_unknown (omega arith), le-leb n most_message h, e) refl
numbered_sound Dropped n date ne h e = rw (ne_eqb n no_report (omega arith), ne_eqb n message_unknown (omega arith), le-leb n most_message h, e) refl

-- whether a line is sound is read from its own bytes
sound_ext : (s t : List ℕ) (j : ℕ) → length s ≡ length t → SameIn line_width j s t → line_sound s j ≡ line_sound t j
unfolding line_sound
sound_ext s t j n b =
    rw (number_ext s t line_width j b ordered_at 2 (omega arith), number_ext s t line_width j b arrived_at 4 (omega arith), b mark_at (omega arith), number_ext s t line_width j b message_at 2 (omega arith), date_ext s t j n b)

-- every line stays as it was but the one that changed
pub other_sound : {ls before : List ℕ} {i : ℕ} → Changed ls before i → (j : ℕ) → j ≢ i → line_sound ls j ≡ line_sound before j
other_sound {ls} {before} c j ne = sound_ext ls before j c.room (c.bytes j ne)

-- a sound line stays sound with an A within its limit, and with a report that goes together
module _ (ls : List ℕ) (i : ℕ) (h : line_width * i + line_width ≤ length ls) where
  pub arrived_sound : (n : Copies) → line_sound ls i ≡ true → n.0 ≤ most_arrived → line_sound (put_arrived ls i n) i ≡ true
  arrived_sound n s a =
      let b = sound_bounded ls i s in
      fits_sound (put_arrived ls i n) i
      (rw (arrived_back ls i n h (omega arith)) (record { least = b.least; most = b.most; sum = a }))
      (rw (arrived_mark ls i n, arrived_number ls i n message_at 2 (omega arith), arrived_date ls i n) (report_fits_law ls i s))

  pub reported_sound : (m : Mark) (n : Message) (date : List ℕ) → length date ≡ day_width → message_number n < 65536 → message_of (message_number n) ≡ n
      → line_sound ls i ≡ true → report_sound (mark_byte m) (message_number n) date ≡ true → line_sound (put_report ls i m n date) i ≡ true
  unfolding with_report
  reported_sound m n date w small back s r =
      let b = sound_bounded ls i s in
      fits_sound (put_report ls i m n date) i
      (rw (report_back ls i m n date w h small back) (record { least = b.least; most = b.most; sum = b.sum }))
      (rw (report_mark ls i m n date w h, report_message ls i m n date w h small, report_date ls i m n date w h) r)

-- a new line is sound where it is written, and every other line stays as it was
module _ (ls : List ℕ) (i : ℕ) (named : List ℕ) (n : Copies) (wide : length named ≡ ordered_at) where
  pub add_sound : line_width * i + line_width ≤ length ls → 1 ≤ n.0 → n.0 ≤ most_copies → line_sound (add_line ls i named n) i ≡ true
  unfolding new_line
  add_sound h a b =
      fits_sound (add_line ls i named n) i (rw (add_back ls i named n wide h (omega arith)) (record { least = a; most = b; sum = omega arith }))
      (add_reported ls i named n wide h)

  pub add_sound_apart : (j : ℕ) → j ≢ i → line_sound (add_line ls i named n) j ≡ line_sound ls j
  add_sound_apart j ne = sound_ext (add_line ls i named n) ls j (add_length ls i named n) (add_bytes ls i named n wide j ne)
