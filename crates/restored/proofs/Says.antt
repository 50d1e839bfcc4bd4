-- Where a form says all of a line: the new form always, the old one where the message is no number.
use mathlib.Core.Path.{◌≡◌, ◌∙◌, ap, sym, refl}
use mathlib.Core.Bool.{Bool, true, false, not, ◌&&◌, ◌||◌}
use mathlib.Core.List.{List}
use Prim.Native.Nat.{ℕ, ◌≤◌}
use native.Mathlib.Omega.{arith}
use lib.Dec.{eqb, leb}
use lib.ListN.{length, get_or, take, drop, take-append-drop}
use lib.Seq.{slice, take_all, get_or-take}
use borrow.Author.Tests.{eqb-true, leb-true, ne_eqb}
use Rattle.cells.specs.Bytes.{pick, within, same}
use Rattle.cells.specs.Little.{le_at}
use Rattle.cells.proofs.Bools.{split, and_left, and_right}
use Rattle.cells.proofs.Lists.{same_true}
use Rattle.cells.proofs.Parts.{parts_join, to_end}
use Rattle.rules.specs.Rule.{expected}
use Rattle.entry.specs.Report.{no_report, message_unknown, most_message, no_mark, least_mark, most_mark, blank_date, report_sound}
use Rattle.entry.specs.Stored.{mark_at, message_at, expected_at}
use Rattle.save.specs.Form.{front_width, line_body_width, unsaved_message, unsaved, front_of}
use Rattle.save.specs.Entries.{report_kept}
use Rattle.save.specs.Moves.{is_numbered}
use Rattle.save.specs.declared.form.Form.TheVariants.{Old, New}
use Rattle.restored.specs.Restored.{Bytes}
use Rattle.restored.proofs.Cuts.{bytes_back}

-- the new form
pub new_says : (front : List ℕ) → length front ≡ front_width → front_of New (take (line_body_width New) front) ≡ front
unfolding front_of line_body_width
new_says front e = take_all front_width front (omega arith)

-- a last report that goes together, and whose message is no number
record Absent (mark message : ℕ) (date : List ℕ) : Type 0 where
  pub said : message ≡ unsaved_message mark
  pub blank : date ≡ blank_date
  pub either : eqb message no_report || eqb message message_unknown ≡ true

absent_so : (mark message : ℕ) (date : List ℕ) → report_sound mark message date ≡ true → leb message most_message ≡ false → Absent mark message date
unfolding report_sound unsaved_message
absent_so mark message date h over =
    split (eqb message no_report)
    (λ e.
    let k : eqb mark no_mark && same date blank_date ≡ true = rw e at h in
    let none : eqb mark no_mark ≡ true = and_left (eqb mark no_mark) (same date blank_date) k in
    record {
      said = rw none (eqb-true message no_report e);
      blank = same_true date blank_date (and_right (eqb mark no_mark) (same date blank_date) k);
      either = rw e refl;
    })
    (λ e.
    let rest : Bool = pick (eqb message message_unknown) (same date blank_date) (leb message most_message && expected date) in
    let k : within least_mark most_mark mark && rest ≡ true = rw e at h in
    let marked : within least_mark most_mark mark ≡ true = and_left (within least_mark most_mark mark) rest k in
    let r : rest ≡ true = and_right (within least_mark most_mark mark) rest k in
    split (eqb message message_unknown)
    (λ u. record {
      said = rw (some_mark mark marked) (eqb-true message message_unknown u);
      blank = same_true date blank_date (rw u at r);
      either = rw (e, u) refl;
    })
    (λ u. let z : ◌≡◌ {A = ℕ} 0 1 = ap (λ (b : Bool). pick b 1 0) (rw (u, over) at r) in absurd (omega arith)))
  where
    some_mark : (m : ℕ) → within least_mark most_mark m ≡ true → eqb m no_mark ≡ false
    some_mark m w = let least : least_mark ≤ m = leb-true least_mark m (and_left (leb least_mark m) (leb m most_mark) w) in ne_eqb m no_mark (λ e. omega (arith, e))

-- a front of bytes whose last report goes together, and whose message is no number
module _ (front : List ℕ) (bytes : Bytes front) (wide : length front ≡ front_width) (kept : report_kept front ≡ true) (none : is_numbered front ≡ false) where
  abbrev mark : ℕ
  mark = get_or front mark_at 0

  absent : Absent mark (le_at front message_at 2) (slice expected_at front_width front)
  unfolding report_kept is_numbered
  absent = absent_so mark (le_at front message_at 2) (slice expected_at front_width front) kept none

  -- behind its mark stands what the old form says
  unsaved_there : unsaved mark ≡ drop message_at front
  unfolding unsaved
  unsaved_there =
      rw (← absent.said, ← absent.blank, bytes_back front bytes 2 message_at (omega arith))
      (parts_join message_at 2 8 front ∙ to_end message_at front_width front (omega arith))

  -- so the old form says all of it
  pub old_says : front_of Old (take (line_body_width Old) front) ≡ front
  unfolding front_of line_body_width
  old_says =
      rw (get_or-take message_at front mark_at 0 (omega arith), unsaved_there) (take-append-drop message_at front)

-- the message of a line whose last report goes together is no number exactly where there is none or it is unknown
pub number_or_absent : (front : List ℕ) → report_kept front ≡ true → not (is_numbered front) ≡ (eqb (le_at front message_at 2) no_report || eqb (le_at front message_at 2) message_unknown)
unfolding report_kept is_numbered
number_or_absent front kept =
    let n : ℕ = le_at front message_at 2 in
    split (leb n most_message)
    (λ e. let most : n ≤ most_message = leb-true n most_message e in
    rw (e, ne_eqb n no_report (λ d. omega (arith, d)), ne_eqb n message_unknown (λ d. omega (arith, d))))
    (λ e. rw e (sym (absent_so (get_or front mark_at 0) n (slice expected_at front_width front) kept e).either))
