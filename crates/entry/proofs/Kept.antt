-- What a line or a slip written leaves to read: itself as it was written, and every other as it was.
use mathlib.Core.Path.{◌≡◌, refl, ap, ◌∙◌, sym}
use mathlib.Core.Bool.{true}
use mathlib.Core.List.{List, [], ◌∷◌, ◌++◌, append-nil}
use mathlib.Core.Logic.{◌≢◌}
use Prim.Native.Nat.{ℕ, ◌+◌, ◌*◌, ◌≤◌, ◌<◌}
use native.Mathlib.Nat.{add-zero, add_assoc}
use native.Mathlib.Decide.{dec_le}
use native.Mathlib.Omega.{arith}
use lib.Dec.{eqb}
use lib.ListN.{length, get_or, take, drop, set, length-set, length-append}
use lib.Seq.{slice, sets, length-slice, length-sets, take_all, take_at, drop_at}
use Rattle.cells.specs.Little.{le_at, le_bytes}
use Rattle.cells.proofs.Lists.{same_true}
use Rattle.cells.proofs.Numbers.{le_back}
use Rattle.cells.proofs.Within.{part_within, front_within}
use Rattle.cells.proofs.Stores.{sets_before, sets_after, sets_in, sets_part, sets_aside, le_ext, le_in, part_ext, number_ext, front_ext}
use borrow.Author.Tests.{ne_eqb}
use Rattle.cells.specs.Bytes.{all, same}
use Rattle.signs.specs.Class.{all_of, belongs, of_class}
use Rattle.signs.specs.declared.Class.{Class}
use Rattle.signs.specs.declared.Class.TheVariants.{Blank, Zero}
use Rattle.std.specs.Prelude.{replicate}
use Rattle.rules.specs.Day.{day_width, is_day, dated}
use Rattle.rules.specs.declared.expected.Expected.TheVariants.{Blanks}
use Rattle.rules.specs.Values.{copies, expected_of}
use Rattle.rules.specs.declared.amount.Copies.{Copies}
use Rattle.entry.specs.Report.{no_report, message_unknown, blank_date, message_of, message_number, report_sound}
use Rattle.entry.specs.Line.{mark_of, mark_byte, new_line, with_report}
use Rattle.entry.specs.Stored.{line_width, key_width, ordered_at, mark_at, message_at, expected_at, arrived_at, slip_width, slip_key_width, slip_copies_place, line_at, date_at, put_in, put_arrived, report_bytes, put_report, new_bytes, add_line, key_at, article_at, slip_key_at, slip_line_at, slip_copies_at, add_slip}
use Rattle.entry.specs.declared.line.Mark.{Mark}
use Rattle.entry.specs.declared.line.Mark.TheVariants.{Unmarked, Held, Dropped}
use Rattle.entry.specs.declared.report.Message.{Message}
use Rattle.entry.specs.declared.report.Message.TheVariants.{NoReport, Numbered}
use Rattle.entry.proofs.Writes.{put_report_law, add_line_law, add_slip_law}

-- a mark is read back from its byte
pub mark_back : (m : Mark) → mark_of (mark_byte m) ≡ m
unfolding mark_byte
mark_back Unmarked = refl
mark_back Held = refl
mark_back Dropped = refl

-- the message of a report is read back from its number
pub number_back : (n : ℕ) → n < message_unknown → message_of (message_number (Numbered n)) ≡ Numbered n
unfolding message_of message_number
number_back n h = simp (ne_eqb n no_report (omega arith), ne_eqb n message_unknown (omega arith))

-- two rooms have the same bytes in entry j
abbrev pub SameIn : ℕ → ℕ → List ℕ → List ℕ → Type 0
SameIn w j s t = (k : ℕ) → k < w → get_or s (w * j + k) 0 ≡ get_or t (w * j + k) 0

-- the expected date of a line in the room is whole
pub date_long : (ls : List ℕ) (i : ℕ) → line_width * i + line_width ≤ length ls → length (date_at ls i) ≡ day_width
unfolding date_at
date_long ls i h = length-slice (line_width * i + expected_at) (line_width * i + arrived_at) ls (omega arith) ∙ omega arith

-- the expected date of a line is read from its own bytes
pub date_ext : (s t : List ℕ) (j : ℕ) → length s ≡ length t → SameIn line_width j s t → date_at s j ≡ date_at t j
unfolding date_at
date_ext s t j n b =
    let e : line_width * j + arrived_at ≡ line_width * j + expected_at + day_width = omega arith in
    rw e (part_ext s t (line_width * j + expected_at) day_width n (λ k m. rw (add_assoc (line_width * j) expected_at k) (b (expected_at + k) (omega arith))))

-- a line is read from its own bytes
line_ext : (s t : List ℕ) (j : ℕ) → length s ≡ length t → SameIn line_width j s t → line_at s j ≡ line_at t j
unfolding line_at
line_ext s t j n b = λ x. record {
  ordered = copies (number_ext s t line_width j b ordered_at 2 (omega arith) x);
  arrived = copies (number_ext s t line_width j b arrived_at 4 (omega arith) x);
  mark = ap mark_of (b mark_at (omega arith)) x;
  message = ap message_of (number_ext s t line_width j b message_at 2 (omega arith)) x;
  expected = ap expected_of (date_ext s t j n b) x;
}

-- what a line is named by: its key, then its article
unfoldable pub named_at : List ℕ → ℕ → List ℕ
named_at lines i = slice (line_width * i) (line_width * i + ordered_at) lines

key_named : (ls : List ℕ) (j : ℕ) → key_at ls j ≡ take key_width (named_at ls j)
unfolding key_at named_at
key_named ls j = sym (front_within ls (line_width * j) (line_width * j + ordered_at) key_width (omega arith))

article_named : (ls : List ℕ) (j : ℕ) → article_at ls j ≡ slice key_width ordered_at (named_at ls j)
unfolding article_at named_at
article_named ls j = sym (part_within ls (line_width * j) (line_width * j + ordered_at) key_width ordered_at (omega arith))

-- so lines that are named alike have one key and one article
module _ (s t : List ℕ) (j : ℕ) (e : named_at s j ≡ named_at t j) where
  key_alike : key_at s j ≡ key_at t j
  key_alike = key_named s j ∙ ap (take key_width) e ∙ sym (key_named t j)

  article_alike : article_at s j ≡ article_at t j
  article_alike = article_named s j ∙ ap (slice key_width ordered_at) e ∙ sym (article_named t j)

-- the line at i changed, if any: the room, every other line, and what each line is named by are as they were
pub record Changed (ls before : List ℕ) (i : ℕ) : Type 0 where
  pub room : length ls ≡ length before
  pub bytes : (j : ℕ) → j ≢ i → SameIn line_width j ls before
  pub named : (j : ℕ) → named_at ls j ≡ named_at before j

module _ {ls before : List ℕ} {i : ℕ} (c : Changed ls before i) where
  -- every other line stays, also the bytes of its expected date
  pub other_line : (j : ℕ) → j ≢ i → line_at ls j ≡ line_at before j
  other_line j ne = line_ext ls before j c.room (c.bytes j ne)

  pub other_date : (j : ℕ) → j ≢ i → date_at ls j ≡ date_at before j
  other_date j ne = date_ext ls before j c.room (c.bytes j ne)

  -- every key and article stays, also those of the line itself
  pub same_key : (j : ℕ) → key_at ls j ≡ key_at before j
  same_key j = key_alike ls before j (c.named j)

  pub same_article : (j : ℕ) → article_at ls j ≡ article_at before j
  same_article j = article_alike ls before j (c.named j)

-- bytes put into the line at i, behind its key and article
module _ (ls : List ℕ) (i at : ℕ) (s : List ℕ) where
  put_before : (k : ℕ) → k < at → get_or (put_in ls i at s) (line_width * i + k) 0 ≡ get_or ls (line_width * i + k) 0
  unfolding put_in
  put_before k n = sets_before ls (line_width * i + at) s (line_width * i + k) (omega arith)

  put_behind : (k : ℕ) → at + length s ≤ k → get_or (put_in ls i at s) (line_width * i + k) 0 ≡ get_or ls (line_width * i + k) 0
  unfolding put_in
  put_behind k n = sets_after ls (line_width * i + at) s (line_width * i + k) (omega arith)

  -- a number of the line on either side stays
  number_before : (p w : ℕ) → p + w ≤ at → le_at (put_in ls i at s) (line_width * i + p) w ≡ le_at ls (line_width * i + p) w
  number_before p w h =
      le_ext (put_in ls i at s) ls (line_width * i + p) (line_width * i + p) w (λ k n. rw (add_assoc (line_width * i) p k) (put_before (p + k) (omega arith)))

  number_behind : (p w : ℕ) → at + length s ≤ p → le_at (put_in ls i at s) (line_width * i + p) w ≡ le_at ls (line_width * i + p) w
  number_behind p w h =
      le_ext (put_in ls i at s) ls (line_width * i + p) (line_width * i + p) w (λ k n. rw (add_assoc (line_width * i) p k) (put_behind (p + k) (omega arith)))

  put_length : length (put_in ls i at s) ≡ length ls
  unfolding put_in
  put_length = length-sets ls (line_width * i + at) s

  put_changed : ordered_at ≤ at → at + length s ≤ line_width → Changed (put_in ls i at s) ls i
  unfolding put_in named_at
  put_changed behind fits = record {
    room = put_length;
    bytes = λ j ne k n. sets_aside ls line_width i at s fits j k ne n;
    named = λ j. part_ext (put_in ls i at s) ls (line_width * j) ordered_at put_length (λ k n. byte j k n (dec_le j i));
  }
    where
      byte : (j k : ℕ) → k < ordered_at → Dec (j ≤ i) → get_or (sets ls (line_width * i + at) s) (line_width * j + k) 0 ≡ get_or ls (line_width * j + k) 0
      byte j k n (yes h) = sets_before ls (line_width * i + at) s (line_width * j + k) (omega arith)
      byte j k n (no h) = sets_after ls (line_width * i + at) s (line_width * j + k) (omega arith)

-- A written in the line at i
module _ (ls : List ℕ) (i : ℕ) (n : Copies) where
  pub arrived_changed : Changed (put_arrived ls i n) ls i
  unfolding put_arrived le_bytes
  arrived_changed = put_changed ls i arrived_at (le_bytes 4 n.0) (omega arith) (omega arith)

  -- the expected date stays
  pub arrived_date : date_at (put_arrived ls i n) i ≡ date_at ls i
  unfolding put_arrived date_at
  arrived_date =
      let e : line_width * i + arrived_at ≡ line_width * i + expected_at + day_width = omega arith in
      let w : List ℕ = le_bytes 4 n.0 in
      rw e
      (part_ext (put_in ls i arrived_at w) ls (line_width * i + expected_at) day_width (put_length ls i arrived_at w)
      (λ k m. rw (add_assoc (line_width * i) expected_at k) (put_before ls i arrived_at w (expected_at + k) (omega arith))))

  -- the bytes in front of A stay
  pub arrived_mark : get_or (put_arrived ls i n) (line_width * i + mark_at) 0 ≡ get_or ls (line_width * i + mark_at) 0
  unfolding put_arrived
  arrived_mark = put_before ls i arrived_at (le_bytes 4 n.0) mark_at (omega arith)

  pub arrived_number : (p w : ℕ) → p + w ≤ arrived_at → le_at (put_arrived ls i n) (line_width * i + p) w ≡ le_at ls (line_width * i + p) w
  unfolding put_arrived
  arrived_number = number_before ls i arrived_at (le_bytes 4 n.0)

  module _ (h : line_width * i + line_width ≤ length ls) (a : n.0 < 4294967296) where
    arrived_in : le_at (put_arrived ls i n) (line_width * i + arrived_at) 4 ≡ n.0
    unfolding put_arrived put_in le_bytes le_at
    arrived_in =
        le_in ls (line_width * i + arrived_at) (le_bytes 4 n.0) (omega arith) 0 4 (line_width * i + arrived_at) (omega arith) (omega arith) ∙ le_back 4 n.0 a

    -- the line is read back with this A
    pub arrived_back : line_at (put_arrived ls i n) i
        ≡ record { ordered = (line_at ls i).ordered; arrived = n; mark = (line_at ls i).mark; message = (line_at ls i).message; expected = (line_at ls i).expected }
    unfolding line_at
    arrived_back = λ x. record {
      ordered = copies (arrived_number ordered_at 2 (omega arith) x);
      arrived = copies (arrived_in x);
      mark = ap mark_of arrived_mark x;
      message = ap message_of (arrived_number message_at 2 (omega arith)) x;
      expected = ap expected_of arrived_date x;
    }

-- a report written in the line at i
module _ (ls : List ℕ) (i : ℕ) (m : Mark) (n : Message) (date : List ℕ) (wide : length date ≡ day_width) where
  report_width : length (report_bytes m n date) ≡ 11
  unfolding report_bytes le_bytes
  report_width = rw wide refl

  pub report_changed : Changed (put_report ls i m n date) ls i
  unfolding put_report
  report_changed = put_changed ls i mark_at (report_bytes m n date) (omega arith) (omega (arith, report_width))

  module _ (h : line_width * i + line_width ≤ length ls) where
    room : line_width * i + mark_at + length (report_bytes m n date) ≤ length ls
    room = omega (arith, report_width)

    -- the mark's byte, the message's number and the expected date are read back
    pub report_mark : get_or (put_report ls i m n date) (line_width * i + mark_at) 0 ≡ mark_byte m
    unfolding put_report put_in report_bytes
    report_mark =
        rw (add-zero (line_width * i + mark_at)) at (sets_in ls (line_width * i + mark_at) (report_bytes m n date) 0 room (omega (arith, report_width)))

    pub report_message : message_number n < 65536 → le_at (put_report ls i m n date) (line_width * i + message_at) 2 ≡ message_number n
    unfolding put_report put_in report_bytes le_at le_bytes
    report_message a =
        le_in ls (line_width * i + mark_at) (report_bytes m n date) room 1 2 (line_width * i + message_at) (omega arith) (omega (arith, report_width))
        ∙ le_back 2 (message_number n) a

    pub report_date : date_at (put_report ls i m n date) i ≡ date
    unfolding date_at
    report_date =
        let e : line_width * i + arrived_at ≡ line_width * i + expected_at + day_width = omega arith in
        let d : List ℕ = sets (set ls (line_width * i + mark_at) (mark_byte m)) (line_width * i + message_at) (le_bytes 2 (message_number n)) in
        let k : length d ≡ length ls = simp (length-sets, length-set) refl in
        let w : line_width * i + expected_at + length (date ++ []) ≤ length d = rw (append-nil date, wide, k) (omega arith) in
        rw (← put_report_law ls i m n date, e) (rw append-nil at (sets_part d (line_width * i + expected_at) date [] day_width wide w))

    -- Q and A stay
    report_ordered : le_at (put_report ls i m n date) (line_width * i + ordered_at) 2 ≡ le_at ls (line_width * i + ordered_at) 2
    unfolding put_report
    report_ordered = number_before ls i mark_at (report_bytes m n date) ordered_at 2 (omega arith)

    report_arrived : le_at (put_report ls i m n date) (line_width * i + arrived_at) 4 ≡ le_at ls (line_width * i + arrived_at) 4
    unfolding put_report
    report_arrived = number_behind ls i mark_at (report_bytes m n date) arrived_at 4 (omega (arith, report_width))

    pub report_back : message_number n < 65536 → message_of (message_number n) ≡ n
        → line_at (put_report ls i m n date) i ≡ with_report m n (expected_of date) (line_at ls i)
    unfolding line_at with_report
    report_back a back = λ x. record {
      ordered = copies (report_ordered x);
      arrived = copies (report_arrived x);
      mark = (ap mark_of report_mark ∙ mark_back m) x;
      message = (ap message_of (report_message a) ∙ back) x;
      expected = ap expected_of report_date x;
    }

-- Q is read back
ordered_back : (ls : List ℕ) (i : ℕ) (n : Copies) → line_width * i + line_width ≤ length ls → n.0 < 65536
    → le_at (put_in ls i ordered_at (le_bytes 2 n.0)) (line_width * i + ordered_at) 2 ≡ n.0
unfolding put_in le_bytes le_at
ordered_back ls i n h a =
    le_in ls (line_width * i + ordered_at) (le_bytes 2 n.0) (omega arith) 0 2 (line_width * i + ordered_at) (omega arith) (omega arith) ∙ le_back 2 n.0 a

-- eight blanks are read as such
pub blank_date_law : expected_of blank_date ≡ Blanks
unfolding expected_of dated is_day all_of all belongs
blank_date_law = refl

-- where one byte alone is of a class, a date is of that class just where it is that byte all through
all_of_one : (c : Class) (b : ℕ) → ((x : ℕ) → belongs c x ≡ eqb x b) → (s : List ℕ) → all_of c s ≡ same s (replicate (length s) b)
unfolding all_of all same
all_of_one c b h [] = refl
all_of_one c b h (x ∷ xs) = grind (arith, h x, all_of_one c b h xs)

dated_by : (c : Class) (b : ℕ) → ((x : ℕ) → belongs c x ≡ eqb x b) → (s : List ℕ) → length s ≡ day_width
    → of_class c day_width day_width s ≡ same s (replicate day_width b)
unfolding of_class
dated_by c b h s e = rw (all_of_one c b h s, e) refl

pub zero_dated : (s : List ℕ) → length s ≡ day_width → of_class Zero day_width day_width s ≡ same s (replicate day_width 48)
unfolding belongs
zero_dated = dated_by Zero 48 (λ x. refl)

pub blanks_dated : (s : List ℕ) → length s ≡ day_width → of_class Blank day_width day_width s ≡ same s blank_date
unfolding belongs
blanks_dated = dated_by Blank 32 (λ x. refl)

pub blank_dated : (date : List ℕ) → same date blank_date ≡ true → expected_of date ≡ Blanks
blank_dated date e = rw (same_true date blank_date e) blank_date_law

-- the room while a new line is written at i: with its key and article, then with Q, then with no report
abbrev with_name : List ℕ → ℕ → List ℕ → List ℕ
with_name ls i named = sets ls (line_width * i) named

abbrev with_ordered : List ℕ → ℕ → List ℕ → Copies → List ℕ
with_ordered ls i named n = put_in (with_name ls i named) i ordered_at (le_bytes 2 n.0)

abbrev with_none : List ℕ → ℕ → List ℕ → Copies → List ℕ
with_none ls i named n = put_report (with_ordered ls i named n) i Unmarked NoReport blank_date

module _ (ls : List ℕ) (i : ℕ) (named : List ℕ) (n : Copies) (h : line_width * i + line_width ≤ length ls) where
  name_room : line_width * i + line_width ≤ length (with_name ls i named)
  name_room = rw (length-sets ls (line_width * i) named) h

  ordered_room : line_width * i + line_width ≤ length (with_ordered ls i named n)
  ordered_room = rw (put_length (with_name ls i named) i ordered_at (le_bytes 2 n.0)) name_room

  none_room : line_width * i + line_width ≤ length (with_none ls i named n)
  none_room = rw (report_changed (with_ordered ls i named n) i Unmarked NoReport blank_date refl).room ordered_room

  none_back : message_of (message_number NoReport) ≡ NoReport
  unfolding message_of message_number
  none_back = refl

  made_back : n.0 < 65536 → line_at (put_arrived (with_none ls i named n) i (copies 0)) i ≡ new_line n
  unfolding line_at new_line with_report message_number
  made_back a =
      arrived_back (with_none ls i named n) i (copies 0) none_room (omega arith)
      ∙ (λ x. record {
        ordered = (report_back (with_ordered ls i named n) i Unmarked NoReport blank_date refl ordered_room (omega arith) none_back x).ordered;
        arrived = copies 0;
        mark = (report_back (with_ordered ls i named n) i Unmarked NoReport blank_date refl ordered_room (omega arith) none_back x).mark;
        message = (report_back (with_ordered ls i named n) i Unmarked NoReport blank_date refl ordered_room (omega arith) none_back x).message;
        expected = (report_back (with_ordered ls i named n) i Unmarked NoReport blank_date refl ordered_room (omega arith) none_back x).expected;
      })
      ∙ (λ x. record {
        ordered = copies (ordered_back (with_name ls i named) i n name_room a x);
        arrived = copies 0;
        mark = Unmarked;
        message = NoReport;
        expected = blank_date_law x;
      })

  made_date : date_at (put_arrived (with_none ls i named n) i (copies 0)) i ≡ blank_date
  made_date = arrived_date (with_none ls i named n) i (copies 0) ∙ report_date (with_ordered ls i named n) i Unmarked NoReport blank_date refl ordered_room

  made_reported : report_sound (get_or (put_arrived (with_none ls i named n) i (copies 0)) (line_width * i + mark_at) 0) (le_at (put_arrived (with_none ls i named n) i (copies 0)) (line_width * i + message_at) 2) (date_at (put_arrived (with_none ls i named n) i (copies 0)) i) ≡ true
  unfolding message_number mark_byte report_sound same
  made_reported =
      rw (
        arrived_mark (with_none ls i named n) i (copies 0),
        arrived_number (with_none ls i named n) i (copies 0) message_at 2 (omega arith),
        arrived_date (with_none ls i named n) i (copies 0),
        report_mark (with_ordered ls i named n) i Unmarked NoReport blank_date refl ordered_room,
        report_message (with_ordered ls i named n) i Unmarked NoReport blank_date refl ordered_room (omega arith),
        report_date (with_ordered ls i named n) i Unmarked NoReport blank_date refl ordered_room,
      ) refl

-- a new line written at i with its key and article
module _ (ls : List ℕ) (i : ℕ) (named : List ℕ) (n : Copies) where
  pub add_length : length (add_line ls i named n) ≡ length ls
  unfolding add_line
  add_length = length-sets ls (line_width * i) (named ++ new_bytes n)

  module _ (wide : length named ≡ ordered_at) where
    line_width_law : length (named ++ new_bytes n) ≡ line_width
    unfolding new_bytes report_bytes le_bytes
    line_width_law = rw (length-append named (new_bytes n), wide)

    -- no byte of another line changes
    pub add_bytes : (j : ℕ) → j ≢ i → SameIn line_width j (add_line ls i named n) ls
    unfolding add_line
    add_bytes j ne k m =
        rw (add-zero (line_width * i)) at (sets_aside ls line_width i 0 (named ++ new_bytes n) (omega (arith, line_width_law)) j k ne m)

    -- the line is read back, and its last report is none
    module _ (h : line_width * i + line_width ≤ length ls) where
      pub add_back : n.0 < 65536 → line_at (add_line ls i named n) i ≡ new_line n
      add_back a = rw (← add_line_law ls i named n wide) (made_back ls i named n h a)

      pub add_date : date_at (add_line ls i named n) i ≡ blank_date
      add_date = rw (← add_line_law ls i named n wide) (made_date ls i named n h)

      pub add_reported : report_sound (get_or (add_line ls i named n) (line_width * i + mark_at) 0) (le_at (add_line ls i named n) (line_width * i + message_at) 2) (date_at (add_line ls i named n) i) ≡ true
      add_reported = rw (← add_line_law ls i named n wide) (made_reported ls i named n h)

    -- and what it is named by
    pub add_named : line_width * i + line_width ≤ length ls → named_at (add_line ls i named n) i ≡ named
    unfolding named_at add_line
    add_named h = sets_part ls (line_width * i) named (new_bytes n) ordered_at wide (rw line_width_law h)

    -- every other line stays, and what it is named by
    pub add_apart : (j : ℕ) → j ≢ i → line_at (add_line ls i named n) j ≡ line_at ls j
    add_apart j ne = line_ext (add_line ls i named n) ls j add_length (add_bytes j ne)

    pub add_date_apart : (j : ℕ) → j ≢ i → date_at (add_line ls i named n) j ≡ date_at ls j
    add_date_apart j ne = date_ext (add_line ls i named n) ls j add_length (add_bytes j ne)

    pub add_named_apart : (j : ℕ) → j ≢ i → named_at (add_line ls i named n) j ≡ named_at ls j
    unfolding named_at
    add_named_apart j ne = front_ext (add_line ls i named n) ls line_width j (add_bytes j ne) ordered_at (omega arith) add_length

    pub add_key_apart : (j : ℕ) → j ≢ i → key_at (add_line ls i named n) j ≡ key_at ls j
    add_key_apart j ne = key_alike (add_line ls i named n) ls j (add_named_apart j ne)

    pub add_article_apart : (j : ℕ) → j ≢ i → article_at (add_line ls i named n) j ≡ article_at ls j
    add_article_apart j ne = article_alike (add_line ls i named n) ls j (add_named_apart j ne)

-- its key comes first in what it is named by, then its article
module _ (ls : List ℕ) (i : ℕ) (key article : List ℕ) (n : Copies) (wide : length key ≡ key_width) (whole : length (key ++ article) ≡ ordered_at) (room : line_width * i + line_width ≤ length ls) where
  pub add_key : key_at (add_line ls i (key ++ article) n) i ≡ key
  add_key =
      key_named (add_line ls i (key ++ article) n) i ∙ ap (take key_width) (add_named ls i (key ++ article) n whole room) ∙ take_at key article key_width wide

  pub add_article : article_at (add_line ls i (key ++ article) n) i ≡ article
  add_article =
      article_named (add_line ls i (key ++ article) n) i
      ∙ ap (slice key_width ordered_at) (add_named ls i (key ++ article) n whole room)
      ∙ ap (drop key_width) (take_all ordered_at (key ++ article) (omega (arith, whole)))
      ∙ drop_at key article key_width wide

-- a slip written at i
module _ (ss : List ℕ) (i : ℕ) (key : List ℕ) (line : ℕ) (n : Copies) where
  pub slip_length : length (add_slip ss i key line n) ≡ length ss
  unfolding add_slip
  slip_length = length-sets ss (slip_width * i) (key ++ (le_bytes 2 line ++ le_bytes 2 n.0))

  module _ (wide : length key ≡ slip_key_width) where
    slip_width_law : length (key ++ (le_bytes 2 line ++ le_bytes 2 n.0)) ≡ slip_width
    unfolding le_bytes
    slip_width_law = rw (length-append key (le_bytes 2 line ++ le_bytes 2 n.0), wide)

    -- no byte of another slip changes
    slip_bytes : (j : ℕ) → j ≢ i → SameIn slip_width j (add_slip ss i key line n) ss
    unfolding add_slip
    slip_bytes j ne k m =
        rw (add-zero (slip_width * i)) at (sets_aside ss slip_width i 0 (key ++ (le_bytes 2 line ++ le_bytes 2 n.0)) (omega (arith, slip_width_law)) j k ne m)

    -- the key, the line's index and the quantity are read back
    pub slip_key_law : slip_width * i + slip_width ≤ length ss → slip_key_at (add_slip ss i key line n) i ≡ key
    unfolding slip_key_at add_slip
    slip_key_law h = sets_part ss (slip_width * i) key (le_bytes 2 line ++ le_bytes 2 n.0) slip_key_width wide (rw slip_width_law h)

    slip_number_law : slip_width * i + slip_width ≤ length ss → (k w a : ℕ) → a ≡ slip_width * i + slip_key_width + k → k + w ≤ 4
        → le_at (add_slip ss i key line n) a w ≡ le_at (le_bytes 2 line ++ le_bytes 2 n.0) k w
    unfolding le_bytes
    slip_number_law h k w a e m =
        let room : slip_width * i + slip_width ≤ length (sets ss (slip_width * i) key) = rw length-sets h in
        rw (← add_slip_law ss i key line n wide)
        (le_in (sets ss (slip_width * i) key) (slip_width * i + slip_key_width) (le_bytes 2 line ++ le_bytes 2 n.0) (omega arith) k w a e m)

    pub slip_line : slip_width * i + slip_width ≤ length ss → line < 65536 → slip_line_at (add_slip ss i key line n) i ≡ line
    unfolding slip_line_at le_bytes le_at
    slip_line h a = slip_number_law h 0 2 (slip_width * i + slip_key_width) (omega arith) (omega arith) ∙ le_back 2 line a

    pub slip_copies_law : slip_width * i + slip_width ≤ length ss → n.0 < 65536 → slip_copies_at (add_slip ss i key line n) i ≡ n
    unfolding slip_copies_at le_bytes le_at
    slip_copies_law h a = λ x. copies ((slip_number_law h 2 2 (slip_width * i + slip_copies_place) (omega arith) (omega arith) ∙ le_back 2 n.0 a) x)

    -- every other slip stays
    pub slip_key_apart : (j : ℕ) → j ≢ i → slip_key_at (add_slip ss i key line n) j ≡ slip_key_at ss j
    unfolding slip_key_at
    slip_key_apart j ne = front_ext (add_slip ss i key line n) ss slip_width j (slip_bytes j ne) slip_key_width (omega arith) slip_length

    pub slip_line_apart : (j : ℕ) → j ≢ i → slip_line_at (add_slip ss i key line n) j ≡ slip_line_at ss j
    unfolding slip_line_at
    slip_line_apart j ne = number_ext (add_slip ss i key line n) ss slip_width j (slip_bytes j ne) slip_key_width 2 (omega arith)

    pub slip_copies_apart : (j : ℕ) → j ≢ i → slip_copies_at (add_slip ss i key line n) j ≡ slip_copies_at ss j
    unfolding slip_copies_at
    slip_copies_apart j ne = λ x. copies (number_ext (add_slip ss i key line n) ss slip_width j (slip_bytes j ne) slip_copies_place 2 (omega arith) x)
