-- What bookings keep of a book, entry by entry, and that such a book is orderly.
use mathlib.Core.Path.{◌≡◌, ◌∙◌, sym}
use mathlib.Core.Bool.{true, false, not, ◌&&◌}
use mathlib.Core.List.{List}
use Prim.Native.Nat.{ℕ, ◌+◌, ◌*◌, ◌<◌}
use native.Mathlib.Omega.{arith}
use borrow.Author.Tests.{le-leb, lt-ltb}
use lib.Dec.{eqb, leb}
use lib.ListN.{take}
use Rattle.cells.specs.Bytes.{pick, within, same}
use Rattle.cells.specs.Little.{le_at}
use Rattle.cells.specs.Search.{sum_from}
use Rattle.cells.proofs.Bools.{and_left, and_right}
use Rattle.cells.proofs.Searches.{each_place, sum_same}
use Rattle.entry.specs.Stored.{line_width, key_width, ordered_at, slip_key_width, most_copies, most_arrived, line_at, key_at, line_sound, slip_key_at, slip_line_at, slip_copies_at}
use Rattle.entry.proofs.Kept.{named_at}
use Rattle.entry.proofs.Sound.{report_fits_law, sound_bounded}
use Rattle.book.specs.Lent.{Lent, used_lines, used_slips}
use Rattle.book.specs.Booking.{slip_fields}
use Rattle.book.proofs.Sounds.{sound_so}
use Rattle.balance.proofs.Soundness.{Kept}
use Rattle.save.specs.Entries.{reference_at, slip_number_at, line_fields, fields_kept, line_kept, parties_agree, slip_kept, is_first, copies_on, arrived_on, lines_kept, slips_kept, sums_kept, entries_kept}
use Rattle.save.specs.Saved.{line_front_at, slip_body_at}
use Rattle.restored.specs.Restored.{Orderly}
use Rattle.restored.proofs.Bodies.{line_key, line_named, line_copies, line_report, slip_key_law, slip_line, slip_copies_law, parties_keys}

-- the copies of the slip at j where it names the line at i, else none
unfoldable pub booked_on : List ℕ → ℕ → ℕ → ℕ
booked_on slips i j = pick (eqb (slip_line_at slips j) i) (slip_copies_at slips j).0 0

-- a sound book: each key and article keeps the rules, each key is no earlier one's, each slip has copies and its line's school and supplier, each A is its slips' sum
pub record Ordered (b : Lent) : Type 0 where
  pub kept : Kept b
  pub line_rules : (i : ℕ) → i < used_lines b → fields_kept line_fields reference_at (named_at b.lines i) ≡ true
  pub line_new : (e i : ℕ) → e < i → i < used_lines b → same (key_at b.lines e) (key_at b.lines i) ≡ false
  pub slip_rules : (j : ℕ) → j < used_slips b → fields_kept slip_fields slip_number_at (slip_key_at b.slips j) ≡ true
  pub slip_copies_law : (j : ℕ) → j < used_slips b → within 1 most_copies (slip_copies_at b.slips j).0 ≡ true
  pub slip_parties : (j : ℕ) → j < used_slips b → parties_agree (slip_key_at b.slips j) (key_at b.lines (slip_line_at b.slips j)) ≡ true
  pub slip_new : (e j : ℕ) → e < j → j < used_slips b → same (slip_key_at b.slips e) (slip_key_at b.slips j) ≡ false
  pub sums : (i : ℕ) → i < used_lines b → (line_at b.lines i).arrived.0 ≡ sum_from (booked_on b.slips i) (used_slips b) 0

-- a line that is sound, with a key and article that keep the rules, keeps the rules
line_kept_law : (ls : List ℕ) (i : ℕ) → line_sound ls i ≡ true → fields_kept line_fields reference_at (named_at ls i) ≡ true → line_kept (line_front_at ls i) ≡ true
unfolding line_kept line_at
line_kept_law ls i h e =
    let q : ℕ = le_at ls (line_width * i + ordered_at) 2 in
    let b = sound_bounded ls i h in
    rw (line_named ls i, line_copies ls i, line_report ls i, e, le-leb 1 q b.least, le-leb q most_copies b.most, report_fits_law ls i h)

-- where no earlier key is the same, an entry is the first with its key
is_first_law : (width : ℕ) (body : ℕ → List ℕ) (key : ℕ → List ℕ) → ((x : ℕ) → take width (body x) ≡ key x)
    → (i : ℕ) → ((e : ℕ) → e < i → same (key e) (key i) ≡ false) → is_first width body i ≡ true
unfolding is_first
is_first_law width body key own i h =
    each_place (λ e. not (same (take width (body e)) (take width (body i)))) i 0 (λ e a c. rw (own e, own i, h e (omega arith)))

-- the sum of a line's slips
pub arrived_on_law : (ss : List ℕ) (m i : ℕ) → arrived_on (slip_body_at ss) m i ≡ sum_from (booked_on ss i) m 0
unfolding arrived_on copies_on booked_on
arrived_on_law ss m i = sum_same (copies_on (slip_body_at ss) i) (booked_on ss i) m 0 (λ j a c. rw (slip_line ss j, slip_copies_law ss j))

-- such a book
module _ (b : Lent) (o : Ordered b) where
  -- each line keeps the rules
  lines_kept_law : lines_kept (used_lines b) (line_front_at b.lines) ≡ true
  unfolding lines_kept
  lines_kept_law =
      let say = sound_so b o.kept.is_sound in
      each_place (λ i. line_kept (line_front_at b.lines i) && is_first key_width (line_front_at b.lines) i) (used_lines b) 0
      (λ i a c.
      let l : i < used_lines b = omega arith in
      rw (line_kept_law b.lines i (say.line_sound_law i l) (o.line_rules i l), is_first_law key_width (line_front_at b.lines) (key_at b.lines) (line_key b.lines) i (λ e h. o.line_new e i h l)))

  -- a slip keeps the rules
  slip_is_kept : (j : ℕ) → j < used_slips b → slip_kept (used_lines b) (line_front_at b.lines) (slip_body_at b.slips j) ≡ true
  unfolding slip_kept
  slip_is_kept j l =
      let names = (sound_so b o.kept.is_sound).slip_names j l in
      let i : ℕ = slip_line_at b.slips j in
      let n : ℕ = (slip_copies_at b.slips j).0 in
      let some = o.slip_copies_law j l in
      rw (slip_key_law b.slips j, slip_line b.slips j, slip_copies_law b.slips j, o.slip_rules j l, and_left (leb 1 n) (leb n most_copies) some, and_right (leb 1 n) (leb n most_copies) some, lt-ltb i (used_lines b) names, parties_keys (slip_body_at b.slips j) (line_front_at b.lines i), slip_key_law b.slips j, line_key b.lines i)
      (o.slip_parties j l)

  -- each slip does
  slips_kept_law : slips_kept (used_lines b) (used_slips b) (line_front_at b.lines) (slip_body_at b.slips) ≡ true
  unfolding slips_kept
  slips_kept_law =
      each_place (λ j. slip_kept (used_lines b) (line_front_at b.lines) (slip_body_at b.slips j) && is_first slip_key_width (slip_body_at b.slips) j) (used_slips b) 0
      (λ j a c.
      let l : j < used_slips b = omega arith in
      rw (slip_is_kept j l, is_first_law slip_key_width (slip_body_at b.slips) (slip_key_at b.slips) (slip_key_law b.slips) j (λ e h. o.slip_new e j h l)))

  -- A is the sum of the slips
  sum_of : (i : ℕ) → i < used_lines b → (line_at b.lines i).arrived.0 ≡ arrived_on (slip_body_at b.slips) (used_slips b) i
  sum_of i l = o.sums i l ∙ sym (arrived_on_law b.slips (used_slips b) i)

  -- each sum is within the limit
  sums_kept_law : sums_kept (used_lines b) (used_slips b) (slip_body_at b.slips) ≡ true
  unfolding sums_kept
  sums_kept_law =
      let say = sound_so b o.kept.is_sound in
      each_place (λ i. leb (arrived_on (slip_body_at b.slips) (used_slips b) i) most_arrived) (used_lines b) 0
      (λ i a c.
      let l : i < used_lines b = omega arith in
      le-leb (arrived_on (slip_body_at b.slips) (used_slips b) i) most_arrived (omega (arith, sum_of i l, (sound_bounded b.lines i (say.line_sound_law i l)).sum)))

  -- the book is orderly
  pub orderly : Orderly b
  unfolding entries_kept
  orderly = record { is_sound = o.kept.is_sound; entries = rw (lines_kept_law, slips_kept_law, sums_kept_law); sums = sum_of }
