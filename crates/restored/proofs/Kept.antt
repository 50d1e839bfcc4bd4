-- What the rules of a save say of each line and slip, and that a book which keeps them is sound.
use mathlib.Core.Path.{◌≡◌}
use mathlib.Core.Bool.{Bool, true, ◌&&◌}
use mathlib.Core.List.{List}
use Prim.Native.Nat.{ℕ, ◌+◌, ◌*◌, ◌≤◌, ◌<◌}
use native.Mathlib.Omega.{arith}
use lib.Dec.{leb, ltb}
use lib.ListN.{take}
use borrow.Author.Tests.{leb-true, ltb-true, le-leb, lt-ltb}
use Rattle.cells.specs.Bytes.{within}
use Rattle.cells.specs.Little.{le_at}
use Rattle.cells.proofs.Bools.{and_left, and_right}
use Rattle.entry.specs.Stored.{line_width, key_width, ordered_at, arrived_at, slip_key_width, most_copies, most_arrived, line_at, line_sound, slip_line_at, slip_sound}
use Rattle.entry.proofs.Sound.{report_fits}
use Rattle.book.specs.Lent.{Lent, used_lines, used_slips, line_room, slip_room, sound, rooms_sound}
use Rattle.book.specs.Booking.{slip_fields}
use Rattle.cells.proofs.Searches.{all_at, each_place}
use Rattle.save.specs.Entries.{reference_at, slip_number_at, line_fields, fields_kept, report_kept, line_kept, slip_kept, parties_agree, line_index, slip_copies, is_first, arrived_on, lines_kept, slips_kept, sums_kept, entries_kept}
use Rattle.save.specs.Saved.{line_front_at, slip_body_at}
use Rattle.restored.proofs.Bodies.{line_copies, line_report, slip_line}

-- what the rules of a save say of a slip: its key keeps them, it has copies, and it names one of n lines, of its school and supplier
pub record SlipKept (n : ℕ) (line : ℕ → List ℕ) (body : List ℕ) : Type 0 where
  pub key : fields_kept slip_fields slip_number_at (take slip_key_width body) ≡ true
  pub copies : within 1 most_copies (slip_copies body) ≡ true
  pub names : line_index body < n
  pub parties : parties_agree body (line (line_index body)) ≡ true

-- a slip that keeps them
slip_so : (n : ℕ) (line : ℕ → List ℕ) (body : List ℕ) → slip_kept n line body ≡ true → SlipKept n line body
unfolding slip_kept
slip_so n line body h =
    let key : Bool = fields_kept slip_fields slip_number_at (take slip_key_width body) in
    let copies : Bool = within 1 most_copies (slip_copies body) in
    let named : Bool = ltb (line_index body) n in
    let agreed : Bool = parties_agree body (line (line_index body)) in
    let k : copies && (named && agreed) ≡ true = and_right key (copies && (named && agreed)) h in
    let l : named && agreed ≡ true = and_right copies (named && agreed) k in
    record {
      key = and_left key (copies && (named && agreed)) h;
      copies = and_left copies (named && agreed) k;
      names = ltb-true _ _ (and_left named agreed l);
      parties = and_right named agreed l;
    }

-- n lines and m slips that keep the rules of a save
module _ (n m : ℕ) (line slip : ℕ → List ℕ) (kept : entries_kept n m line slip ≡ true) where
  -- the test of the lines
  lines_all : lines_kept n line ≡ true
  unfolding entries_kept
  lines_all = and_left (lines_kept n line) (slips_kept n m line slip && sums_kept n m slip) kept

  -- the slips
  slips_all : slips_kept n m line slip ≡ true
  unfolding entries_kept
  slips_all = and_left (slips_kept n m line slip) (sums_kept n m slip) (and_right (lines_kept n line) (slips_kept n m line slip && sums_kept n m slip) kept)

  -- the sums
  sums_all : sums_kept n m slip ≡ true
  unfolding entries_kept
  sums_all = and_right (slips_kept n m line slip) (sums_kept n m slip) (and_right (lines_kept n line) (slips_kept n m line slip && sums_kept n m slip) kept)

  -- a line keeps the rules
  pub line_kept_law : (i : ℕ) → i < n → line_kept (line i) ≡ true
  unfolding lines_kept
  line_kept_law i a =
      and_left (line_kept (line i)) (is_first key_width line i)
      (all_at (λ i. line_kept (line i) && is_first key_width line i) n 0 i lines_all (omega arith) (omega arith))

  -- no earlier line has its key
  pub line_first : (i : ℕ) → i < n → is_first key_width line i ≡ true
  unfolding lines_kept
  line_first i a =
      and_right (line_kept (line i)) (is_first key_width line i)
      (all_at (λ i. line_kept (line i) && is_first key_width line i) n 0 i lines_all (omega arith) (omega arith))

  -- a slip keeps the rules
  pub slip_kept_law : (j : ℕ) → j < m → SlipKept n line (slip j)
  unfolding slips_kept
  slip_kept_law j a =
      slip_so n line (slip j)
      (and_left (slip_kept n line (slip j)) (is_first slip_key_width slip j)
      (all_at (λ j. slip_kept n line (slip j) && is_first slip_key_width slip j) m 0 j slips_all (omega arith) (omega arith)))

  -- no earlier slip has its key
  pub slip_first : (j : ℕ) → j < m → is_first slip_key_width slip j ≡ true
  unfolding slips_kept
  slip_first j a =
      and_right (slip_kept n line (slip j)) (is_first slip_key_width slip j)
      (all_at (λ j. slip_kept n line (slip j) && is_first slip_key_width slip j) m 0 j slips_all (omega arith) (omega arith))

  -- a line's sum is within the limit
  pub sum_most : (i : ℕ) → i < n → arrived_on slip m i ≤ most_arrived
  unfolding sums_kept
  sum_most i a = leb-true _ _ (all_at (λ i. leb (arrived_on slip m i) most_arrived) n 0 i sums_all (omega arith) (omega arith))

-- a line whose front keeps the rules, with A within its limit, is sound
line_sound_law : (lines : List ℕ) (i : ℕ) → line_kept (line_front_at lines i) ≡ true → (line_at lines i).arrived.0 ≤ most_arrived → line_sound lines i ≡ true
unfolding line_sound line_kept line_at
line_sound_law lines i h k =
    let at : ℕ = line_width * i in
    let front : List ℕ = line_front_at lines i in
    let named : Bool = fields_kept line_fields reference_at (take ordered_at front) in
    let copies : Bool = within 1 most_copies (le_at front ordered_at 2) in
    let r : copies && report_kept front ≡ true = and_right named (copies && report_kept front) h in
    let c : within 1 most_copies (le_at lines (at + ordered_at) 2) ≡ true = rw (line_copies lines i) at (and_left copies (report_kept front) r) in
    let said : report_fits lines i ≡ true = rw (line_report lines i) at (and_right copies (report_kept front) r) in
    rw (c, le-leb (le_at lines (at + arrived_at) 4) most_arrived k, said)

-- a book in sound rooms that keeps the rules of a save, each A its slips' sum, is sound
pub kept_sound : (c : Lent) → rooms_sound c ≡ true → used_lines c ≤ line_room c → used_slips c ≤ slip_room c
    → entries_kept (used_lines c) (used_slips c) (line_front_at c.lines) (slip_body_at c.slips) ≡ true
    → ((i : ℕ) → i < used_lines c → (line_at c.lines i).arrived.0 ≡ arrived_on (slip_body_at c.slips) (used_slips c) i)
    → sound c ≡ true
unfolding sound slip_sound rooms_sound
kept_sound c rooms u v kept sums =
    let n : ℕ = used_lines c in
    let m : ℕ = used_slips c in
    let line : ℕ → List ℕ = line_front_at c.lines in
    let slip : ℕ → List ℕ = slip_body_at c.slips in
    rw (rooms, le-leb n (line_room c) u, le-leb m (slip_room c) v, each_place (line_sound c.lines) n 0 (λ i a h. line_sound_law c.lines i (line_kept_law n m line slip kept i (omega arith)) (rw (sums i (omega arith)) (sum_most n m line slip kept i (omega arith)))), each_place (slip_sound n c.slips) m 0 (λ j a h. lt-ltb (slip_line_at c.slips j) n (rw (← slip_line c.slips j) (slip_kept_law n m line slip kept j (omega arith)).names)))
