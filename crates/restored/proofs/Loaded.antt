-- The book that a load leaves: its counts, its entries, and that it is the book that the save tells.
use mathlib.Core.Path.{◌≡◌, ◌∙◌, ap, ap₂, sym}
use mathlib.Core.Bool.{true}
use mathlib.Core.List.{List, ◌++◌}
use Prim.Native.Nat.{ℕ, ◌+◌, ◌*◌, ◌≤◌, ◌<◌}
use native.Mathlib.Nat.{zero-add}
use native.Mathlib.Omega.{arith}
use lib.ListN.{length, take, drop, set, length-set, length-append}
use lib.Seq.{slice, length-sets, take_at, drop_at, get_or-set_same, get_or-set_other}
use Rattle.cells.specs.Little.{le_at, le_bytes}
use Rattle.cells.proofs.Numbers.{le_back}
use Rattle.cells.proofs.Within.{number_within, front_within}
use Rattle.entry.specs.Stored.{line_width, arrived_at, slip_width, most_arrived, line_at}
use Rattle.book.specs.Lent.{Lent, used_lines, used_slips, line_room, slip_room, rooms_sound}
use Rattle.save.specs.Form.{front_width, slips_at}
use Rattle.save.specs.Entries.{arrived_on, entries_kept}
use Rattle.save.specs.Saved.{slip_body_width, joined_from, line_front_at, slip_body_at, stated_lines, stated_slips, line_in, slip_in, is_save, form_in}
use Rattle.save.specs.Load.{line_from, loaded_line, lent_loaded}
use Rattle.save.specs.declared.form.Form.{Form}
use Rattle.save.proofs.Bodies.{line_before, line_long, slip_long}
use Rattle.save.proofs.Forms.{either_form}
use Rattle.save.proofs.Fronts.{number_past, bytes_wide}
use Rattle.save.proofs.Joined.{joined_length}
use Rattle.save.proofs.Views.{entries_same, arrived_same}
use Rattle.restored.specs.Restored.{Tells}
use Rattle.restored.proofs.Cuts.{stored_front}
use Rattle.restored.proofs.Joined.{joined_part}
use Rattle.restored.proofs.Kept.{sum_most, kept_sound}
use Rattle.restored.proofs.Forms.{Valid, valid_so}

-- a valid save loaded into rooms that hold it
module _ (s : List ℕ) (b : Lent) (two : length b.used ≡ 2) (valid : is_save s ≡ true) (lineFit : stated_lines s ≤ line_room b) (slipFit : stated_slips s ≤ slip_room b) where
  abbrev n : ℕ
  n = stated_lines s

  abbrev m : ℕ
  m = stated_slips s

  abbrev form : Form
  form = form_in s

  abbrev line : ℕ → List ℕ
  line = line_in form s

  abbrev slip : ℕ → List ℕ
  slip = slip_in s (slips_at form n)

  abbrev c : Lent
  c = lent_loaded form s n m b

  -- it is a save of the form by which it is taken
  valid_here : Valid form s
  valid_here = valid_so form s (sym (either_form s) ∙ valid)

  -- the count of lines
  pub loaded_count_lines : used_lines c ≡ n
  unfolding used_lines lent_loaded
  loaded_count_lines = get_or-set_other (set b.used 0 n) 1 0 m 0 (λ e. omega arith) ∙ get_or-set_same b.used 0 n 0 (omega arith)

  -- of slips
  pub loaded_count_slips : used_slips c ≡ m
  unfolding used_slips lent_loaded
  loaded_count_slips = get_or-set_same (set b.used 0 n) 1 m 0 (rw length-set (omega arith))

  -- the room of lines is as long as it was
  loaded_line_length : length c.lines ≡ length b.lines
  unfolding lent_loaded
  loaded_line_length = length-sets b.lines 0 (joined_from (loaded_line form s n m) n 0)

  -- the room of slips
  loaded_slip_length : length c.slips ≡ length b.slips
  unfolding lent_loaded
  loaded_slip_length = length-sets b.slips 0 (joined_from slip m 0)

  -- the counts are two
  loaded_used : length c.used ≡ 2
  unfolding lent_loaded
  loaded_used = rw (length-set (set b.used 0 n) 1 m, length-set b.used 0 n) two

  -- so many lines fit as before
  loaded_line_room : line_room c ≡ line_room b
  unfolding line_room
  loaded_line_room = rw loaded_line_length

  -- so many slips
  loaded_slip_room : slip_room c ≡ slip_room b
  unfolding slip_room
  loaded_slip_room = rw loaded_slip_length

  -- rooms of right size stay so
  loaded_rooms : rooms_sound b ≡ true → rooms_sound c ≡ true
  unfolding rooms_sound
  loaded_rooms h = rw (loaded_line_length, loaded_slip_length) h

  -- a line's front in the save is so long
  line_wide : (i : ℕ) → i < n → length (line i) ≡ front_width
  line_wide i a = line_long form s i (omega (arith, line_before form i n a, valid_here.long))

  -- a slip
  slip_wide : (j : ℕ) → j < m → length (slip j) ≡ slip_body_width
  slip_wide j a = slip_long s (slips_at form n) j (omega (arith, valid_here.long))

  -- a line of the book is so long
  entry_wide : (i : ℕ) → i < n → length (loaded_line form s n m i) ≡ line_width
  unfolding loaded_line line_from
  entry_wide i a =
      let sum : ℕ = arrived_on slip m i in
      length-append (line i) (le_bytes 4 sum) ∙ ap₂ (λ (x y : ℕ). x + y) (line_wide i a) (bytes_wide 4 sum)

  -- the lines that the load stores are so long
  lines_wide : length (joined_from (loaded_line form s n m) n 0) ≡ line_width * n
  lines_wide = joined_length (loaded_line form s n m) line_width n 0 (λ k a c. entry_wide k (omega arith))

  -- the slips
  slips_wide : length (joined_from slip m 0) ≡ slip_width * m
  slips_wide = joined_length slip slip_width m 0 (λ k a c. slip_wide k (omega arith))

  -- the loaded lines, and behind them what was there
  loaded_lines : c.lines ≡ joined_from (loaded_line form s n m) n 0 ++ drop (line_width * n) b.lines
  unfolding lent_loaded line_room
  loaded_lines = stored_front b.lines (joined_from (loaded_line form s n m) n 0) (line_width * n) lines_wide (omega arith)

  -- the slips
  loaded_slips : c.slips ≡ joined_from slip m 0 ++ drop (slip_width * m) b.slips
  unfolding lent_loaded slip_room
  loaded_slips = stored_front b.slips (joined_from slip m 0) (slip_width * m) slips_wide (omega arith)

  -- the loaded lines are the front
  pub front_lines : take (line_width * n) c.lines ≡ joined_from (loaded_line form s n m) n 0
  front_lines = ap (take (line_width * n)) loaded_lines ∙ take_at (joined_from (loaded_line form s n m) n 0) (drop (line_width * n) b.lines) (line_width * n) lines_wide

  -- the slips
  pub front_slips : take (slip_width * m) c.slips ≡ joined_from slip m 0
  front_slips = ap (take (slip_width * m)) loaded_slips ∙ take_at (joined_from slip m 0) (drop (slip_width * m) b.slips) (slip_width * m) slips_wide

  -- the rest of the lines
  other_lines : drop (line_width * n) c.lines ≡ drop (line_width * n) b.lines
  other_lines = ap (drop (line_width * n)) loaded_lines ∙ drop_at (joined_from (loaded_line form s n m) n 0) (drop (line_width * n) b.lines) (line_width * n) lines_wide

  -- the rest of the slips
  other_slips : drop (slip_width * m) c.slips ≡ drop (slip_width * m) b.slips
  other_slips = ap (drop (slip_width * m)) loaded_slips ∙ drop_at (joined_from slip m 0) (drop (slip_width * m) b.slips) (slip_width * m) slips_wide

  -- a line as it is stored: its front, and as A its slips' sum
  line_stored : (i : ℕ) → i < n → slice (line_width * i) (line_width * i + line_width) c.lines ≡ loaded_line form s n m i
  line_stored i a =
      ap (slice (line_width * i) (line_width * i + line_width)) loaded_lines
      ∙ joined_part (loaded_line form s n m) line_width (drop (line_width * n) b.lines) n 0 i (λ k a c. entry_wide k (omega arith)) a
      ∙ ap (loaded_line form s n m) (zero-add i)

  -- the fronts of lines are the save's
  loaded_line_law : (i : ℕ) → i < n → line_front_at c.lines i ≡ line i
  unfolding line_front_at loaded_line line_from
  loaded_line_law i a =
      sym (front_within c.lines (line_width * i) (line_width * i + line_width) front_width (omega arith))
      ∙ ap (take front_width) (line_stored i a)
      ∙ take_at (line i) (le_bytes 4 (arrived_on slip m i)) front_width (line_wide i a)

  -- so are the bodies of slips
  loaded_slip : (j : ℕ) → j < m → slip_body_at c.slips j ≡ slip j
  unfolding slip_body_at
  loaded_slip j a =
      ap (slice (slip_width * j) (slip_width * j + slip_body_width)) loaded_slips
      ∙ joined_part slip slip_width (drop (slip_width * m) b.slips) m 0 j (λ k a c. slip_wide k (omega arith)) a
      ∙ ap slip (zero-add j)

  -- A is read back
  loaded_arrived : (i : ℕ) → i < n → (line_at c.lines i).arrived.0 ≡ arrived_on slip m i
  unfolding line_at loaded_line line_from
  loaded_arrived i a =
      let sum : ℕ = arrived_on slip m i in
      let most : sum ≤ most_arrived = sum_most n m line slip valid_here.entries i a in
      sym (number_within c.lines (line_width * i) (line_width * i + line_width) arrived_at 4 (omega arith))
      ∙ ap (λ (l : List ℕ). le_at l arrived_at 4) (line_stored i a)
      ∙ number_past (line i) (le_bytes 4 sum) front_width (line_wide i a) 0 4
      ∙ le_back 4 sum (omega arith)

  -- the book keeps the rules
  loaded_entries : entries_kept (used_lines c) (used_slips c) (line_front_at c.lines) (slip_body_at c.slips) ≡ true
  loaded_entries =
      rw (loaded_count_lines, loaded_count_slips)
      (entries_same n m (line_front_at c.lines) line (slip_body_at c.slips) slip loaded_line_law loaded_slip ∙ valid_here.entries)

  -- each A is its slips' sum
  loaded_sums : (i : ℕ) → i < used_lines c → (line_at c.lines i).arrived.0 ≡ arrived_on (slip_body_at c.slips) (used_slips c) i
  loaded_sums i a =
      rw loaded_count_slips
      (loaded_arrived i (omega (arith, loaded_count_lines)) ∙ sym (arrived_same m (slip_body_at c.slips) slip loaded_slip i))

  -- it is the book that the save tells
  pub loaded_tells : rooms_sound b ≡ true → Tells s b c
  loaded_tells rooms =
      record {
        valid = valid;
        count_lines = loaded_count_lines;
        count_slips = loaded_count_slips;
        line = loaded_line_law;
        slip = loaded_slip;
        orderly =
            record {
              is_sound = kept_sound c (loaded_rooms rooms) (rw (loaded_count_lines, loaded_line_room) lineFit) (rw (loaded_count_slips, loaded_slip_room) slipFit) loaded_entries loaded_sums;
              entries = loaded_entries;
              sums = loaded_sums;
            };
        other_lines = other_lines;
        other_slips = other_slips;
        line_length = loaded_line_length;
        slip_length = loaded_slip_length;
        used_length = loaded_used;
      }
