-- The front of a line and the body of a slip in the book: key, numbers and last report are those that the book reads.
use mathlib.Core.Path.{◌≡◌}
use mathlib.Core.List.{List}
use Prim.Native.Nat.{ℕ, ◌+◌, ◌*◌, ◌≤◌}
use native.Mathlib.Omega.{arith}
use lib.ListN.{take}
use lib.Seq.{slice, take-take}
use Rattle.cells.specs.Little.{le_at}
use Rattle.cells.proofs.Within.{byte_within, number_within, part_within, front_within}
use Rattle.entry.specs.Stored.{line_width, key_width, ordered_at, mark_at, message_at, expected_at, date_at, slip_width, slip_key_width, slip_copies_place, key_at, slip_key_at, slip_line_at, slip_copies_at}
use Rattle.entry.proofs.Kept.{named_at}
use Rattle.entry.proofs.Sound.{report_fits}
use Rattle.save.specs.Form.{front_width}
use Rattle.save.specs.Entries.{report_kept, parties_agree, line_index, slip_copies}
use Rattle.save.specs.Saved.{slip_body_width, line_front_at, slip_body_at}

-- a line's
module _ (ls : List ℕ) (i : ℕ) where
  -- its key
  pub line_key : take key_width (line_front_at ls i) ≡ key_at ls i
  unfolding line_front_at key_at
  line_key = front_within ls (line_width * i) (line_width * i + front_width) key_width (omega arith)

  -- what it is named by
  pub line_named : take ordered_at (line_front_at ls i) ≡ named_at ls i
  unfolding line_front_at named_at
  line_named = front_within ls (line_width * i) (line_width * i + front_width) ordered_at (omega arith)

  -- its copies ordered
  pub line_copies : le_at (line_front_at ls i) ordered_at 2 ≡ le_at ls (line_width * i + ordered_at) 2
  unfolding line_front_at
  line_copies = number_within ls (line_width * i) (line_width * i + front_width) ordered_at 2 (omega arith)

  -- what it says of its last report
  pub line_report : report_kept (line_front_at ls i) ≡ report_fits ls i
  unfolding line_front_at report_kept date_at
  line_report =
      let at : ℕ = line_width * i in
      rw (byte_within ls at (at + front_width) mark_at (omega arith), number_within ls at (at + front_width) message_at 2 (omega arith), part_within ls at (at + front_width) expected_at front_width (omega arith))

-- a slip's
module _ (ss : List ℕ) (j : ℕ) where
  -- its key
  pub slip_key_law : take slip_key_width (slip_body_at ss j) ≡ slip_key_at ss j
  unfolding slip_body_at slip_key_at
  slip_key_law = front_within ss (slip_width * j) (slip_width * j + slip_body_width) slip_key_width (omega arith)

  -- the line that it names
  pub slip_line : line_index (slip_body_at ss j) ≡ slip_line_at ss j
  unfolding slip_body_at slip_line_at line_index
  slip_line = number_within ss (slip_width * j) (slip_width * j + slip_body_width) slip_key_width 2 (omega arith)

  -- its copies
  pub slip_copies_law : slip_copies (slip_body_at ss j) ≡ (slip_copies_at ss j).0
  unfolding slip_body_at slip_copies_at slip_copies
  slip_copies_law = number_within ss (slip_width * j) (slip_width * j + slip_body_width) slip_copies_place 2 (omega arith)

-- a part within the front of a list
part_of_front : (a b w : ℕ) (s : List ℕ) → b ≤ w → slice a b (take w s) ≡ slice a b s
part_of_front a b w s h = rw (take-take b w s h)

-- school and supplier stand in the keys
pub parties_keys : (slip line : List ℕ) → parties_agree slip line ≡ parties_agree (take slip_key_width slip) (take key_width line)
unfolding parties_agree
parties_keys slip line =
    rw (part_of_front 0 12 slip_key_width slip (omega arith), part_of_front 12 24 slip_key_width slip (omega arith), part_of_front 0 12 key_width line (omega arith), part_of_front 12 24 key_width line (omega arith))
