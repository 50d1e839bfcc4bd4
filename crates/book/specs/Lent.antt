-- The lent book, when it is sound, and its first entry with a key (RULES 6.3, 6.4).
use Rattle.std.specs.Prelude.{ℕ, ◌/◌, ◌%◌, Bool, ◌&&◌, List, eqb, leb, length, get_or, Option}
use Rattle.cells.specs.Bytes.{within}
use Rattle.cells.specs.Search.{first_from, all_from, sum_from}
use Rattle.entry.specs.Stored.{line_width, slip_width, key_is, slip_is, open_at, line_sound, slip_sound}

-- what the caller lends: room for lines, room for slips, and how many of each are used
pub record Lent : Type 0 where
  pub lines : List ℕ
  pub slips : List ℕ
  pub used : List ℕ

abbrev pub lent : List ℕ → List ℕ → List ℕ → Lent
lent lines slips used = record { lines = lines; slips = slips; used = used }

unfoldable pub used_lines : Lent → ℕ
used_lines b = get_or b.used 0 0

unfoldable pub used_slips : Lent → ℕ
used_slips b = get_or b.used 1 0

-- the most entries that a room may have (RULES 6.3)
abbrev pub most_lines : ℕ
most_lines = 512

abbrev pub most_slips : ℕ
most_slips = 1024

unfoldable pub line_room : Lent → ℕ
line_room b = length b.lines / line_width

unfoldable pub slip_room : Lent → ℕ
slip_room b = length b.slips / slip_width

-- so many bytes are room for 1 to most entries of a width, and nothing more
unfoldable pub room_sound : ℕ → ℕ → ℕ → Bool
room_sound width most n = eqb (n % width) 0 && within 1 most (n / width)

-- both rooms are of right size
unfoldable pub rooms_sound : Lent → Bool
rooms_sound b = room_sound line_width most_lines (length b.lines) && room_sound slip_width most_slips (length b.slips)

-- both rooms have the right size, the used counts fit into them, and each used line and slip is sound (RULES 6.4)
unfoldable pub sound : Lent → Bool
sound b =
    rooms_sound b
    && ((leb (used_lines b) (line_room b) && leb (used_slips b) (slip_room b))
    && (all_from (line_sound b.lines) (used_lines b) 0 && all_from (slip_sound (used_lines b) b.slips) (used_slips b) 0))

-- the entry with a key: of several the first
unfoldable pub find_line : Lent → List ℕ → Option ℕ
find_line b key = first_from (key_is b.lines key) (used_lines b) 0

unfoldable pub find_slip : Lent → List ℕ → Option ℕ
find_slip b key = first_from (slip_is b.slips key) (used_slips b) 0

-- the open copies of a school: those of all its used lines (RULES 6.6)
unfoldable pub open_copies : Lent → List ℕ → ℕ
open_copies b school = sum_from (open_at b.lines school) (used_lines b) 0
