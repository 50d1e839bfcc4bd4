-- What keeps a lent book sound.
use mathlib.Core.Path.{◌≡◌}
use mathlib.Core.Bool.{Bool, true, ◌&&◌}
use Prim.Native.Nat.{ℕ, ◌+◌, ◌*◌, ◌≤◌, ◌<◌}
use native.Mathlib.Omega.{arith}
use lib.Dec.{leb}
use lib.ListN.{length}
use borrow.Author.Tests.{le-leb, lt-ltb}
use Rattle.cells.specs.Search.{all_from}
use Rattle.cells.proofs.Bools.{and_left, and_right}
use Rattle.cells.proofs.Searches.{each_place}
use Rattle.entry.specs.Stored.{line_width, slip_width, line_sound, slip_line_at, slip_sound}
use Rattle.book.specs.Lent.{Lent, used_lines, used_slips, most_lines, most_slips, line_room, slip_room, room_sound, sound, rooms_sound}
use Rattle.book.proofs.Sounds.{Sound}

-- a book as long as a sound one, with used counts within its rooms, sound lines, and slips that name used lines, is sound
pub still_sound : (b c : Lent) → sound b ≡ true → length c.lines ≡ length b.lines → length c.slips ≡ length b.slips
    → used_lines c ≤ line_room c → used_slips c ≤ slip_room c
    → ((i : ℕ) → i < used_lines c → line_sound c.lines i ≡ true)
    → ((j : ℕ) → j < used_slips c → slip_line_at c.slips j < used_lines c)
    → sound c ≡ true
unfolding sound rooms_sound slip_sound
still_sound b c e l s u v lines slips =
    let x : Bool = room_sound line_width most_lines (length b.lines) in
    let y : Bool = room_sound slip_width most_slips (length b.slips) in
    let rest : Bool = (leb (used_lines b) (line_room b) && leb (used_slips b) (slip_room b)) && (all_from (line_sound b.lines) (used_lines b) 0 && all_from (slip_sound (used_lines b) b.slips) (used_slips b) 0) in
    let rooms : x && y ≡ true = and_left (x && y) rest e in
    rw (l, s, and_left x y rooms, and_right x y rooms, le-leb (used_lines c) (line_room c) u, le-leb (used_slips c) (slip_room c) v, each_place (line_sound c.lines) (used_lines c) 0 (λ i a h. lines i (omega arith)), each_place (slip_sound (used_lines c) c.slips) (used_slips c) 0 (λ j a h. lt-ltb (slip_line_at c.slips j) (used_lines c) (slips j (omega arith))))

-- a sound book with two used counts
pub record Kept (b : Lent) : Type 0 where
  pub is_sound : sound b ≡ true
  pub counts : length b.used ≡ 2

-- an entry within the room has its bytes within the lent bytes
pub line_room_law : (b : Lent) → Sound b → (i : ℕ) → i < line_room b → line_width * i + line_width ≤ length b.lines
line_room_law b say i h = omega (arith, say.lines_room)

pub slip_room_law : (b : Lent) → Sound b → (j : ℕ) → j < slip_room b → slip_width * j + slip_width ≤ length b.slips
slip_room_law b say j h = omega (arith, say.slips_room)
