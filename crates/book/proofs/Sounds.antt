-- What a sound book promises.
use mathlib.Core.Path.{◌≡◌}
use mathlib.Core.Bool.{Bool, true, ◌&&◌}
use Prim.Native.Nat.{ℕ, ◌*◌, ◌≤◌, ◌<◌, ◌/◌, ◌%◌}
use native.Mathlib.Omega.{arith}
use borrow.Author.Tests.{leb-true, ltb-true}
use lib.Dec.{eqb, leb}
use lib.ListN.{length}
use Rattle.cells.specs.Bytes.{within}
use Rattle.cells.specs.Search.{all_from}
use Rattle.cells.proofs.Bools.{and_left, and_right}
use Rattle.entry.specs.Stored.{line_width, slip_width, line_sound, slip_sound, slip_line_at}
use Rattle.book.specs.Lent.{Lent, used_lines, used_slips, most_lines, most_slips, line_room, slip_room, room_sound, sound, rooms_sound}
use Rattle.cells.proofs.Searches.{all_at}

-- the used counts are within the rooms, the rooms within their limits, each used line is sound and each used slip names a used line
pub record Sound (b : Lent) : Type 0 where
  pub lines_fit : used_lines b ≤ line_room b
  pub lines_in : line_width * used_lines b ≤ length b.lines
  pub lines_room : line_width * line_room b ≤ length b.lines
  pub lines_most : line_room b ≤ 512
  pub slips_fit : used_slips b ≤ slip_room b
  pub slips_in : slip_width * used_slips b ≤ length b.slips
  pub slips_room : slip_width * slip_room b ≤ length b.slips
  pub slips_most : slip_room b ≤ 1024
  pub all_sound : all_from (line_sound b.lines) (used_lines b) 0 ≡ true
  pub line_sound_law : (i : ℕ) → i < used_lines b → line_sound b.lines i ≡ true
  pub slip_names : (j : ℕ) → j < used_slips b → slip_line_at b.slips j < used_lines b

-- a room that is sound holds no more entries than allowed
room_most : (width most n : ℕ) → room_sound width most n ≡ true → n / width ≤ most
unfolding room_sound
room_most width most n h =
    leb-true (n / width) most (and_right (leb 1 (n / width)) (leb (n / width) most) (and_right (eqb (n % width) 0) (within 1 most (n / width)) h))

-- a book that passes the test is sound
pub sound_so : (b : Lent) → sound b ≡ true → Sound b
unfolding sound rooms_sound line_room slip_room slip_sound
sound_so b h =
    let sizes : Bool = room_sound line_width most_lines (length b.lines) && room_sound slip_width most_slips (length b.slips) in
    let counts : Bool = leb (used_lines b) (line_room b) && leb (used_slips b) (slip_room b) in
    let lines : Bool = all_from (line_sound b.lines) (used_lines b) 0 in
    let slips : Bool = all_from (slip_sound (used_lines b) b.slips) (used_slips b) 0 in
    let s : sizes ≡ true = and_left sizes (counts && (lines && slips)) h in
    let r : counts && (lines && slips) ≡ true = and_right sizes (counts && (lines && slips)) h in
    let c : counts ≡ true = and_left counts (lines && slips) r in
    let e : lines && slips ≡ true = and_right counts (lines && slips) r in
    let m : line_room b ≤ 512 = room_most line_width most_lines (length b.lines) (and_left _ (room_sound slip_width most_slips (length b.slips)) s) in
    let n : slip_room b ≤ 1024 = room_most slip_width most_slips (length b.slips) (and_right (room_sound line_width most_lines (length b.lines)) _ s) in
    let k : used_lines b ≤ line_room b = leb-true _ _ (and_left _ (leb (used_slips b) (slip_room b)) c) in
    let l : used_slips b ≤ slip_room b = leb-true _ _ (and_right (leb (used_lines b) (line_room b)) _ c) in
    record {
      lines_fit = k;
      lines_in = omega arith;
      lines_room = omega arith;
      lines_most = m;
      slips_fit = l;
      slips_in = omega arith;
      slips_room = omega arith;
      slips_most = n;
      all_sound = and_left lines slips e;
      line_sound_law = λ i a. all_at (line_sound b.lines) (used_lines b) 0 i (and_left lines slips e) (omega arith) (omega arith);
      slip_names = λ j a. ltb-true _ _ (all_at (slip_sound (used_lines b) b.slips) (used_slips b) 0 j (and_right lines slips e) (omega arith) (omega arith));
    }
