-- Where the used entries of a sound book stand, and what is known of them.
use mathlib.Core.Path.{◌≡◌, refl}
use mathlib.Core.Bool.{true}
use mathlib.Core.List.{List}
use Prim.Native.Nat.{ℕ, ◌+◌, ◌*◌, ◌≤◌, ◌<◌}
use native.Mathlib.Omega.{arith}
use lib.ListN.{length}
use Rattle.cells.specs.Search.{first_from, all_from}
use Rattle.cells.proofs.Searches.{found_at}
use Rattle.std.specs.Prelude.{None, Some, Option, IfSome}
use Rattle.entry.specs.Stored.{line_width, slip_width, most_copies, most_arrived, line_at, slip_line_at, key_is, line_sound}
use Rattle.entry.proofs.Sound.{sound_bounded}
use Rattle.book.specs.Lent.{Lent, most_lines, used_lines, used_slips, sound, find_line, find_slip, open_copies}
use Rattle.book.proofs.Sounds.{sound_so}
use Rattle.book.proofs.Finds.{slip_stands as found_slip}
use Rattle.book.proofs.Opens.{open_below}
use Rattle.finding.specs.Seen.{seen}
use Rattle.finding.specs.declared.sound.SoundBook.{SoundBook}

module _ (b : Lent) (h : sound b ≡ true) where
  -- the used entries stand in their rooms, and the code may sum over the lines
  pub lines_in : line_width * used_lines b ≤ length b.lines
  lines_in = (sound_so b h).lines_in

  pub slips_in : slip_width * used_slips b ≤ length b.slips
  slips_in = (sound_so b h).slips_in

  pub lines_few : used_lines b ≤ most_lines
  lines_few = let s = sound_so b h in omega (arith, s.lines_fit, s.lines_most)

  pub each_sound : all_from (line_sound b.lines) (used_lines b) 0 ≡ true
  each_sound = (sound_so b h).all_sound

-- what is found is used
pub line_used : (b : Lent) (key : List ℕ) → IfSome (find_line b key) (λ i. i < used_lines b)
unfolding find_line
line_used b key = go (first_from (key_is b.lines key) (used_lines b) 0) refl
  where
    go : (f : Option ℕ) → first_from (key_is b.lines key) (used_lines b) 0 ≡ f → IfSome f (λ i. i < used_lines b)
    go None e = tt
    go (Some i) e = omega (arith, (found_at (key_is b.lines key) (used_lines b) 0 i e).1)

module _ (b : SoundBook) where
  -- a used line
  module _ (i : ℕ) (l : i < used_lines (seen b.lent)) where
    pub line_in : line_width * i + line_width ≤ length b.lent.lines.now
    line_in = omega (arith, lines_in (seen b.lent) b.is_sound)

    pub arrived_most : (line_at b.lent.lines.now i).arrived.0 ≤ most_arrived
    arrived_most = (sound_bounded b.lent.lines.now i ((sound_so (seen b.lent) b.is_sound).line_sound_law i l)).sum

  -- a slip that is found, and its line
  module _ (key : List ℕ) (j : ℕ) (e : find_slip (seen b.lent) key ≡ Some j) where
    pub slip_stands : slip_width * j + slip_width ≤ length b.lent.slips.now
    slip_stands = (found_slip (seen b.lent) b.is_sound key j e).0

    pub slip_line_stands : line_width * slip_line_at b.lent.slips.now j + line_width ≤ length b.lent.lines.now
    slip_line_stands = (found_slip (seen b.lent) b.is_sound key j e).1

  -- a school has at most so many copies open
  pub open_most : (school : List ℕ) → open_copies (seen b.lent) school ≤ most_copies * most_lines
  unfolding open_copies used_lines
  open_most school = open_below b.lent.lines.now b.lent.slips.now b.lent.used.now school b.is_sound refl
