-- Where a line or a slip that is found stands in a sound book.
use mathlib.Core.Path.{◌≡◌}
use mathlib.Core.Bool.{true}
use mathlib.Core.List.{List}
use Prim.Native.Nat.{ℕ, ◌+◌, ◌*◌, ◌≤◌, ◌<◌}
use native.Mathlib.Omega.{arith}
use lib.ListN.{length}
use Rattle.entry.specs.Stored.{line_width, slip_width, most_arrived, line_at, key_is, slip_is, slip_line_at}
use Rattle.entry.proofs.Sound.{sound_bounded}
use Rattle.book.specs.Lent.{Lent, used_lines, used_slips, sound, find_line, find_slip}
use Rattle.std.specs.Prelude.{Some}
use Rattle.cells.proofs.Searches.{found_at}
use Rattle.book.proofs.Sounds.{sound_so}

-- the line that is found stands in the lines, and its sum is within its bound
module _ (b : Lent) (h : sound b ≡ true) (key : List ℕ) (i : ℕ) where
  pub line_stands : find_line b key ≡ Some i → (line_width * i + line_width ≤ length b.lines) × ((line_at b.lines i).arrived.0 ≤ most_arrived)
  unfolding find_line
  line_stands e =
      let s = sound_so b h in
      let f = found_at (key_is b.lines key) (used_lines b) 0 i e in
      let l : i < used_lines b = omega (arith, f.1) in
      (omega (arith, s.lines_in), (sound_bounded b.lines i (s.line_sound_law i l)).sum)

  -- and the slip that is found, and the line that it names
  pub slip_stands : find_slip b key ≡ Some i → (slip_width * i + slip_width ≤ length b.slips) × (line_width * slip_line_at b.slips i + line_width ≤ length b.lines)
  unfolding find_slip
  slip_stands e =
      let s = sound_so b h in
      let f = found_at (slip_is b.slips key) (used_slips b) 0 i e in
      let l : i < used_slips b = omega (arith, f.1) in
      (omega (arith, s.slips_in), omega (arith, s.lines_in, s.slip_names i l))
