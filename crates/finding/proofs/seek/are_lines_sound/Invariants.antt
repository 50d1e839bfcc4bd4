-- The places that are left give the same result as all of them.
use Rattle.std.proofs.Common.{◌≡◌, ◌-◌}
use Rattle.cells.specs.Search.{all_from}
use Rattle.entry.specs.Stored.{line_sound}
use Rattle.finding.proofs.seek.are_lines_sound.Given as goal

abbrev pub invariant-loop-i : goal.invariant-loop-i
invariant-loop-i l = all_from (line_sound l.lines) l.count 0 ≡ all_from (line_sound l.lines) (l.count - l.i) l.i
