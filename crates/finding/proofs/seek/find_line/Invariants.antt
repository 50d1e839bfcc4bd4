-- The places that are left give the same result as all of them.
use Rattle.std.proofs.Common.{◌≡◌, ◌-◌}
use Rattle.cells.specs.Search.{first_from}
use Rattle.entry.specs.Stored.{key_is}
use Rattle.entry.specs.Keyed.{keyed}
use Rattle.finding.proofs.seek.find_line.Given as goal

abbrev pub invariant-loop-i : goal.invariant-loop-i
invariant-loop-i l = first_from (key_is l.lines (keyed l.key)) l.count 0 ≡ first_from (key_is l.lines (keyed l.key)) (l.count - l.i) l.i
