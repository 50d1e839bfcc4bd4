-- The sum so far and that of the lines that are left give the whole sum.
use Rattle.std.proofs.Common.{◌≡◌, ◌+◌, ◌-◌}
use Rattle.cells.specs.Search.{sum_from}
use Rattle.entry.specs.Stored.{open_at}
use Rattle.finding.proofs.seek.open_copies.Given as goal

abbrev pub invariant-loop-i : goal.invariant-loop-i
invariant-loop-i l = sum_from (open_at l.lines l.school) l.count 0 ≡ l.sum + sum_from (open_at l.lines l.school) (l.count - l.i) l.i
