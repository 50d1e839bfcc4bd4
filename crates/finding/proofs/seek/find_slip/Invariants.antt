-- The places that are left give the same result as all of them.
use Rattle.std.proofs.Common.{◌≡◌, ◌-◌}
use Rattle.cells.specs.Search.{first_from}
use Rattle.entry.specs.Stored.{slip_is}
use Rattle.finding.proofs.seek.find_slip.Given as goal

abbrev pub invariant-loop-j : goal.invariant-loop-j
invariant-loop-j l = first_from (slip_is l.slips l.key) l.count 0 ≡ first_from (slip_is l.slips l.key) (l.count - l.j) l.j
