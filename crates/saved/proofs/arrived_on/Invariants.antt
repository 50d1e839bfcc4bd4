-- The sum so far and that of the slips that are left give the whole sum; each slip adds less than 65,536.
use Rattle.std.proofs.Common.{◌≡◌, ◌+◌, ◌-◌, ◌*◌, ◌≤◌}
use Rattle.cells.specs.Search.{sum_from}
use Rattle.save.specs.Entries.{copies_on}
use Rattle.save.specs.Saved.{slip_in}
use Rattle.saved.proofs.arrived_on.Given as goal

abbrev pub invariant-loop-j : goal.invariant-loop-j
invariant-loop-j l =
    (l.sum ≤ 65535 * l.j)
    × (sum_from (copies_on (slip_in l.slips.bytes.now l.slips.at) l.i) l.slips.count 0 ≡ l.sum + sum_from (copies_on (slip_in l.slips.bytes.now l.slips.at) l.i) (l.slips.count - l.j) l.j)
