-- The places that are left give the same result as all of them.
use Rattle.std.proofs.Common.{◌≡◌, ◌-◌}
use Rattle.cells.specs.Search.{all_from}
use Rattle.entry.specs.Stored.{slip_sound}
use Rattle.finding.proofs.seek.are_slips_sound.Given as goal

abbrev pub invariant-loop-j : goal.invariant-loop-j
invariant-loop-j l = all_from (slip_sound l.lines l.slips) l.count 0 ≡ all_from (slip_sound l.lines l.slips) (l.count - l.j) l.j
