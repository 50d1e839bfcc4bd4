-- `papers::read_full` stays within its room.
use Rattle.std.proofs.Common.{◌≤◌, length}
use Rattle.papers.proofs.read_full.Given as goal

abbrev pub invariant-loop : goal.invariant-loop
invariant-loop g l = l.n ≤ length l.room
