-- `signs::run_of` meets its contract. The invariant: the bytes passed and the run of what is left make the run of the whole.
use Rattle.std.proofs.Common.{◌≡◌, ◌+◌, drop}
use Rattle.cells.specs.Bytes.{run}
use Rattle.signs.specs.Class.{belongs}
use Rattle.signs.proofs.run_of.Given as goal

abbrev pub invariant-loop-i : goal.invariant-loop-i
invariant-loop-i l = run (belongs l.c) l.s ≡ l.i + run (belongs l.c) (drop l.i l.s)
