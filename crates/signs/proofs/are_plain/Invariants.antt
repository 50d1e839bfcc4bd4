-- `signs::are_plain` meets its contract. The invariant: what is kept so far and the test of what is left make the test of the whole.
use Rattle.std.proofs.Common.{◌≡◌, ◌&&◌, drop}
use Rattle.cells.specs.Bytes.{all}
use Rattle.signs.specs.Class.{plain}
use Rattle.signs.proofs.are_plain.Given as goal

abbrev pub invariant-loop-b : goal.invariant-loop-b
invariant-loop-b l = (l.kept && all plain (drop l.b-index l.s)) ≡ all plain l.s
