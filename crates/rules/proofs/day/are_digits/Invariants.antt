-- `rules::day::are_digits` meets its contract. The invariant: what is kept so far and the test of what is left make the test of the whole.
use Rattle.std.proofs.Common.{◌≡◌, ◌&&◌, drop}
use Rattle.cells.specs.Bytes.{all}
use Rattle.signs.specs.Class.{belongs}
use Rattle.signs.specs.declared.Class.TheVariants.{Digit}
use Rattle.rules.proofs.day.are_digits.Given as goal

abbrev pub invariant-loop-b : goal.invariant-loop-b
invariant-loop-b l = (l.kept && all (belongs Digit) (drop l.b-index l.s)) ≡ all (belongs Digit) l.s
