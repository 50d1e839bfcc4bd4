-- `rules::rule::is_day_count` meets its contract: a field of the class is no longer than three.
use Rattle.std.proofs.Common.{arith}
use Rattle.cells.proofs.Bools.{is_so}
use Rattle.signs.proofs.Fits.{at_most}
use Rattle.rules.proofs.rule.is_day_count.Goals as goal

pub number_of-n-requires : goal.number_of-n-requires
number_of-n-requires c = omega (arith, at_most _ 1 3 _ (is_so c.of_class.ensures c.if-not-of_class.false))
