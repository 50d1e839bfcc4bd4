-- `rules::article::is_gs1` meets its contract: a field of the class is no longer than thirteen.
use Rattle.std.proofs.Common.{refl, arith}
use Rattle.cells.specs.Bytes.{all}
use Rattle.cells.proofs.Bools.{is_so}
use Rattle.signs.proofs.Fits.{at_most}
use Rattle.rules.proofs.article.is_gs1.Goals as goal

pub weighted_sum-requires : goal.weighted_sum-requires
unfolding all
weighted_sum-requires c =
    (at_most _ 13 13 _ (is_so c.of_class.ensures c.if-not-of_class.false), omega arith, refl)
