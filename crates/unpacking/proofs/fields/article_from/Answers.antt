-- `unpacking::fields::article_from` meets its contract: no more bytes are taken than an article has.
use mathlib.Core.Path.{ap}
use native.Mathlib.Omega.{arith}
use lib.ListN.{length}
use Rattle.rules.proofs.Parts.{part_most}
use Rattle.unpacking.proofs.fields.article_from.Goals as goal

pub overflow_cast-result : goal.overflow_cast-result
overflow_cast-result c = omega (arith, ap length c.part-text.ensures, part_most 0 35 c.text.result.now)
