-- `writing::lent::InsideFields::skip` meets its contract: what is left of the table has what is left of the entries.
use native.Mathlib.Omega.{arith}
use Rattle.writing.proofs.Halves.{inside_skip}
use Rattle.std.proofs.lemmas.Grind.{common_steps}
use Rattle.writing.proofs.lent.InsideFields.skip.Goals as goal

pub invariant_of-result-clause-inside : goal.invariant_of-result-clause-inside
invariant_of-result-clause-inside c =
    let h = inside_skip c.args.self.contents.now c.args.first c.args.self.count c.args.self.table.now c.args.self.inside c.requires in
    grind (arith, common_steps, h)
