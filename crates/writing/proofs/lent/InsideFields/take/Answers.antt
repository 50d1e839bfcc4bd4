-- `writing::lent::InsideFields::take` meets its contract: the first of the entries are inside where all are.
use Rattle.writing.proofs.Halves.{inside_front}
use Rattle.writing.proofs.lent.InsideFields.take.Goals as goal

pub invariant_of-result-clause-inside : goal.invariant_of-result-clause-inside
invariant_of-result-clause-inside c = inside_front _ _ _ _ c.args.self.inside c.requires
