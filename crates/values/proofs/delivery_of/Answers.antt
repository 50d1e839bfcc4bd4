-- `values::delivery_of` meets its contract: each value is taken from where its field stands.
use Rattle.values.proofs.Places.{delivery_is}
use Rattle.values.proofs.delivery_of.Goals as goal

pub returns : goal.returns
returns c = cc (delivery_is c.args.s.now)
