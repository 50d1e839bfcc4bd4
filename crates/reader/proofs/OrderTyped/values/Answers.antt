-- A record that is judged as an order has an order's fixed part.
use Rattle.reader.proofs.Fitting.{order_wide}
use Rattle.reader.proofs.OrderTyped.values.Goals as goal

pub order_of-requires : goal.order_of-requires
order_of-requires c = order_wide _ _ c.requires.1
