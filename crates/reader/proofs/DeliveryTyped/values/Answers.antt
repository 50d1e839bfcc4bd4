-- A record that is judged as a delivery has a delivery's fixed part.
use Rattle.reader.proofs.Fitting.{delivery_wide}
use Rattle.reader.proofs.DeliveryTyped.values.Goals as goal

pub delivery_of-requires : goal.delivery_of-requires
delivery_of-requires c = delivery_wide _ _ c.requires.1
