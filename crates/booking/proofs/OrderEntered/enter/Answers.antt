-- Where a record of this kind fits, there is room.
use Rattle.entering.specs.Held.{held}
use Rattle.booking.proofs.Rooms.{order_room}
use Rattle.booking.proofs.OrderEntered.enter.Goals as goal

pub enter_order-requires : goal.enter_order-requires
enter_order-requires c = order_room c.args.order.now.bytes.now (held c.args.book.now) c.args.i c.requires
