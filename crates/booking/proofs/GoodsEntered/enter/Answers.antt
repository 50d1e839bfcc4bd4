-- Where a record of this kind fits, there is room.
use Rattle.entering.specs.Held.{held}
use Rattle.booking.proofs.Rooms.{goods_room}
use Rattle.booking.proofs.GoodsEntered.enter.Goals as goal

pub enter_goods-requires : goal.enter_goods-requires
enter_goods-requires c = goods_room c.args.goods.now.bytes.now (held c.args.book.now) c.args.i c.requires
