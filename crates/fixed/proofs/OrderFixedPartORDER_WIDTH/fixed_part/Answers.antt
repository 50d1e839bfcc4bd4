-- `fixed_part` of an order meets its contract: each field stands behind the one before, and together they fill the array.
use mathlib.Core.Path.{refl}
use native.Mathlib.Omega.{arith}
use Rattle.writing.specs.Typed.{order_fields, order_bytes}
use Rattle.writing.proofs.Decimals.{number_length}
use Rattle.writing.proofs.Days.{day_length}
use Rattle.cells.proofs.Filled.{filled_end, filled_next, filled_two, filled_whole}
use Rattle.fixed.proofs.OrderFixedPartORDER_WIDTH.fixed_part.Goals as goal

pub returns : goal.returns
unfolding order_bytes order_fields
returns c =
    filled_whole {ps = order_fields c.args.self}
    (filled_next c.paste_at.ensures refl
    (filled_two {v = 10} {w = 2} c.put_party.ensures (omega arith) (omega arith)
    (filled_two {v = 10} {w = 2} c.put_party-2.ensures (omega arith) (omega arith)
    (filled_next (rw c.day_bytes.ensures at c.paste_at-2.ensures) (day_length _)
    (filled_next {w = 10} c.paste_at-3.ensures (omega arith)
    (filled_two {v = 13} {w = 2} c.put_article.ensures (omega arith) (omega arith)
    (filled_next c.put_number.ensures (number_length 4 _)
    (filled_next {w = 2} c.paste_at-4.ensures (omega arith) filled_end))))))))
