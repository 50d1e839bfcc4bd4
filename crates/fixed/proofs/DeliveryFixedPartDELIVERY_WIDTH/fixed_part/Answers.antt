-- `fixed_part` of a delivery meets its contract: each field stands behind the one before, and together they fill the array.
use mathlib.Core.Path.{refl}
use native.Mathlib.Omega.{arith}
use Rattle.cells.specs.Bytes.{joined}
use Rattle.writing.specs.Typed.{delivery_fields, delivery_bytes}
use Rattle.writing.proofs.Decimals.{number_length}
use Rattle.writing.proofs.Days.{delivery_day_length}
use Rattle.cells.proofs.Filled.{filled_last, filled_next, filled_two, filled_whole}
use Rattle.std.proofs.lemmas.Grind.{common_steps}
use Rattle.fixed.proofs.DeliveryFixedPartDELIVERY_WIDTH.fixed_part.Goals as goal

pub returns : goal.returns
unfolding joined delivery_bytes delivery_fields
returns c =
    filled_whole {ps = delivery_fields c.args.self}
    (filled_next c.paste_at.ensures refl
    (filled_two {v = 10} {w = 2} c.put_party.ensures (omega arith) (omega arith)
    (filled_two {v = 10} {w = 2} c.put_party-2.ensures (omega arith) (omega arith)
    (filled_next (rw c.delivery_day_bytes.ensures at c.paste_at-2.ensures) (delivery_day_length _)
    (filled_next {w = 10} c.paste_at-3.ensures (omega arith)
    (filled_next {w = 4} c.paste_at-4.ensures (omega arith)
    (filled_next {w = 10} c.paste_at-5.ensures (omega arith)
    (filled_two {v = 13} {w = 2} c.put_article.ensures (omega arith) (omega arith)
    (filled_last {w = 33} c.put_amounts.ensures (grind (arith, common_steps, number_length)))))))))))
