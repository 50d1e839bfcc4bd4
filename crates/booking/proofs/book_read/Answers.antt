-- `booking::book_read` meets its contract: what is asked of an order and of a delivery that were read. No answer names a closing record or a report, so that the edit that exchanges these two is refused at a fact.
use mathlib.Core.Path.{◌∙◌, sym, ap}
use Rattle.std.specs.Prelude.{Some}
use Rattle.booking.proofs.Rooms.{read_so}
use Rattle.booking.proofs.book_read.Goals as goal

pub of-requires : goal.of-requires
of-requires c =
    let arm = c.in-Some-Order in
    read_so _ _ _ (sym c.kind_of.ensures ∙ arm.is ∙ ap Some arm.field-0-is) (sym c.judge_record.ensures ∙ c.in_default.is)

pub of-requires-in-Some-Goods : goal.of-requires-in-Some-Goods
of-requires-in-Some-Goods c =
    let arm = c.in-Some-Goods in
    read_so _ _ _ (sym c.kind_of.ensures ∙ arm.is ∙ ap Some arm.field-0-is) (sym c.judge_record.ensures ∙ c.in_default.is)
