-- `rules::number::number_of` meets its contract. The invariant: what is left completes the number of the whole, and the number so far is small.
use Rattle.std.proofs.Common.{◌∙◌, sym, arith}
use Rattle.rules.proofs.Digits.{one_more, more_fits, number_next}
use Rattle.rules.proofs.number.number_of.Goals as goal

pub overflow_mul-n : goal.overflow_mul-n
overflow_mul-n c = omega (arith, more_fits c.loop-b.b-index c.loop-b.n 0 c.loop-b.invariant.small (omega arith) (omega arith))

pub overflow_add-n : goal.overflow_add-n
overflow_add-n c = omega (arith, more_fits c.loop-b.b-index c.loop-b.n _ c.loop-b.invariant.small (omega arith) c.digit_value.ensures.1)

pub loop-b-preserved : goal.loop-b-preserved
loop-b-preserved c =
    let l = c.loop-b in
    record {
      small = one_more l.b-index l.n _ l.invariant.small c.digit_value.ensures.1;
      rest = rw c.digit_value.ensures.0 (sym (number_next _ l.b-index l.n (omega arith)) ∙ l.invariant.rest);
    }
