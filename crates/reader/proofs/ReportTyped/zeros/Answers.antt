-- `reader::ReportTyped::zeros` meets its contract: the derived zeros, field by field.
use Rattle.reader.proofs.Zeros.{zero_bytes}
use Rattle.reader.proofs.ReportTyped.zeros.Goals as goal

pub returns : goal.returns
returns c =
    let sender = c.default.ensures.0 in
    let recipient = c.default.ensures.1.0 in
    let slip = c.default.ensures.1.1.0 in
    let reference = c.default.ensures.1.1.1.0 in
    let article = c.default.ensures.1.1.1.1.0 in
    let message = c.default.ensures.1.1.1.1.1.0 in
    let hold = c.default.ensures.1.1.1.1.1.1.0 in
    let expected = c.default.ensures.1.1.1.1.1.1.1 in
    λ i. record {
      sender = record { address = zero_bytes 10 _ sender.0 i; qualifier = zero_bytes 2 _ sender.1 i };
      recipient = record { address = zero_bytes 10 _ recipient.0 i; qualifier = zero_bytes 2 _ recipient.1 i };
      slip = zero_bytes 10 _ slip i;
      reference = zero_bytes 10 _ reference i;
      article = record { number = zero_bytes 13 _ article.0 i; qualifier = zero_bytes 2 _ article.1 i };
      message = message i;
      hold = hold i;
      expected = expected i;
    }
