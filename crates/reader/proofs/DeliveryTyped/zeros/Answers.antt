-- `reader::DeliveryTyped::zeros` meets its contract: the derived zeros, field by field.
use Rattle.reader.proofs.Zeros.{zero_bytes}
use Rattle.reader.proofs.DeliveryTyped.zeros.Goals as goal

pub returns : goal.returns
returns c =
    let sender = c.default.ensures.0 in
    let recipient = c.default.ensures.1.0 in
    let date = c.default.ensures.1.1.0 in
    let slip = c.default.ensures.1.1.1.0 in
    let position = c.default.ensures.1.1.1.1.0 in
    let reference = c.default.ensures.1.1.1.1.1.0 in
    let article = c.default.ensures.1.1.1.1.1.1.0 in
    let quantity = c.default.ensures.1.1.1.1.1.1.1.0 in
    let price = c.default.ensures.1.1.1.1.1.1.1.1.0 in
    let pricing = c.default.ensures.1.1.1.1.1.1.1.1.1.0 in
    let currency = c.default.ensures.1.1.1.1.1.1.1.1.1.1.0 in
    let discount = c.default.ensures.1.1.1.1.1.1.1.1.1.1.1.0 in
    let tax = c.default.ensures.1.1.1.1.1.1.1.1.1.1.1.1 in
    λ i. record {
      sender = record { address = zero_bytes 10 _ sender.0 i; qualifier = zero_bytes 2 _ sender.1 i };
      recipient = record { address = zero_bytes 10 _ recipient.0 i; qualifier = zero_bytes 2 _ recipient.1 i };
      date = record { year = date.0 i; month = date.1.0 i; day = date.1.1 i };
      slip = zero_bytes 10 _ slip i;
      position = zero_bytes 4 _ position i;
      reference = zero_bytes 10 _ reference i;
      article = record { number = zero_bytes 13 _ article.0 i; qualifier = zero_bytes 2 _ article.1 i };
      quantity = record { 0 = quantity i };
      price = record { 0 = price i };
      pricing = zero_bytes 2 _ pricing i;
      currency = zero_bytes 3 _ currency i;
      discount = record { 0 = discount i };
      tax = tax i;
    }
