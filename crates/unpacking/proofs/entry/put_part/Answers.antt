-- `unpacking::entry::put_part` meets its contract: each value stands behind the one before.
use mathlib.Core.Path.{refl}
use Rattle.cells.proofs.Filled.{filled_end, filled_first, filled_next}
use Rattle.parts.specs.Part.{part_bytes}
use Rattle.unpacking.proofs.Wide.{part_wide, price_length, stored}
use Rattle.unpacking.proofs.entry.put_part.Goals as goal

pub returns : goal.returns
unfolding part_bytes
returns c =
    let wide = part_wide c.args.p _ c.well_formed.1.1.0 in
    stored
    (filled_first c.put_byte.ensures refl
    (filled_next (rw c.into.ensures at c.put_byte-2.ensures) refl
    (filled_next c.put_price.ensures (price_length wide.net)
    (filled_next c.put_price-2.ensures (price_length wide.list)
    (filled_next c.put_byte-3.ensures refl
    (filled_next c.paste_at.ensures wide.article.bytes
    (filled_next c.paste_at-2.ensures wide.article.qualifier filled_end)))))))
