-- `unpacking::entry::put_price` meets its contract: each value stands behind the one before.
use mathlib.Core.Path.{refl}
use Rattle.cells.specs.Little.{le_bytes}
use Rattle.cells.proofs.Filled.{filled_end, filled_first, filled_next}
use Rattle.parts.specs.Part.{price_bytes}
use Rattle.unpacking.proofs.Wide.{price_wide, stored}
use Rattle.unpacking.proofs.entry.put_price.Goals as goal

pub returns : goal.returns
unfolding price_bytes le_bytes
returns c =
    let wide = price_wide c.args.p _ c.well_formed.1.1.0 in
    stored
    (filled_first c.put.ensures refl
    (filled_next c.put_byte.ensures refl
    (filled_next c.paste_at.ensures wide.qualifier
    (filled_next c.paste_at-2.ensures wide.currency filled_end))))
