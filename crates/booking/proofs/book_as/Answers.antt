-- `booking::book_as` meets its contract: what is judged to fit fits.
use mathlib.Core.Path.{◌∙◌, sym}
use Rattle.entering.specs.Held.{held}
use Rattle.booking.proofs.Stages.{judged_fits}
use Rattle.booking.proofs.book_as.Goals as goal

pub enter-requires : goal.enter-requires
enter-requires g c =
    judged_fits _ c.args.given.now.bytes.now c.args.roster.now (held c.args.book.now) _ c.requires (sym (rw c.view.ensures at c.judge.ensures) ∙ c.in-Ok.is)
