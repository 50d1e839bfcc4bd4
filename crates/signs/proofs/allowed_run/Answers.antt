-- `signs::allowed_run` meets its contract: where each byte is plain, and so allowed, the run is the whole.
use mathlib.Core.Path.{◌∙◌, sym}
use Rattle.cells.proofs.Lists.{all_weaker}
use Rattle.signs.specs.Class.{plain, belongs}
use Rattle.signs.specs.declared.Class.TheVariants.{Allowed}
use Rattle.signs.proofs.Classes.{plain_allowed}
use Rattle.signs.proofs.Runs.{all_whole}
use Rattle.signs.proofs.allowed_run.Goals as goal

pub returns-then-are_plain : goal.returns-then-are_plain
returns-then-are_plain c =
    sym (all_whole _ _ (all_weaker plain (belongs Allowed) plain_allowed _ (sym c.are_plain.ensures ∙ c.if-are_plain.true)))
