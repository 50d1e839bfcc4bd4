-- `cells::eight_agree` meets its contract: numbers are the same where their bytes are.
use mathlib.Core.Path.{sym, ap₂, ◌∙◌}
use Rattle.cells.specs.Bytes.{same}
use Rattle.cells.proofs.Numbers.{words_same}
use Rattle.cells.proofs.eight_agree.Goals as goal

pub returns : goal.returns
returns c =
    let first = c.get.ensures in
    let second = c.get-2.ensures in
    sym (words_same 8 _ _ first.number.small second.number.small) ∙ ap₂ same first.bytes second.bytes
