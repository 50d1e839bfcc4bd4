-- The bytes passed and the content from there on come to the whole content.
use Rattle.std.proofs.Common.{◌≡◌, ◌+◌, drop}
use Rattle.cells.specs.Bytes.{run}
use Rattle.record.specs.Fields.{not_star}
use Rattle.walks.proofs.content_width.Given as goal

abbrev pub invariant-loop-i : goal.invariant-loop-i
invariant-loop-i l = l.i + run not_star (drop l.i l.rest) ≡ run not_star l.rest
