-- The index and the one among the fields that are left come to the index among all.
use Rattle.std.proofs.Common.{◌≡◌, ◌+◌, drop}
use Rattle.record.specs.Layout.{layout}
use Rattle.writing.specs.Write.{field_holding}
use Rattle.writing.proofs.fixed.field_holding.Given as goal

abbrev pub invariant-loop-i : goal.invariant-loop-i
invariant-loop-i l = l.i + field_holding (drop l.i l.fields) l.left ≡ field_holding (layout l.fn.k) l.fn.place
