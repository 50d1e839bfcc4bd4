-- The fields passed end where the next one starts.
use Rattle.std.proofs.Common.{◌≡◌, take}
use Rattle.record.specs.Layout.{layout, total}
use Rattle.record.proofs.layout.start_of.Given as goal

abbrev pub invariant-loop-f : goal.invariant-loop-f
invariant-loop-f l = l.at ≡ total (take l.f-index (layout l.fn.k))
