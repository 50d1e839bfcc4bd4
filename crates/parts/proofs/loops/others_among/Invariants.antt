-- `parts::loops::others_among` meets its contract. The invariant: those that were passed and those that stand before a loop in what is left are all that do.
use mathlib.Core.Path.{◌≡◌}
use Prim.Native.Nat.{◌+◌, ◌-◌, ◌*◌}
use lib.ListN.{drop}
use Rattle.record.specs.Read.{entry_width}
use Rattle.writing.specs.Write.{entries}
use Rattle.parts.specs.Entries.{others_among}
use Rattle.parts.proofs.loops.others_among.Given as goal

abbrev pub invariant-loop-i : goal.invariant-loop-i
invariant-loop-i l = others_among (entries l.n l.table) ≡ l.i + others_among (entries (l.n - l.i) (drop (l.i * entry_width) l.table))
