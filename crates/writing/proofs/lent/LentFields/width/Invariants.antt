-- `writing::lent::LentFields::width` meets its contract. The invariant: what stands before the entries that are left is reckoned, and is not too long.
use mathlib.Core.Path.{◌≡◌}
use Prim.Native.Nat.{◌-◌, ◌*◌, ◌≤◌}
use lib.ListN.{drop}
use Rattle.record.specs.Layout.{most_bytes}
use Rattle.record.specs.Read.{entry_width}
use Rattle.writing.specs.Widths.{width_after}
use Rattle.writing.specs.Write.{entries}
use Rattle.writing.proofs.lent.LentFields.width.Given as goal

abbrev pub invariant-loop-i : goal.invariant-loop-i
invariant-loop-i l = (l.n ≤ most_bytes) × (width_after l.fixed (entries l.self.count l.self.table.now) ≡ width_after l.n (entries (l.self.count - l.i) (drop (l.i * entry_width) l.self.table.now)))
