-- `writing::lent::LentFields::judge` meets its contract. The invariant: the fields that are left are judged as all are.
use Rattle.std.specs.Prelude.{None}
use mathlib.Core.Path.{◌≡◌}
use Prim.Native.Nat.{◌-◌, ◌*◌}
use lib.ListN.{drop}
use Rattle.record.specs.Read.{entry_width}
use Rattle.writing.specs.Write.{entries, fields_judged}
use Rattle.writing.proofs.lent.LentFields.judge.Given as goal

abbrev pub invariant-loop-i : goal.invariant-loop-i
invariant-loop-i l = fields_judged l.k l.self.contents.now None 0 (entries l.self.count l.self.table.now) ≡ fields_judged l.k l.self.contents.now l.before l.i (entries (l.self.count - l.i) (drop (l.i * entry_width) l.self.table.now))
