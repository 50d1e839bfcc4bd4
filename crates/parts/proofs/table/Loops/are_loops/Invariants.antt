-- `parts::table::Loops::are_loops` meets its contract. The invariant: the fields that are left are the loops that are left just where all are all.
use mathlib.Core.Path.{◌≡◌}
use Prim.Native.Nat.{◌-◌, ◌*◌}
use lib.ListN.{drop}
use Rattle.parts.specs.Loops.{loop_fields, are_loops}
use Rattle.parts.specs.Named.{fields_of}
use Rattle.parts.proofs.table.Loops.are_loops.Given as goal

abbrev pub invariant-loop-j : goal.invariant-loop-j
invariant-loop-j l = are_loops l.self.count (fields_of l.self.fields) ≡ are_loops (l.self.count - l.j) (drop (l.j * loop_fields) (fields_of l.self.fields))
