-- `faults::are_lent_loops` meets its contract. The invariant: the parts that are left are loops just where all are.
use mathlib.Core.Path.{◌≡◌}
use Prim.Native.Nat.{◌-◌, ◌*◌}
use Rattle.parts.specs.Loops.{are_loops}
use Rattle.parts.specs.Part.{part_width}
use Rattle.parts.specs.Fields.{lent_fields}
use Rattle.faults.proofs.are_lent_loops.Given as goal

abbrev pub invariant-loop-j : goal.invariant-loop-j
invariant-loop-j l = are_loops l.parts.count (lent_fields l.parts.count l.parts.room.now 0) ≡ are_loops (l.parts.count - l.j) (lent_fields (l.parts.count - l.j) l.parts.room.now (l.j * part_width))
