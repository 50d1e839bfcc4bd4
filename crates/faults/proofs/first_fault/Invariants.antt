-- `faults::first_fault` meets its contract. The invariant: the first fault of all fields is the first of those that are left, behind those before.
use mathlib.Core.Path.{◌≡◌}
use Prim.Native.Nat.{◌+◌, ◌-◌, ◌*◌}
use Rattle.parts.specs.Loops.{loop_fields}
use Rattle.parts.specs.Part.{part_width}
use Rattle.parts.specs.Fields.{lent_fields}
use Rattle.lent_parts.specs.Faults.{first_fault}
use Rattle.faults.proofs.first_fault.Given as goal

abbrev pub invariant-loop-j : goal.invariant-loop-j
invariant-loop-j l = first_fault (lent_fields l.parts.count l.parts.room.now 0) ≡ l.j * loop_fields + first_fault (lent_fields (l.parts.count - l.j) l.parts.room.now (l.j * part_width))
