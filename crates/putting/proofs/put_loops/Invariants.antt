-- `putting::put_loops` meets its contract. The invariant: the loops that are left, put where the last one ends, make of the output what all of them make of it.
use mathlib.Core.Path.{◌≡◌}
use Prim.Native.Nat.{◌+◌, ◌-◌, ◌*◌}
use lib.ListN.{length}
use lib.Seq.{sets}
use Rattle.parts.specs.Loops.{loop_fields}
use Rattle.parts.specs.Part.{part_width}
use Rattle.parts.specs.Fields.{lent_fields}
use Rattle.lent_parts.specs.Faults.{first_fault, fields_text}
use Rattle.putting.proofs.put_loops.Given as goal

abbrev pub invariant-loop-j : goal.invariant-loop-j
invariant-loop-j l = (first_fault (lent_fields (l.parts.count - l.j) l.parts.room.now (l.j * part_width)) ≡ (l.parts.count - l.j) * loop_fields)
    × (l.next + length (fields_text (lent_fields (l.parts.count - l.j) l.parts.room.now (l.j * part_width))) ≡ l.at + length (fields_text (lent_fields l.parts.count l.parts.room.now 0)))
    × (sets l.initial.out l.at (fields_text (lent_fields l.parts.count l.parts.room.now 0)) ≡ sets l.out l.next (fields_text (lent_fields (l.parts.count - l.j) l.parts.room.now (l.j * part_width))))
