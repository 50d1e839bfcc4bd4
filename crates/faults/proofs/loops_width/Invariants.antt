-- `faults::loops_width` meets its contract. The invariant: the width so far, at most 131 bytes a part, and that of the fields that are left are the width of all.
use mathlib.Core.Path.{◌≡◌}
use Prim.Native.Nat.{◌+◌, ◌-◌, ◌*◌, ◌≤◌}
use lib.ListN.{length}
use Rattle.parts.specs.Part.{part_width}
use Rattle.parts.specs.Fields.{lent_fields}
use Rattle.lent_parts.specs.Faults.{fields_text}
use Rattle.faults.proofs.loops_width.Given as goal

abbrev pub invariant-loop-j : goal.invariant-loop-j
invariant-loop-j l = (l.width ≤ l.j * 131)
    × (length (fields_text (lent_fields l.parts.count l.parts.room.now 0)) ≡ l.width + length (fields_text (lent_fields (l.parts.count - l.j) l.parts.room.now (l.j * part_width))))
