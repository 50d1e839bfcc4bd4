-- `unpacking::fill` meets its contract. The invariant: the parts that are left, stored in the room as it is, give what all give in the room as it was.
use mathlib.Core.Path.{◌≡◌}
use Prim.Native.Nat.{◌-◌, ◌*◌}
use lib.ListN.{drop}
use lib.Seq.{sets}
use Rattle.parts.specs.Loops.{loop_fields}
use Rattle.parts.specs.Named.{fields_of}
use Rattle.parts.specs.Part.{part_width, parts_of, room_of}
use Rattle.unpacking.proofs.fill.Given as goal

abbrev pub invariant-loop-j : goal.invariant-loop-j
invariant-loop-j l = sets l.initial.room 0 (room_of (parts_of l.loops.count (fields_of l.loops.fields)))
    ≡ sets l.room (l.j * part_width) (room_of (parts_of (l.loops.count - l.j) (drop (l.j * loop_fields) (fields_of l.loops.fields))))
