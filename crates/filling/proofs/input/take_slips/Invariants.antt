-- The slips that are left, stored behind those before, make of the room what all of them make of it.
use Rattle.std.proofs.Common.{◌≡◌, ◌-◌, ◌*◌, length}
use lib.Seq.{sets}
use Rattle.entry.specs.Stored.{slip_width}
use Rattle.save.specs.Saved.{joined_from, slip_in}
use Rattle.filling.proofs.input.take_slips.Given as goal

abbrev pub invariant-loop-j : goal.invariant-loop-j
invariant-loop-j l =
    (length l.slips ≡ length l.initial.slips)
    × (sets l.initial.slips 0 (joined_from (slip_in l.from.bytes.now l.from.at) l.from.count 0)
    ≡ sets l.slips (slip_width * l.j) (joined_from (slip_in l.from.bytes.now l.from.at) (l.from.count - l.j) l.j))
