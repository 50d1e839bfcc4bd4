-- The lines that are left, stored behind those before, make of the room what all of them make of it.
use Rattle.std.proofs.Common.{◌≡◌, ◌-◌, ◌*◌, length}
use lib.Seq.{sets}
use Rattle.entry.specs.Stored.{line_width}
use Rattle.save.specs.Saved.{joined_from}
use Rattle.save.specs.Load.{loaded_line}
use Rattle.filling.proofs.input.take_lines.Given as goal

abbrev pub invariant-loop-i : goal.invariant-loop-i
invariant-loop-i l =
    (length l.lines ≡ length l.initial.lines)
    × (sets l.initial.lines 0 (joined_from (loaded_line l.save.form l.save.bytes.now l.save.line_count l.save.slip_count) l.save.line_count 0)
    ≡ sets l.lines (line_width * l.i) (joined_from (loaded_line l.save.form l.save.bytes.now l.save.line_count l.save.slip_count) (l.save.line_count - l.i) l.i))
