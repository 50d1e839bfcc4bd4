-- `writer::output::put_record` meets its contract. The invariant: the fields that are left, stored from where the last one ends, make of the output what all of them make of it after the fixed part.
use mathlib.Core.Path.{◌≡◌}
use Prim.Native.Nat.{◌-◌, ◌*◌, ◌≤◌}
use lib.ListN.{length, drop}
use lib.Seq.{sets}
use Rattle.record.specs.Read.{entry_width}
use Rattle.writing.specs.Widths.{width_after}
use Rattle.writing.specs.Write.{entries, optional_of, optional_text}
use Rattle.writer.proofs.output.put_record.Given as goal

abbrev pub invariant-loop-i : goal.invariant-loop-i
invariant-loop-i l = (length l.out ≡ length l.initial.out)
    × (width_after l.at (entries (l.fields.count - l.i) (drop (l.i * entry_width) l.fields.table.now)) ≤ length l.initial.out)
    × (sets l.initial.out l.initial.at (optional_text (optional_of l.fields.contents.now (entries l.fields.count l.fields.table.now))) ≡ sets l.out l.at (optional_text (optional_of l.fields.contents.now (entries (l.fields.count - l.i) (drop (l.i * entry_width) l.fields.table.now)))))
