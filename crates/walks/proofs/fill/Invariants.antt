-- What is left to store gives the same table as all of it.
use Rattle.std.proofs.Common.{◌≡◌, ◌+◌, ◌-◌, ◌*◌, ◌≤◌, drop, length}
use Rattle.std.proofs.lemmas.List.Edits.{sets}
use Rattle.record.specs.Fields.{entries_of}
use Rattle.walks.proofs.fill.Given as goal

abbrev pub invariant-loop-i : goal.invariant-loop-i
invariant-loop-i l = (l.at ≤ length l.s + l.i * 5) × (length l.table ≡ length l.initial.table)
    × (sets l.initial.table 0 (entries_of l.n l.from (drop l.from l.s)) ≡ sets l.table (l.i * 3) (entries_of (l.n - l.i) l.at (drop l.at l.s)))
