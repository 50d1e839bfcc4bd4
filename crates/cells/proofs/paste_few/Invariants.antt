-- What is left to store makes of the slice what all of it made.
use Rattle.std.proofs.Common.{◌≡◌, ◌+◌, length, drop}
use Rattle.std.proofs.lemmas.List.Edits.{sets}
use Rattle.cells.proofs.paste_few.Given as goal

abbrev pub invariant-loop-i : goal.invariant-loop-i
invariant-loop-i l = (length l.dst ≡ length l.initial.dst) × (sets l.initial.dst l.at l.src ≡ sets l.dst (l.at + l.i) (drop l.i l.src))
