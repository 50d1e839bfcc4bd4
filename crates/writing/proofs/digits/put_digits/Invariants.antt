-- `writing::digits::put_digits` meets its contract. The invariant: what is left to store makes of the slice what storing all the digits makes of it at first.
use mathlib.Core.Path.{◌≡◌}
use lib.ListN.{length}
use lib.Seq.{sets}
use Rattle.writing.specs.Digits.{digits_of}
use Rattle.writing.proofs.digits.put_digits.Given as goal

abbrev pub invariant-loop-i : goal.invariant-loop-i
invariant-loop-i l = (length l.out ≡ length l.initial.out) × (sets l.initial.out l.at (digits_of l.width l.number) ≡ sets l.out l.at (digits_of l.i l.n))
