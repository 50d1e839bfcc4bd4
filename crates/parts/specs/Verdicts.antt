-- What judging the loops of a bundle gives: the number of its parts, or the first refusal.
use Rattle.std.specs.Prelude.{ℕ, Result}
use Rattle.parts.specs.declared.answer.Refusal.{Refusal}

abbrev pub Verdict : Type 0
Verdict = Result ℕ Refusal
