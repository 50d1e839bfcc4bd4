-- What judging the parts of a record gives: its length, or the first refusal.
use Rattle.std.specs.Prelude.{ℕ, Result}
use Rattle.writing.specs.declared.answer.Refusal.{Refusal}

abbrev pub Verdict : Type 0
Verdict = Result ℕ Refusal
