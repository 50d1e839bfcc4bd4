-- What judging a record gives: the number of its optional fields, or the first refusal.
use Rattle.std.specs.Prelude.{ℕ, Result}
use Rattle.record.specs.declared.answer.Refusal.{Refusal}

abbrev pub Verdict : Type 0
Verdict = Result ℕ Refusal
