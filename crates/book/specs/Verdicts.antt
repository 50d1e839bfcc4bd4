-- What the book says of a record: the index of the line that is added or changed, or the first refusal.
use Rattle.std.specs.Prelude.{ℕ, Result}
use Rattle.book.specs.declared.answer.Refused.{Refused}

abbrev pub Verdict : Type 0
Verdict = Result ℕ Refused
