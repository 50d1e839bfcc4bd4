-- The number of each refusal that parts have, and what is said with it (RULES 3.2, 4.5, 5.4).
use Rattle.std.specs.Prelude.{ℕ, Err, Ok}
use Rattle.writing.specs.declared.answer.Written.{Written}
use Rattle.parts.specs.declared.answer.Refusal.{Refusal}
use Rattle.parts.specs.declared.answer.Refusal.TheVariants.{SmallRoom, Broken, TooMany}
use Rattle.parts.specs.Verdicts.{Verdict}
use Rattle.parts.specs.declared.answer.PartsRead.{PartsRead}

unfoldable pub refusal_number : Refusal → ℕ
refusal_number SmallRoom = 23
refusal_number Broken = 26
refusal_number TooMany = 27

-- what reading parts says
unfoldable pub read_of : Verdict → PartsRead
read_of (Err r) = record { answer = refusal_number r; place = 0; parts = 0 }
read_of (Ok n) = record { answer = 0; place = 0; parts = n }

-- what writing with parts says of a refusal for them
unfoldable pub not_written : Refusal → Written
not_written r = record { answer = refusal_number r; place = 0; length = 0 }
