-- The number and the place of each refusal of reading (RULES 3.2, 4.1).
use Rattle.std.specs.Prelude.{ℕ, Err, Ok}
use Rattle.record.specs.Layout.{most_bytes}
use Rattle.record.specs.declared.answer.Refusal.{Refusal}
use Rattle.record.specs.declared.answer.Refusal.TheVariants.{TooLong, UnknownKind, TooShort, Byte, FixedField, NoField, LastField, TooManyFields, Content, Group, SmallTable}
use Rattle.record.specs.Verdicts.{Verdict}
use Rattle.record.specs.declared.answer.Checked.{Checked}

unfoldable pub refusal_number : Refusal → ℕ
refusal_number TooLong = 1
refusal_number UnknownKind = 2
refusal_number (TooShort p) = 3
refusal_number (Byte p) = 4
refusal_number (FixedField p) = 5
refusal_number (NoField p) = 6
refusal_number (LastField p) = 7
refusal_number (TooManyFields p) = 8
refusal_number (Content p) = 9
refusal_number (Group p) = 10
refusal_number SmallTable = 23

unfoldable pub refusal_place : Refusal → ℕ
refusal_place TooLong = most_bytes
refusal_place UnknownKind = 0
refusal_place (TooShort p) = p
refusal_place (Byte p) = p
refusal_place (FixedField p) = p
refusal_place (NoField p) = p
refusal_place (LastField p) = p
refusal_place (TooManyFields p) = p
refusal_place (Content p) = p
refusal_place (Group p) = p
refusal_place SmallTable = 0

-- what a refusal says, and what a reading that is done says (RULES 3.1)
unfoldable pub checked_of : Verdict → Checked
checked_of (Err r) = record { answer = refusal_number r; place = refusal_place r; fields = 0 }
checked_of (Ok n) = record { answer = 0; place = 0; fields = n }

-- the first refusal of two stages
infixr 20 ◌then◌
unfoldable pub ◌then◌ : Verdict → Verdict → Verdict
Err r then b = Err r
Ok n then b = b
