-- What the promises of the roster give: two results that satisfy one are equal.
use mathlib.Core.Path.{◌≡◌, ◌∙◌, sym}
use mathlib.Core.List.{List}
use Prim.Native.Nat.{ℕ}
use Rattle.roster.specs.Roster.{standing}
use Rattle.roster.specs.Schools.{account_told}
use Rattle.std.specs.Prelude.{Option}
use Rattle.roster.specs.declared.schools.School.{School}
use Rattle.roster.specs.declared.schools.AccountTold.{AccountTold}

-- `roster::standing_on`: what the roster says of an account is fixed by both
pub standing_unique : (roster account : List ℕ) (says says' : Option ℕ) → says ≡ standing roster account → says' ≡ standing roster account → says ≡ says'
standing_unique roster account says says' p q = p ∙ sym q

-- `wq_account`: so are the answer, the place and the ceiling, by the schools, the address and the qualifier; nothing that is lent can be changed
pub account_unique : (schools : List School) (address qualifier : List ℕ) (told told' : AccountTold)
    → told ≡ account_told schools address qualifier → told' ≡ account_told schools address qualifier → told ≡ told'
account_unique schools address qualifier told told' p q = p ∙ sym q
