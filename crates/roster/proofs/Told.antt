-- What the schools say of an account is what is told of it.
use mathlib.Core.Path.{◌≡◌}
use mathlib.Core.List.{List}
use Prim.Native.Nat.{ℕ}
use lib.Dec.{leb}
use lib.ListN.{length}
use Rattle.std.specs.Prelude.{None, Option, Some}
use Rattle.cells.specs.Bytes.{pick}
use Rattle.cells.proofs.Bools.{split}
use Rattle.roster.specs.Roster.{most_schools}
use Rattle.roster.specs.Schools.{standing_of, not_told, told_of, account_told, said, told_as}
use Rattle.roster.specs.declared.schools.School.{School}

told_standing : (n : ℕ) (s : Option ℕ) → told_as (said n s) ≡ pick (leb n most_schools) (told_of s) (not_told 20)
unfolding said told_as told_of not_told
told_standing n (Some c) = split (leb n most_schools) (λ e. rw e) (λ e. rw e)
told_standing n None = split (leb n most_schools) (λ e. rw e) (λ e. rw e)

pub told_is : (ss : List School) (address qualifier : List ℕ) → told_as (said (length ss) (standing_of ss address qualifier)) ≡ account_told ss address qualifier
unfolding account_told
told_is ss address qualifier = told_standing (length ss) (standing_of ss address qualifier)
