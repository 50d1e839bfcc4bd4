-- `roster::schools::find_school` meets its contract. The invariant: the schools that are left give the same result as all of them.
use Rattle.std.proofs.Common.{◌≡◌, ◌-◌, length}
use Rattle.cells.specs.Search.{first_from}
use Rattle.roster.specs.Schools.{is_account, find_school}
use Rattle.roster.proofs.schools.find_school.Given as goal

abbrev pub invariant-loop-i : goal.invariant-loop-i
invariant-loop-i l = find_school l.schools l.account.address.now l.account.qualifier.now ≡ first_from (is_account l.schools l.account.address.now l.account.qualifier.now) (length l.schools - l.i) l.i
