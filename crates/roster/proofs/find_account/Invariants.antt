-- `roster::find_account` meets its contract. The invariant: the entries that are left give the same result as all of them.
use Rattle.std.proofs.Common.{◌≡◌, ◌-◌}
use Rattle.cells.specs.Search.{first_from}
use Rattle.roster.specs.Roster.{entries, find_account, account_is}
use Rattle.roster.proofs.find_account.Given as goal

abbrev pub invariant-loop-i : goal.invariant-loop-i
invariant-loop-i l = find_account l.roster l.account ≡ first_from (account_is l.roster l.account) (entries l.roster - l.i) l.i
