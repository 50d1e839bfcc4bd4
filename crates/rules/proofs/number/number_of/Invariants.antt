-- `rules::number::number_of` meets its contract. The invariant: what is left completes the number of the whole, and the number so far is small.
use Rattle.std.proofs.Common.{◌≡◌, ◌+◌, ◌*◌, ◌^◌, ◌≤◌, drop}
use Rattle.rules.specs.Number.{number, number_from}
use Rattle.rules.proofs.number.number_of.Given as goal

abbrev pub invariant-loop-b : goal.invariant-loop-b
invariant-loop-b l = record { small : l.n + 23 ≤ 23 * 10 ^ l.b-index; rest : number_from l.n (drop l.b-index l.s) ≡ number l.s }
