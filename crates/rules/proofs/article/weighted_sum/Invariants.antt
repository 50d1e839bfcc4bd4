-- `rules::article::weighted_sum` meets its contract. The invariant: the sum so far and what is left make the whole, and the sum is small for each term passed.
use Rattle.std.proofs.Common.{◌≡◌, ◌+◌, ◌*◌, ◌≤◌, drop}
use Rattle.rules.specs.Article.{weighted}
use Rattle.rules.proofs.article.weighted_sum.Given as goal

abbrev pub invariant-loop-i : goal.invariant-loop-i
invariant-loop-i l = record { small : l.sum ≤ 2070 * l.i; rest : l.sum + weighted (drop l.i l.weights) (drop l.i l.s) ≡ weighted l.weights l.s }
