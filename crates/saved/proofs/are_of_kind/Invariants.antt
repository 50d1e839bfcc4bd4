-- The entries that are left give the same result as all of them.
use Rattle.std.proofs.Common.{◌≡◌, ◌+◌, ◌-◌, ◌*◌, ℕ, Bool, List, get_or}
use lib.Dec.{eqb}
use Rattle.cells.specs.Search.{all_from}
use Rattle.saved.proofs.are_of_kind.Given as goal

-- the entry at i begins with the kind
abbrev pub begins : ℕ → ℕ → ℕ → List ℕ → ℕ → Bool
begins kind width from s i = eqb (get_or s (from + width * i) 0) kind

abbrev pub invariant-loop-i : goal.invariant-loop-i
invariant-loop-i l = all_from (begins l.kind l.width l.from l.s) l.count 0 ≡ all_from (begins l.kind l.width l.from l.s) (l.count - l.i) l.i
