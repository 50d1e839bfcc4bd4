-- The slips that are left, stored behind those before, make of the output what all of them make of it.
use Rattle.std.proofs.Common.{◌≡◌, ◌+◌, ◌-◌, ◌*◌, ℕ, List, ◌∷◌, length}
use lib.Seq.{sets}
use Rattle.save.specs.Saved.{slip_kind, saved_slip_width, slip_body_at, joined_from}
use Rattle.filling.proofs.output.put_slips.Given as goal

-- the entry of a slip
abbrev pub entry : List ℕ → ℕ → List ℕ
entry slips j = slip_kind ∷ slip_body_at slips j

abbrev pub invariant-loop-j : goal.invariant-loop-j
invariant-loop-j l =
    (length l.out ≡ length l.initial.out)
    × (sets l.initial.out l.start (joined_from (entry l.slips) l.m 0) ≡ sets l.out (l.start + saved_slip_width * l.j) (joined_from (entry l.slips) (l.m - l.j) l.j))
