-- The entries that are left give the same result as all of them.
use Rattle.std.proofs.Common.{◌≡◌, ◌-◌, take}
use mathlib.Core.Bool.{not}
use Rattle.cells.specs.Bytes.{same}
use Rattle.cells.specs.Search.{all_from}
use Rattle.saved.proofs.keyed.is_new.Given as goal

abbrev pub invariant-loop-e : goal.invariant-loop-e
invariant-loop-e g l =
    all_from (λ e. not (same (take g.E.Keyed.key_width (g.E.Keyed.bodies l.entries e)) l.key)) l.before 0
    ≡ all_from (λ e. not (same (take g.E.Keyed.key_width (g.E.Keyed.bodies l.entries e)) l.key)) (l.before - l.e) l.e
