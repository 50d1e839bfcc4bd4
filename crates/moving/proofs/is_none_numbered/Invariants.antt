-- The lines that are left give the same result as all of them.
use Rattle.std.proofs.Common.{◌≡◌, ◌-◌, ℕ, Bool, List}
use mathlib.Core.Bool.{not}
use Rattle.cells.specs.Search.{all_from}
use Rattle.save.specs.Saved.{line_in}
use Rattle.save.specs.Moves.{is_numbered}
use Rattle.save.specs.declared.form.Form.TheVariants.{New}
use Rattle.moving.proofs.is_none_numbered.Given as goal

-- the message of the line at i is no number
abbrev pub passes : List ℕ → ℕ → Bool
passes s i = not (is_numbered (line_in New s i))

abbrev pub invariant-loop-i : goal.invariant-loop-i
invariant-loop-i l = all_from (passes l.save.bytes.now) l.save.line_count 0 ≡ all_from (passes l.save.bytes.now) (l.save.line_count - l.i) l.i
