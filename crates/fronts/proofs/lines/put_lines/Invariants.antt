-- The lines that are left, stored behind those before, make of the output what all of them make of it.
use Rattle.std.proofs.Common.{◌≡◌, ◌-◌, ◌*◌, ℕ, List, ◌∷◌, length, take}
use lib.Seq.{sets}
use Rattle.save.specs.Form.{line_kind, line_body_width, saved_line_width}
use Rattle.save.specs.Saved.{joined_from}
use Rattle.save.specs.declared.form.Form.{Form}
use Rattle.fronts.proofs.lines.put_lines.Given as goal

-- the entry of a line
abbrev pub entry : Form → (ℕ → List ℕ) → ℕ → List ℕ
entry to line i = line_kind to ∷ take (line_body_width to) (line i)

abbrev pub invariant-loop-i : goal.invariant-loop-i
invariant-loop-i g l =
    (length l.out ≡ length l.initial.out)
    × (sets l.initial.out 0 (joined_from (entry l.to (g.L.Bodies.fronts l.lines)) l.n 0) ≡ sets l.out (saved_line_width l.to * l.i) (joined_from (entry l.to (g.L.Bodies.fronts l.lines)) (l.n - l.i) l.i))
