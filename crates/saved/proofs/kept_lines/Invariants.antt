-- The lines that are left give the same result as all of them.
use Rattle.std.proofs.Common.{◌≡◌, ◌-◌, ℕ, Bool, List, ◌&&◌}
use Rattle.cells.specs.Search.{all_from}
use Rattle.entry.specs.Stored.{key_width}
use Rattle.save.specs.Entries.{line_kept, is_first}
use Rattle.save.specs.Saved.{line_in}
use Rattle.save.specs.declared.form.Form.{Form}
use Rattle.saved.proofs.kept_lines.Given as goal

-- the line at i keeps the rules, and no earlier line has its key
abbrev pub kept : Form → List ℕ → ℕ → Bool
kept form s i = line_kept (line_in form s i) && is_first key_width (line_in form s) i

abbrev pub invariant-loop-i : goal.invariant-loop-i
invariant-loop-i l = all_from (kept l.lines.form l.lines.bytes.now) l.lines.count 0 ≡ all_from (kept l.lines.form l.lines.bytes.now) (l.lines.count - l.i) l.i
