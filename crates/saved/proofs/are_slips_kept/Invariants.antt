-- The slips that are left give the same result as all of them.
use Rattle.std.proofs.Common.{◌≡◌, ◌-◌, ℕ, Bool, List, ◌&&◌}
use Rattle.cells.specs.Search.{all_from}
use Rattle.entry.specs.Stored.{slip_key_width}
use Rattle.save.specs.Entries.{slip_kept, is_first}
use Rattle.save.specs.Saved.{line_in, slip_in}
use Rattle.saved.proofs.are_slips_kept.Given as goal

-- the slip at j keeps the rules, and no earlier slip has its key
abbrev pub kept : ℕ → (ℕ → List ℕ) → (ℕ → List ℕ) → ℕ → Bool
kept n line slip j = slip_kept n line (slip j) && is_first slip_key_width slip j

abbrev pub invariant-loop-j : goal.invariant-loop-j
invariant-loop-j l =
    all_from (kept l.kept.lines.count (line_in l.kept.lines.form l.kept.lines.bytes.now) (slip_in l.slips.bytes.now l.slips.at)) l.slips.count 0
    ≡ all_from (kept l.kept.lines.count (line_in l.kept.lines.form l.kept.lines.bytes.now) (slip_in l.slips.bytes.now l.slips.at)) (l.slips.count - l.j) l.j
