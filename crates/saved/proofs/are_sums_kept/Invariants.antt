-- The lines that are left give the same result as all of them.
use Rattle.std.proofs.Common.{◌≡◌, ◌-◌, ℕ, Bool, List}
use lib.Dec.{leb}
use Rattle.cells.specs.Search.{all_from}
use Rattle.entry.specs.Stored.{most_arrived}
use Rattle.save.specs.Entries.{arrived_on}
use Rattle.save.specs.Saved.{slip_in}
use Rattle.saved.proofs.are_sums_kept.Given as goal

-- the sum of the line at i is not over the limit
abbrev pub kept : (ℕ → List ℕ) → ℕ → ℕ → Bool
kept slip m i = leb (arrived_on slip m i) most_arrived

abbrev pub invariant-loop-i : goal.invariant-loop-i
invariant-loop-i l =
    all_from (kept (slip_in l.slips.bytes.now l.slips.at) l.slips.count) l.lines 0
    ≡ all_from (kept (slip_in l.slips.bytes.now l.slips.at) l.slips.count) (l.lines - l.i) l.i
