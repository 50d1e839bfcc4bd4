-- The fields from `at` on give what all of them give, and the content ends where it ends from `end` on.
use Rattle.std.proofs.Common.{◌≡◌, ◌+◌, ◌-◌, ◌≤◌, drop}
use Rattle.record.specs.Layout.{most_fields}
use Rattle.record.specs.Fields.{walk}
use Rattle.walks.proofs.Contents.{end_of}
use Rattle.walks.proofs.walk.Given as goal

abbrev pub invariant-fields : goal.invariant-fields
invariant-fields l = (l.n ≤ most_fields) × (walk most_fields 0 l.from (drop l.from l.s) ≡ walk (most_fields - l.n) l.n l.at (drop l.at l.s))

abbrev pub invariant-content : goal.invariant-content
invariant-content l = (l.at ≡ l.initial.at) × (end_of l.s (l.at + 5) ≡ end_of l.s l.end)
