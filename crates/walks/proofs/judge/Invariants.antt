-- Nothing is found yet; `id` is the ID at `at`, the fields from `at` on give what all of them give, and the content ends, and holds a barred byte, as it does from `place` on.
use Rattle.std.proofs.Common.{◌≡◌, ◌+◌, ◌-◌, ◌*◌, ◌≤◌, drop, length}
use Rattle.std.specs.Prelude.{None, Ok}
use Rattle.record.specs.Fields.{id_of, judge}
use Rattle.walks.proofs.Contents.{end_of, barred_from}
use Rattle.walks.proofs.judge.Given as goal

abbrev pub invariant-content : goal.invariant-content
invariant-content l = (l.found ≡ Ok 0) × (l.end ≡ l.initial.end) × (l.place ≤ l.end) × (end_of l.s l.start ≡ end_of l.s l.place) × (barred_from l.guard l.s l.start ≡ barred_from l.guard l.s l.place)

abbrev pub invariant-fields : goal.invariant-fields
invariant-fields l = (l.found ≡ Ok 0) × (l.at ≤ length l.s + l.i * 5) × (l.id ≡ id_of (drop l.at l.s)) × (judge l.k l.n None l.from (drop l.from l.s) ≡ judge l.k (l.n - l.i) l.before l.at (drop l.at l.s))
