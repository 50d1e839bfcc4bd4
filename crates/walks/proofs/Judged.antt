-- The walk that gives 9, then 10, at a field: one law for each outcome.
use mathlib.Core.Path.{◌≡◌}
use mathlib.Core.Bool.{false, ◌&&◌}
use mathlib.Core.List.{List, []}
use Prim.Native.Nat.{ℕ, suc, ◌+◌, ◌-◌, ◌≤◌, ◌<◌}
use native.Mathlib.Omega.{arith}
use lib.ListN.{drop}
use lib.Seq.{slice}
use Rattle.cells.specs.Bytes.{pick, any}
use Rattle.cells.proofs.Bools.{split}
use Rattle.signs.specs.Class.{barred}
use Rattle.rules.specs.Rule.{keeps}
use Rattle.record.specs.Contents.{content_rule, guarded, content_kept, group_kept}
use Rattle.record.specs.Fields.{id_of, content_of, judge}
use Rattle.record.specs.declared.answer.Refusal.TheVariants.{Content, Group}
use Rattle.std.specs.Prelude.{Err, Ok, Option, Some}
use Rattle.record.specs.declared.layout.Kind.{Kind}
use Rattle.walks.proofs.Contents.{end_of, end_on, end_star, end_none, end_range, field_end, field_after, field_content, barred_from, barred_on, barred_found, barred_none}

-- no field is left
pub judge_end : (k : Kind) (n i : ℕ) (before : Option ℕ) (p : ℕ) (t : List ℕ) → n ≤ i → judge k (n - i) before p t ≡ Ok 0
unfolding judge
judge_end k n i before p t h =
    let q : n - i ≡ 0 = omega arith in
    rw q

-- the field at a place, with i of n fields passed: its content is judged, and then its group
pub judge_at : (k : Kind) (n i : ℕ) (before : Option ℕ) (at : ℕ) (s : List ℕ) → i < n
    → judge k (n - i) before at (drop at s)
    ≡ pick (content_kept k (id_of (drop at s)) (content_of (drop at s)))
    (pick (group_kept before (id_of (drop at s)) (id_of (drop (end_of s (at + 5)) s)))
    (judge k (n - (i + 1)) (Some (id_of (drop at s))) (end_of s (at + 5)) (drop (end_of s (at + 5)) s))
    (Err (Group at)))
    (Err (Content at))
unfolding judge
judge_at k n i before at s h =
    let q : n - i ≡ suc (n - (i + 1)) = omega arith in
    rw (q, field_after s at, field_end s at)

-- its content is kept where it holds no byte that it may not, and keeps the rule of its ID
pub content_at : (k : Kind) (id : ℕ) (s : List ℕ) (at : ℕ)
    → content_kept k id (content_of (drop at s))
    ≡ pick (barred_from (guarded k id) s (at + 5)) false (keeps (content_rule id) [] (slice (at + 5) (end_of s (at + 5)) s))
unfolding barred_from content_kept
content_at k id s at =
    rw (field_content s at)
    (split (guarded k id && any barred (slice (at + 5) (end_of s (at + 5)) s)) (λ t. rw t) (λ t. rw t))

-- the walk, one field at a time
pub ruleset judged_on = (judge_end, judge_at, content_at, end_on, end_star, end_none, end_range, barred_on, barred_found, barred_none)
