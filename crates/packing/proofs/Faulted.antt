-- The fields of lent parts, as entries name them, are judged by their first fault alone: their IDs may stand there, and their groups are whole.
use mathlib.Core.Path.{◌≡◌, refl}
use mathlib.Core.Bool.{Bool, true, false, not, ◌&&◌}
use mathlib.Core.List.{List, [], ◌∷◌}
use Prim.Native.Nat.{ℕ, zero, suc, ◌+◌, ◌≤◌}
use native.Mathlib.Nat.{add-zero}
use native.Mathlib.Omega.{arith}
use borrow.Author.Tests.{ltb-true, ltb-false, lt-ltb, le-ltb, not-true}
use lib.Dec.{ltb}
use lib.ListN.{length}
use Rattle.cells.specs.Bytes.{pick}
use Rattle.cells.proofs.Bools.{split, and_left, and_right}
use Rattle.rules.specs.Rule.{keeps}
use Rattle.record.specs.Contents.{is_in, content_rule, guarded_ids, guarded, content_kept, groups, first_of, next_in, previous_in, group_with, next_member, previous_member, is_wanted, group_kept}
use Rattle.record.specs.Fields.{last_id, Optional}
use Rattle.record.specs.declared.layout.Kind.{Kind}
use Rattle.record.specs.declared.layout.Kind.TheVariants.{Order, Goods, Closing, Report}
use Rattle.writing.specs.Widths.{all_inside}
use Rattle.writing.specs.Write.{◌next◌, content_in, optional_in, optional_of, inside, writable, next_id, entry_kept, fields_judged}
use Rattle.writing.specs.declared.answer.Refusal.TheVariants.{Content}
use Rattle.writing.specs.Verdicts.{Verdict}
use Rattle.std.specs.Prelude.{Err, Ok, Some, Option}
use Rattle.writing.specs.declared.entries.Entry.{Entry}
use Rattle.parts.specs.Loops.{loop}
use Rattle.parts.specs.Part.{part_width}
use Rattle.parts.specs.Fields.{part_texts, with_ids, part_fields, lent_loop, lent_fields}
use Rattle.lent_parts.specs.Faults.{is_kept, first_fault}

-- the ID that follows a field: of the next one, or of the last
unfoldable pub next_of : List Optional → ℕ
next_of [] = last_id
next_of (f ∷ fs) = f.id

-- IDs below the last one whose contents no kind guards, in whole groups; before is the ID of the field before them
unfoldable pub ordered : Option ℕ → List Optional → Bool
ordered before [] = true
ordered before (f ∷ fs) =
    (ltb f.id last_id && not (is_in f.id guarded_ids)) && (group_kept before f.id (next_of fs) && ordered (Some f.id) fs)

-- the fields of n lent parts are that, whatever stands before them
pub lent_ordered : (n : ℕ) (s : List ℕ) (at : ℕ) (before : Option ℕ) → ordered before (lent_fields n s at) ≡ true
unfolding ordered next_of lent_fields lent_loop part_fields part_texts with_ids loop is_in guarded_ids group_kept is_wanted next_member previous_member first_of next_in previous_in group_with groups
lent_ordered zero s at before = refl
lent_ordered (suc n) s at before = lent_ordered n s (at + part_width) (Some 1151)

-- what is said of fields by their first fault, where the first of them has index i
unfoldable pub faulted : ℕ → List Optional → Verdict
faulted i fs = pick (ltb (first_fault fs) (length fs)) (Err (Content (i + first_fault fs))) (Ok 0)

-- where there are none, after a field that can be written, and at one that cannot
none_faulty : (i : ℕ) → Ok 0 ≡ faulted i []
unfolding faulted first_fault
none_faulty i = refl

kept_on : (i : ℕ) (f : Optional) (fs : List Optional) → is_kept f.id f.content ≡ true → faulted (i + 1) fs ≡ faulted i (f ∷ fs)
unfolding faulted first_fault
kept_on i f fs h =
    let n : i + 1 + first_fault fs ≡ i + suc (first_fault fs) = omega arith in
    split (ltb (first_fault fs) (length fs))
    (λ t. rw (h, t, lt-ltb (suc (first_fault fs)) (suc (length fs)) (omega (arith, ltb-true (first_fault fs) (length fs) t)), n))
    (λ t. rw (h, t, le-ltb (suc (first_fault fs)) (suc (length fs)) (omega (arith, ltb-false (first_fault fs) (length fs) t))))

faulty_here : (i : ℕ) (f : Optional) (fs : List Optional) → is_kept f.id f.content ≡ false → Err (Content i) ≡ faulted i (f ∷ fs)
unfolding faulted first_fault
faulty_here i f fs h = rw (h, lt-ltb 0 (suc (length fs)) (omega arith), add-zero i)

-- a content that no kind guards goes by its rule
by_rule : (k : Kind) (id : ℕ) (c : List ℕ) → is_in id guarded_ids ≡ false → content_kept k id c ≡ keeps (content_rule id) [] c
unfolding content_kept guarded
by_rule Order id c h = rw h
by_rule Goods id c h = refl
by_rule Closing id c h = refl
by_rule Report id c h = refl

-- so an entry with such an ID, inside the contents, is kept where its field is
kept_alike : (k : Kind) (contents : List ℕ) (e : Entry) → ltb e.id last_id ≡ true → is_in e.id guarded_ids ≡ false → inside contents e ≡ true
    → entry_kept k contents e ≡ is_kept e.id (content_in contents e)
unfolding entry_kept writable is_kept
kept_alike k contents e a b i = rw (a, i, by_rule k e.id (content_in contents e) b)

-- the ID that follows an entry is that of its field
next_alike : (contents : List ℕ) (es : List Entry) → next_id es ≡ next_of (optional_of contents es)
unfolding next_id next_of optional_of optional_in
next_alike contents [] = refl
next_alike contents (e ∷ es) = refl

-- entries inside the contents that name such fields are judged by the first fault
pub judged_faulted : (k : Kind) (contents : List ℕ) (before : Option ℕ) (i : ℕ) (es : List Entry) → all_inside contents es ≡ true
    → ordered before (optional_of contents es) ≡ true → fields_judged k contents before i es ≡ faulted i (optional_of contents es)
unfolding fields_judged all_inside ordered optional_of optional_in
judged_faulted k contents before i [] h o = none_faulty i
judged_faulted k contents before i (e ∷ es) h o =
    let f = optional_in contents e in
    let fs = optional_of contents es in
    let p = and_left (ltb e.id last_id && not (is_in e.id guarded_ids)) _ o in
    let q = and_right (ltb e.id last_id && not (is_in e.id guarded_ids)) _ o in
    let a = and_left (ltb e.id last_id) _ p in
    let b = not-true _ (and_right (ltb e.id last_id) _ p) in
    let g = and_left (group_kept before e.id (next_of fs)) _ q in
    let ih = judged_faulted k contents (Some e.id) (i + 1) es (and_right (inside contents e) _ h) (and_right (group_kept before e.id (next_of fs)) _ q) in
    rw (kept_alike k contents e a b (and_left (inside contents e) _ h), next_alike contents es, g, ih)
    (split (is_kept e.id (content_in contents e)) (λ t. rw t (kept_on i f fs t)) (λ t. rw t (faulty_here i f fs t)))

-- the first fault is no field past the last
fault_most : (fs : List Optional) → first_fault fs ≤ length fs
unfolding first_fault
fault_most [] = omega arith
fault_most (f ∷ fs) =
    let ih = fault_most fs in
    split (is_kept f.id f.content) (λ t. rw t (omega arith)) (λ t. rw t (omega arith))

-- and where all fields fit, there is none
pub fits_faultless : (a : Verdict) (i : ℕ) (fs : List Optional) (m : ℕ) → (a next faulted i fs) ≡ Ok m → first_fault fs ≡ length fs
unfolding ◌next◌ faulted
fits_faultless (Err r) i fs m h = let z : ◌≡◌ {A = ℕ} 0 1 = cc in absurd (omega arith)
fits_faultless (Ok l) i fs m h =
    split (ltb (first_fault fs) (length fs))
    (λ t. let w : ◌≡◌ {A = Verdict} (Err (Content (i + first_fault fs))) (Ok m) = rw t at h in let z : ◌≡◌ {A = ℕ} 0 1 = cc in absurd (omega arith))
    (λ t. omega (arith, ltb-false (first_fault fs) (length fs) t, fault_most fs))
