-- The fields of a layout, one after the other.
use mathlib.Core.Path.{◌≡◌, ap}
use mathlib.Core.List.{List, [], ◌∷◌, ◌++◌}
use Prim.Native.Nat.{ℕ, suc, ◌+◌, ◌≤◌, ◌<◌}
use native.Mathlib.Numerals.{add-one}
use native.Mathlib.Omega.{arith}
use lib.ListN.{length, get_or, take, drop, take-append-drop, drop_of_length-le, get_or-append, get_or-eq_default}
use Rattle.std.proofs.lemmas.List.{get_or-take, length-take}
use lib.Seq.{slice, take-suc, take_all, drop-cons, drop-drop}
use Rattle.cells.specs.Bytes.{pick}
use Rattle.cells.proofs.Bools.{split}
use Rattle.cells.proofs.Parts.{take_from, slice_drop}
use Rattle.rules.specs.Rule.{keeps}
use Rattle.record.specs.declared.layout.Field.{Field}
use Rattle.record.specs.declared.layout.Kind.{Kind}
use Rattle.record.specs.declared.layout.Kind.TheVariants.{Order, Goods, Closing, Report}
use Rattle.record.specs.Layout.{no_field, layout, total, start_of, first_broken}

-- two parts of a layout are as long as both together
pub total_append : (xs ys : List Field) → total (xs ++ ys) ≡ total xs + total ys
unfolding total
total_append [] ys = omega arith
total_append (x ∷ xs) ys =
    let ih = total_append xs ys in
    omega arith

-- a field starts within its layout
pub start_most : (fs : List Field) (i : ℕ) → start_of fs i ≤ total fs
unfolding start_of
start_most fs i = omega (arith, total_append (take i fs) (drop i fs), ap total (take-append-drop i fs))

-- no layout is longer than a delivery's
pub total_most : (k : Kind) → total (layout k) ≤ 108
unfolding total layout
total_most Order = omega arith
total_most Goods = omega arith
total_most Closing = omega arith
total_most Report = omega arith

-- nor is what stands in front of a field
pub front_most : (k : Kind) (i : ℕ) → total (take i (layout k)) ≤ 108
unfolding start_of
front_most k i = omega (arith, start_most (layout k) i, total_most k)

-- the first field that breaks its rule has no index past the last
pub broken_most : (fs : List Field) (s : List ℕ) → first_broken fs s ≤ length fs
unfolding first_broken
broken_most [] s = omega arith
broken_most (f ∷ fs) s =
    let ih = broken_most fs (drop f.size s) in
    split (keeps f.rule (slice f.size (f.size + 2) s) (take f.size s)) (λ e. rw e (omega arith)) (λ e. rw e (omega arith))

-- the field with an index stands in front of what is left of the layout
pub field_at : (fs : List Field) (i : ℕ) → i < length fs → drop i fs ≡ get_or fs i no_field ∷ drop (i + 1) fs
field_at fs i h = rw (drop-cons fs i no_field h, add-one i)

-- what is left is as long as it and what is left after it
pub total_at : (fs : List Field) (i : ℕ) → i < length fs → total (drop i fs) ≡ (get_or fs i no_field).size + total (drop (i + 1) fs)
unfolding total
total_at fs i h = ap total (field_at fs i h)

-- the next field starts behind it
pub start_at : (fs : List Field) (i : ℕ) → i < length fs → total (take i fs) + (get_or fs i no_field).size ≡ total (take (i + 1) fs)
unfolding total
start_at fs i h =
    let g : take (i + 1) fs ≡ take i fs ++ (get_or fs i no_field ∷ []) = rw (add-one i) (take-suc fs i no_field h) in
    omega (arith, total_append (take i fs) (get_or fs i no_field ∷ []), ap total g)

-- the fields of a part of a layout are the layout's
pub ruleset starts = (start_at, front_most, get_or-take, length-take)

-- judged where it stands, at a place in s, it is found first, or what is found first is found after it
pub broken_at : (fs : List Field) (i : ℕ) (s : List ℕ) (at : ℕ) → i < length fs
    → first_broken (drop i fs) (drop at s)
    ≡ pick (keeps (get_or fs i no_field).rule (slice (at + (get_or fs i no_field).size) (at + (get_or fs i no_field).size + 2) s) (slice at (at + (get_or fs i no_field).size) s))
    (suc (first_broken (drop (i + 1) fs) (drop (at + (get_or fs i no_field).size) s))) 0
unfolding first_broken
broken_at fs i s at h =
    let n = (get_or fs i no_field).size in
    let a : at + (n + 2) ≡ at + n + 2 = omega arith in
    rw (field_at fs i h, take_from n at s, slice_drop n (n + 2) at s, a, drop-drop n at s)
