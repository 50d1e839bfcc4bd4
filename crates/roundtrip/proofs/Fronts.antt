-- A fixed part with anything behind it: reading says the same of both.
use mathlib.Core.Path.{◌≡◌, refl}
use mathlib.Core.Bool.{Bool, true, false, not, ◌&&◌, ◌||◌}
use mathlib.Core.List.{List, [], ◌∷◌, ◌++◌}
use Prim.Native.Nat.{ℕ, ◌+◌, ◌≤◌}
use native.Mathlib.Omega.{arith}
use borrow.Author.Tests.{leb-true}
use lib.Dec.{leb}
use lib.ListN.{length, take, drop, length-drop}
use lib.Seq.{slice, take-append-le, drop-append-le}
use Rattle.cells.proofs.Bools.{split, and_left, and_right}
use Rattle.rules.specs.Rule.{keeps}
use Rattle.rules.specs.Day.{day_width}
use Rattle.rules.specs.declared.rule.Rule.{Rule}
use Rattle.rules.specs.declared.rule.Rule.TheVariants.{Free, Of, Padded, Named, OneOf, DayCount, Date, ExpectedDate, Article}
use Rattle.record.specs.Layout.{kind_width, date_start, layout, total, fixed_width, kind_of, first_broken}
use Rattle.record.specs.declared.layout.Field.{Field}
use Rattle.record.specs.declared.layout.Kind.{Kind}
use Rattle.record.specs.declared.layout.Kind.TheVariants.{Order, Goods, Closing, Report}
use Rattle.roundtrip.proofs.Sequences.{slice_append_le}

-- every fixed part reaches past the date
pub date_inside : (k : Kind) → date_start + day_width ≤ fixed_width k
unfolding fixed_width total layout
date_inside Order = omega arith
date_inside Goods = omega arith
date_inside Closing = omega arith
date_inside Report = omega arith

-- so what follows it does not change the kind
pub kind_front : (s rest : List ℕ) → date_start + day_width ≤ length s → kind_of (s ++ rest) ≡ kind_of s
unfolding kind_of
kind_front s rest h =
    simp (slice_append_le 0 kind_width s rest (omega arith), slice_append_le date_start (date_start + day_width) s rest h)

-- a rule that asks for the bytes behind its field
unfoldable asks_behind : Rule → Bool
asks_behind Free = false
asks_behind (Of c least most) = false
asks_behind (Padded c least most) = false
asks_behind (Named c) = false
asks_behind (OneOf t) = false
asks_behind DayCount = false
asks_behind Date = false
asks_behind ExpectedDate = false
asks_behind Article = true

-- another does not depend on them
behind_free : (r : Rule) (a b s : List ℕ) → asks_behind r ≡ false → keeps r a s ≡ keeps r b s
unfolding keeps asks_behind
behind_free Free a b s e = refl
behind_free (Of c least most) a b s e = refl
behind_free (Padded c least most) a b s e = refl
behind_free (Named c) a b s e = refl
behind_free (OneOf t) a b s e = refl
behind_free DayCount a b s e = refl
behind_free Date a b s e = refl
behind_free ExpectedDate a b s e = refl
behind_free Article a b s e = cc

-- each rule of a layout finds the bytes that it asks for within the layout
unfoldable closed : List Field → Bool
closed [] = true
closed (f ∷ fs) = (not (asks_behind f.rule) || leb 2 (total fs)) && closed fs

layout_closed : (k : Kind) → closed (layout k) ≡ true
unfolding closed asks_behind total layout
layout_closed Order = refl
layout_closed Goods = refl
layout_closed Closing = refl
layout_closed Report = refl

-- a field in front of fields that hold the bytes its rule asks for is judged the same
keeps_front : (f : Field) (n : ℕ) (s rest : List ℕ) → f.size + n ≤ length s → not (asks_behind f.rule) || leb 2 n ≡ true
    → keeps f.rule (slice f.size (f.size + 2) (s ++ rest)) (take f.size (s ++ rest))
    ≡ keeps f.rule (slice f.size (f.size + 2) s) (take f.size s)
keeps_front f n s rest h e =
    rw (take-append-le f.size s rest (omega arith))
    (split (asks_behind f.rule)
    (λ a.
    let l : 2 ≤ n = leb-true 2 n (rw a at e) in
    rw (slice_append_le f.size (f.size + 2) s rest (omega arith)))
    (λ a. behind_free f.rule _ _ _ a))

-- the first field that breaks its rule is the same
broken_append : (fs : List Field) (s rest : List ℕ) → closed fs ≡ true → total fs ≤ length s → first_broken fs (s ++ rest) ≡ first_broken fs s
unfolding first_broken closed total
broken_append [] s rest c h = refl
broken_append (f ∷ fs) s rest c h =
    let ih = broken_append fs (drop f.size s) rest (and_right (not (asks_behind f.rule) || leb 2 (total fs)) (closed fs) c) (rw length-drop (omega arith)) in
    rw (keeps_front f (total fs) s rest h (and_left _ (closed fs) c), drop-append-le f.size s rest (omega arith), ih)

pub broken_front : (k : Kind) (s rest : List ℕ) → fixed_width k ≤ length s → first_broken (layout k) (s ++ rest) ≡ first_broken (layout k) s
unfolding fixed_width
broken_front k s rest h = broken_append (layout k) s rest (layout_closed k) h
