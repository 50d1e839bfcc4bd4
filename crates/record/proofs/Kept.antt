-- The fields of a list in which none is broken: each keeps its rule and has its length.
use mathlib.Core.Path.{◌≡◌, ◌∙◌, refl, sym}
use mathlib.Core.Bool.{true}
use mathlib.Core.List.{List, [], ◌∷◌}
use Prim.Native.Nat.{ℕ, zero, suc, ◌+◌, ◌≤◌, ◌<◌}
use native.Mathlib.Nat.{add-zero}
use native.Mathlib.Numerals.{add-one}
use native.Mathlib.Omega.{arith}
use lib.ListN.{length, get_or, take, drop}
use lib.Seq.{slice, length-slice}
use Rattle.cells.proofs.Bools.{split}
use Rattle.cells.proofs.Parts.{slice_drop}
use Rattle.rules.specs.Rule.{keeps}
use Rattle.record.specs.Layout.{no_field, layout, total, fixed_width, start_of, first_broken}
use Rattle.record.specs.Values.{field_bytes}
use Rattle.record.specs.declared.layout.Field.{Field}
use Rattle.record.specs.declared.layout.Kind.{Kind}
use Rattle.record.proofs.Layouts.{start_most, start_at}

-- where no field is broken, the first keeps its rule, and none is broken after it
module _ (f : Field) (fs : List Field) (s : List ℕ) (e : first_broken (f ∷ fs) s ≡ suc (length fs)) where
  first_kept : keeps f.rule (slice f.size (f.size + 2) s) (take f.size s) ≡ true
  unfolding first_broken
  first_kept = split (keeps f.rule (slice f.size (f.size + 2) s) (take f.size s)) (λ q. q) (λ q. absurd (omega (arith, rw q at e)))

  rest_kept : first_broken fs (drop f.size s) ≡ length fs
  unfolding first_broken
  rest_kept = omega (arith, rw first_kept at e)

-- where no field is broken, each keeps its rule
pub each_kept : (fs : List Field) (s : List ℕ) (i : ℕ) → first_broken fs s ≡ length fs
    → keeps (get_or fs i no_field).rule (slice (start_of fs (suc i)) (start_of fs (suc i) + 2) s) (slice (start_of fs i) (start_of fs (suc i)) s) ≡ true
unfolding start_of total keeps
each_kept [] s i e = refl
each_kept (f ∷ fs) s zero e = rw (add-zero f.size) (first_kept f fs s e)
each_kept (f ∷ fs) s (suc i) e =
    let a : f.size + (start_of fs (suc i) + 2) ≡ f.size + start_of fs (suc i) + 2 = omega arith in
    let ih = each_kept fs (drop f.size s) i (rest_kept f fs s e) in
    rw (slice_drop (start_of fs i) (start_of fs (suc i)) f.size s, slice_drop (start_of fs (suc i)) (start_of fs (suc i) + 2) f.size s, a) at ih

-- each field has its length, where the list is long enough
pub field_length : (k : Kind) (s : List ℕ) → fixed_width k ≤ length s → (i : ℕ) → i < length (layout k)
    → length (field_bytes k i s) ≡ (get_or (layout k) i no_field).size
unfolding field_bytes fixed_width start_of
field_length k s h i l =
    let m = start_most (layout k) (suc i) in
    let t : start_of (layout k) (suc i) ≡ start_of (layout k) i + (get_or (layout k) i no_field).size = rw (← add-one i) (sym (start_at (layout k) i l)) in
    length-slice (start_of (layout k) i) (start_of (layout k) (suc i)) s (omega arith) ∙ omega arith
