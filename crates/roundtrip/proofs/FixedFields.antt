-- The fields of a fixed part: put one after the other, taken from a list, and keeping their rules.
use mathlib.Core.Path.{◌≡◌, ◌∙◌, ap, sym, refl}
use mathlib.Core.Bool.{Bool, true}
use mathlib.Core.List.{List, [], ◌∷◌, ◌++◌, map, append_assoc}
use Prim.Native.Nat.{ℕ, zero, suc, ◌+◌}
use native.Mathlib.Nat.{add-zero, zero-add}
use native.Mathlib.Omega.{arith}
use lib.ListN.{length, get_or, take}
use lib.Seq.{slice, take-nil, take_at, drop_at}
use Rattle.cells.specs.Bytes.{all, joined}
use Rattle.cells.proofs.Bools.{and_left, and_right}
use Rattle.cells.proofs.Parts.{slice_drop, nothing, parts_join}
use Rattle.cells.proofs.Lists.{all_append}
use Rattle.rules.specs.Rule.{keeps}
use Rattle.record.specs.Layout.{no_field, layout, total, start_of, first_broken}
use Rattle.record.specs.Values.{field_bytes}
use Rattle.record.specs.declared.layout.Field.{Field}
use Rattle.record.specs.declared.layout.Kind.{Kind}
use Rattle.record.proofs.Kept.{each_kept}

-- how long the fields of a layout are
abbrev pub sizes : List Field → List ℕ
sizes fs = map (λ (f : Field). f.size) fs

-- parts as long as a layout's fields, one after the other: each stands where its field does, whatever follows
pub part_here : (fs : List Field) (ps : List (List ℕ)) (rest : List ℕ) (i : ℕ) → map length ps ≡ sizes fs
    → slice (start_of fs i) (start_of fs (suc i)) (joined ps ++ rest) ≡ get_or ps i []
unfolding start_of total joined
part_here [] [] rest i e = rw (take-nil {A = Field} i)
part_here [] (p ∷ ps) rest i e = let z : ◌≡◌ {A = ℕ} 0 1 = cc in absurd (omega arith)
part_here (f ∷ fs) [] rest i e = let z : ◌≡◌ {A = ℕ} 0 1 = cc in absurd (omega arith)
part_here (f ∷ fs) (p ∷ ps) rest zero e =
    let l : length p ≡ f.size = cc in
    rw (add-zero f.size, append_assoc p (joined ps) rest) (take_at p (joined ps ++ rest) f.size l)
part_here (f ∷ fs) (p ∷ ps) rest (suc i) e =
    let l : length p ≡ f.size = cc in
    rw (← slice_drop (start_of fs i) (start_of fs (suc i)) f.size (p ++ joined ps ++ rest), append_assoc p (joined ps) rest, drop_at p (joined ps ++ rest) f.size l)
    (part_here fs ps rest i (cc))

-- so each is the bytes of its field
pub field_is : (k : Kind) (ps : List (List ℕ)) (rest : List ℕ) → map length ps ≡ sizes (layout k) → (i : ℕ) → field_bytes k i (joined ps ++ rest) ≡ get_or ps i []
unfolding field_bytes
field_is k ps rest e i = part_here (layout k) ps rest i e

-- a test that holds at each byte of the whole holds at each byte of a part
pub all_joined : (p : ℕ → Bool) (ps : List (List ℕ)) → all p (joined ps) ≡ true → (i : ℕ) → all p (get_or ps i []) ≡ true
unfolding joined all
all_joined p [] e i = refl
all_joined p (q ∷ qs) e zero = and_left (all p q) (all p (joined qs)) (sym (all_append p q (joined qs)) ∙ e)
all_joined p (q ∷ qs) e (suc i) = all_joined p qs (and_right (all p q) (all p (joined qs)) (sym (all_append p q (joined qs)) ∙ e)) i

-- the fields of a list by a layout that starts at a place
unfoldable pub fields_from : List Field → ℕ → List ℕ → List (List ℕ)
fields_from [] at s = []
fields_from (f ∷ fs) at s = slice at (at + f.size) s ∷ fields_from fs (at + f.size) s

-- they are, one after the other, what stands there
pub fields_there : (fs : List Field) (at : ℕ) (s : List ℕ) → joined (fields_from fs at s) ≡ slice at (at + total fs) s
unfolding joined fields_from total
fields_there [] at s = sym (nothing at (at + 0) s (omega arith))
fields_there (f ∷ fs) at s = rw (fields_there fs (at + f.size) s) (parts_join at f.size (total fs) s)

-- the fields of a layout at the front of a list
pub fields_joined : (fs : List Field) (s : List ℕ) → joined (fields_from fs 0 s) ≡ take (total fs) s
fields_joined fs s = fields_there fs 0 s ∙ ap (λ (n : ℕ). take n s) (zero-add (total fs))

-- the fields of a list by a kind's layout
module _ (k : Kind) (s : List ℕ) where
  -- each keeps its rule, where none is broken
  pub field_kept : first_broken (layout k) s ≡ length (layout k) → (i : ℕ)
      → keeps (get_or (layout k) i no_field).rule (slice (start_of (layout k) (suc i)) (start_of (layout k) (suc i) + 2) s) (field_bytes k i s) ≡ true
  unfolding field_bytes
  field_kept e i = each_kept (layout k) s i e
