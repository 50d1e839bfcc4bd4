-- Entries that name the same fields in two lent contents, inside them or not alike: they are judged alike.
use Rattle.std.specs.Prelude.{Some, Option}
use mathlib.Core.Path.{◌≡◌, refl, ◌∙◌, ap, sym, subst}
use mathlib.Core.Bool.{true}
use mathlib.Core.List.{List, [], ◌∷◌, ◌++◌, map, append_assoc}
use Prim.Native.Nat.{ℕ, ◌+◌, ◌≤◌}
use native.Mathlib.Omega.{arith}
use borrow.Author.Tests.{le-leb, lt-leb, leb-true, leb-false}
use lib.Dec.{leb}
use lib.ListN.{length, length-append}
use lib.Seq.{slice, take-append-add, take-append_seam, drop-append-add, drop-append_seam}
use Rattle.cells.proofs.Bools.{split, and_left, and_right}
use Rattle.record.specs.Fields.{Optional}
use Rattle.record.specs.declared.layout.Kind.{Kind}
use Rattle.writing.specs.Widths.{all_inside}
use Rattle.writing.specs.Write.{entry_of, entries, content_in, optional_in, optional_of, inside, writable, next_id, entry_kept, fields_judged}
use Rattle.writing.specs.declared.entries.Entry.{Entry}
use Rattle.parts.specs.Write.{contents_of, listed}
use Rattle.parts.proofs.Joined.{moved_entry, listed_entries}

-- one after the other they name the same fields, and both are inside or both are not
pub data Alike (x y : List ℕ) : List Entry → List Entry → Type 0 where
  none : Alike x y [] []
  one : {e f : Entry} {es fs : List Entry} → optional_in x e ≡ optional_in y f → inside x e ≡ inside y f → Alike x y es fs → Alike x y (e ∷ es) (f ∷ fs)

-- whether an entry can be written goes by the field that it names, and by whether that is inside
same_kept : (k : Kind) (x y : List ℕ) (e f : Entry) → optional_in x e ≡ optional_in y f → inside x e ≡ inside y f → entry_kept k x e ≡ entry_kept k y f
unfolding entry_kept writable optional_in
same_kept k x y e f o i =
    let a : e.id ≡ f.id = ap (λ (g : Optional). g.id) o in
    let c : content_in x e ≡ content_in y f = ap (λ (g : Optional). g.content) o in
    rw (c, i, a)

module _ {x y : List ℕ} where
  -- they name the same fields
  pub alike_fields : {es fs : List Entry} → Alike x y es fs → optional_of x es ≡ optional_of y fs
  unfolding optional_of
  alike_fields none = refl
  alike_fields (one o i a) = let ih = alike_fields a in cc

  -- and are all inside alike
  pub alike_inside : {es fs : List Entry} → Alike x y es fs → all_inside x es ≡ all_inside y fs
  unfolding all_inside
  alike_inside none = refl
  alike_inside (one o i a) = let ih = alike_inside a in cc

  -- have the same ID in front
  same_next : {es fs : List Entry} → Alike x y es fs → next_id es ≡ next_id fs
  unfolding next_id optional_in
  same_next none = refl
  same_next (one o i a) = ap (λ (f : Optional). f.id) o

  -- so they are judged alike
  pub alike_judged : (k : Kind) {es fs : List Entry} → Alike x y es fs → (before : Option ℕ) (i : ℕ) → fields_judged k x before i es ≡ fields_judged k y before i fs
  unfolding fields_judged optional_in
  alike_judged k none before i = refl
  alike_judged k (one {e = e} {f = f} {es = es} {fs = fs} o t a) before i =
      let d : e.id ≡ f.id = ap (λ (g : Optional). g.id) o in
      let ih = alike_judged k a (Some f.id) (i + 1) in
      rw (same_kept k x y e f o t, d, same_next a, ih)

  -- inside the lent bytes it is enough that they name the same fields
  pub same_alike : (es fs : List Entry) → optional_of x es ≡ optional_of y fs → all_inside x es ≡ true → all_inside y fs ≡ true → Alike x y es fs
  unfolding optional_of all_inside
  same_alike [] [] o p q = none
  same_alike [] (f ∷ fs) o p q = let z : ◌≡◌ {A = ℕ} 0 1 = cc in absurd (omega arith)
  same_alike (e ∷ es) [] o p q = let z : ◌≡◌ {A = ℕ} 0 1 = cc in absurd (omega arith)
  same_alike (e ∷ es) (f ∷ fs) o p q =
      one {e = e} {f = f} (cc) (and_left (inside x e) (all_inside x es) p ∙ sym (and_left (inside y f) (all_inside y fs) q))
      (same_alike es fs (cc) (and_right (inside x e) (all_inside x es) p) (and_right (inside y f) (all_inside y fs) q))

-- contents with others before them: an entry moved by these names the same content
module _ (x y : List ℕ) where
  moved_content : (e : Entry) → content_in (x ++ y) (moved_entry (length x) e) ≡ content_in y e
  unfolding content_in
  moved_content e =
      let a : length x + e.place + e.width ≡ length x + (e.place + e.width) = omega arith in
      rw (a, take-append-add, drop-append-add)

  -- is inside where the entry is
  moved_inside : (e : Entry) → inside (x ++ y) (moved_entry (length x) e) ≡ inside y e
  unfolding inside
  moved_inside e =
      let a : length (x ++ y) ≡ length x + length y = length-append x y in
      let n = e.place + e.width in
      let m = length x + e.place + e.width in
      split (leb n (length y))
      (λ t. rw t (le-leb m (length (x ++ y)) (omega (arith, leb-true n (length y) t))))
      (λ t. rw t (lt-leb m (length (x ++ y)) (omega (arith, leb-false n (length y) t))))

  -- and so moved entries are like the entries
  pub moved_alike : (es : List Entry) → Alike (x ++ y) y (map (moved_entry (length x)) es) es
  unfolding optional_in
  moved_alike [] = none
  moved_alike (e ∷ es) = one {e = moved_entry (length x) e} {f = e} (rw (moved_content e)) (moved_inside e) (moved_alike es)

-- a content that stands behind others
listed_content : (x c r : List ℕ) → slice (length x) (length x + length c) (x ++ (c ++ r)) ≡ c
listed_content x c r = rw (take-append-add x (c ++ r) (length c), take-append_seam c r) (drop-append_seam x c)

-- fields that are listed are those that their entries name, all inside
pub listed_names : (x : List ℕ) (fs : List Optional) (y : List ℕ)
    → (optional_of (x ++ (contents_of fs ++ y)) (listed_entries (length x) fs) ≡ fs) × (all_inside (x ++ (contents_of fs ++ y)) (listed_entries (length x) fs) ≡ true)
unfolding optional_of optional_in all_inside inside contents_of listed entries entry_of content_in
listed_names x [] y = (refl, refl)
listed_names x (f ∷ fs) y =
    let c = f.content in
    let r = contents_of fs ++ y in
    let whole : x ++ (contents_of (f ∷ fs) ++ y) ≡ (x ++ c) ++ r = ap (λ (z : List ℕ). x ++ z) (append_assoc c (contents_of fs) y) ∙ sym (append_assoc x c r) in
    let ih = listed_names (x ++ c) fs y in
    let again : (optional_of ((x ++ c) ++ r) (listed_entries (length x + length c) fs) ≡ fs) × (all_inside ((x ++ c) ++ r) (listed_entries (length x + length c) fs) ≡ true) =
    rw (← length-append x c) ih in
    let here : slice (length x) (length x + length c) ((x ++ c) ++ r) ≡ c = rw (append_assoc x c r) (listed_content x c r) in
    let l : length x + length c ≤ length ((x ++ c) ++ r) = simp length-append (omega arith) in
    subst (λ (z : List ℕ). (optional_of z (listed_entries (length x) (f ∷ fs)) ≡ f ∷ fs) × (all_inside z (listed_entries (length x) (f ∷ fs)) ≡ true)) (sym whole) (
      rw (here, again.0),
      rw (le-leb (length x + length c) (length ((x ++ c) ++ r)) l) again.1,
    )
