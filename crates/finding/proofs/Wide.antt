-- The fields of a key, each of its length: how many they are, and where they stand in the key.
use mathlib.Core.Path.{◌≡◌, ◌∙◌, refl, ap}
use mathlib.Core.Bool.{true, false≢true}
use mathlib.Core.List.{List, [], ◌∷◌}
use Prim.Native.Nat.{ℕ, zero, suc, ◌+◌, ◌≤◌, ◌<◌}
use native.Mathlib.Nat.{zero-add, add_assoc}
use native.Mathlib.Omega.{arith}
use lib.Dec.{eqb}
use borrow.Author.Tests.{eq-eqb, eqb-true}
use lib.ListN.{length, get_or, take, drop, drop_of_length-le}
use lib.Seq.{slice, drop-cons, take-append-le, take-append-add, drop-append-add}
use Rattle.cells.specs.Bytes.{joined}
use Rattle.cells.proofs.Bools.{and_left, and_right}
use Rattle.entry.specs.Keyed.{fields_of}
use Rattle.entry.specs.declared.line_key.LineKey.{LineKey}
use Rattle.book.specs.Asked.{key_widths, are_wide}

-- the first of fields of their lengths has its length, and so have the others
module _ (w : ℕ) (ws f : List ℕ) (fs : List (List ℕ)) (h : are_wide (w ∷ ws) (f ∷ fs) ≡ true) where
  pub wide_first : length f ≡ w
  unfolding are_wide
  wide_first = eqb-true (length f) w (and_left (eqb (length f) w) (are_wide ws fs) h)

  pub wide_rest : are_wide ws fs ≡ true
  unfolding are_wide
  wide_rest = and_right (eqb (length f) w) (are_wide ws fs) h

-- they are as many as their lengths
wide_many : (ws : List ℕ) (fs : List (List ℕ)) → are_wide ws fs ≡ true → length fs ≡ length ws
unfolding are_wide
wide_many [] [] h = refl
wide_many [] (f ∷ fs) h = absurd (false≢true h)
wide_many (w ∷ ws) [] h = absurd (false≢true h)
wide_many (w ∷ ws) (f ∷ fs) h = ap suc (wide_many ws fs (wide_rest w ws f fs h))

-- how far in the key a field stands
abbrev pub before : List ℕ → ℕ → ℕ
before ws zero = 0
before [] (suc f) = 0
before (w ∷ ws) (suc f) = w + before ws f

-- a part of a field is a part of the key
pub field_in : (ws : List ℕ) (fs : List (List ℕ)) (f x y : ℕ) → are_wide ws fs ≡ true → f < length ws → y ≤ get_or ws f 0
    → slice (before ws f + x) (before ws f + y) (joined fs) ≡ slice x y (get_or fs f [])
unfolding joined
field_in [] fs f x y h k l = absurd (omega arith)
field_in (w ∷ ws) [] f x y h k l = absurd (let z : ◌≡◌ {A = ℕ} 0 (suc (length ws)) = wide_many (w ∷ ws) [] h in omega arith)
field_in (w ∷ ws) (g ∷ gs) zero x y h k l =
    let e : length g ≡ w = wide_first w ws g gs h in
    rw (zero-add x, zero-add y) (ap (drop x) (take-append-le y g (joined gs) (omega arith)))
field_in (w ∷ ws) (g ∷ gs) (suc f) x y h k l =
    let e : length g ≡ w = wide_first w ws g gs h in
    rw (← e, add_assoc (length g) (before ws f) x, add_assoc (length g) (before ws f) y, take-append-add g (joined gs) (before ws f + y), drop-append-add g (take (before ws f + y) (joined gs)) (before ws f + x))
    (field_in ws gs f x y (wide_rest w ws g gs h) (omega arith) l)

-- the five of a line's key
pub five : (fs : List (List ℕ)) → are_wide key_widths fs ≡ true → fs ≡ get_or fs 0 [] ∷ get_or fs 1 [] ∷ get_or fs 2 [] ∷ get_or fs 3 [] ∷ get_or fs 4 [] ∷ []
five fs h =
    let n : length fs ≡ 5 = wide_many key_widths fs h in
    drop-cons fs 0 [] (omega arith)
    ∙ rw (drop-cons fs 1 [] (omega arith), drop-cons fs 2 [] (omega arith), drop-cons fs 3 [] (omega arith), drop-cons fs 4 [] (omega arith), drop_of_length-le fs {i = 5} (omega arith)) refl

-- each of its length
pub record Wide (school schoolQualifier supplier supplierQualifier reference : List ℕ) : Type 0 where
  pub school_wide : length school ≡ 10
  pub school_qualified : length schoolQualifier ≡ 2
  pub supplier_wide : length supplier ≡ 10
  pub supplier_qualified : length supplierQualifier ≡ 2
  pub reference_wide : length reference ≡ 10

pub key_wide : (a b c d e : List ℕ) → are_wide key_widths (a ∷ b ∷ c ∷ d ∷ e ∷ []) ≡ true → Wide a b c d e
key_wide a b c d e h =
    let h2 = wide_rest _ _ _ _ h in
    let h3 = wide_rest _ _ _ _ h2 in
    let h4 = wide_rest _ _ _ _ h3 in
    record {
      school_wide = wide_first _ _ _ _ h;
      school_qualified = wide_first _ _ _ _ h2;
      supplier_wide = wide_first _ _ _ _ h3;
      supplier_qualified = wide_first _ _ _ _ h4;
      reference_wide = wide_first _ _ _ _ (wide_rest _ _ _ _ h4);
    }

-- and so are those of the key that the code is given
pub line_key_wide : (k : LineKey) → are_wide key_widths (fields_of k) ≡ true
unfolding are_wide
line_key_wide k =
    rw (eq-eqb (length k.school.now) 10 k.school_wide, eq-eqb (length k.school_qualifier.now) 2 k.school_qualified, eq-eqb (length k.supplier.now) 10 k.supplier_wide, eq-eqb (length k.supplier_qualifier.now) 2 k.supplier_qualified, eq-eqb (length k.reference.now) 10 k.reference_wide) refl
