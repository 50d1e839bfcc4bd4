-- The fields of a key, each by itself and one after the other: the same fields are the same key.
use mathlib.Core.Path.{◌≡◌, ◌∙◌, sym, refl}
use mathlib.Core.Bool.{true, false, ◌&&◌}
use mathlib.Core.List.{List, [], ◌∷◌, ◌++◌, append_assoc, append-nil}
use Prim.Native.Nat.{ℕ, ◌+◌, ◌≤◌}
use native.Mathlib.Omega.{arith}
use lib.Dec.{eqb}
use lib.ListN.{length, take, length-append}
use lib.Seq.{take_at}
use borrow.Author.Tests.{eqb-true, eqb-false}
use Rattle.ledger.specs.Book.{school_of}
use Rattle.book.specs.Booking.{key_fields, line_key, school_in, fields_in}
use Rattle.cells.specs.Bytes.{same, all, joined}
use Rattle.cells.proofs.Bools.{split, and_left, and_right}
use Rattle.cells.proofs.Lists.{same_lengths, same_joined}
use Rattle.record.specs.Layout.{layout, fixed_width}
use Rattle.record.specs.declared.layout.Kind.TheVariants.{Order}
use Rattle.book.specs.Asked.{key_widths, are_wide}
use Rattle.book.proofs.Fields.{fields_wide}
use Rattle.balance.specs.Demand3.{same_fields}

-- fields that are the same as fields of these lengths have these lengths, and make the same key
pub fields_are_same : (ws : List ℕ) (fs gs : List (List ℕ)) → are_wide ws gs ≡ true → same_fields fs gs ≡ are_wide ws fs && same (joined fs) (joined gs)
unfolding are_wide same_fields joined
fields_are_same [] [] [] h = unfold same in refl
fields_are_same [] (f ∷ fs) [] h = refl
fields_are_same [] fs (g ∷ gs) h = absurd (let z : ◌≡◌ {A = ℕ} 0 1 = cc in omega arith)
fields_are_same (w ∷ ws) fs [] h = absurd (let z : ◌≡◌ {A = ℕ} 0 1 = cc in omega arith)
fields_are_same (w ∷ ws) [] (g ∷ gs) h = refl
fields_are_same (w ∷ ws) (f ∷ fs) (g ∷ gs) h =
    let long = eqb-true (length g) w (and_left (eqb (length g) w) (are_wide ws gs) h) in
    let ih = fields_are_same ws fs gs (and_right (eqb (length g) w) (are_wide ws gs) h) in
    split (eqb (length f) w)
    (λ t.
    let e = eqb-true (length f) w t in
    rw (t, same_joined f (joined fs) g (joined gs) (e ∙ sym long), ih)
    (split (same f g) (λ u. rw u refl) (λ u. rw u (split (are_wide ws fs) (λ v. rw v refl) (λ v. rw v refl)))))
    (λ t. rw (t, same_lengths f g (λ e. eqb-false (length f) w t (e ∙ long))) refl)

-- the first two of some fields make the front of their key
front_two : (v w : ℕ) (ws : List ℕ) (fs : List (List ℕ)) → are_wide (v ∷ w ∷ ws) fs ≡ true
    → (are_wide (v ∷ w ∷ []) (take 2 fs) ≡ true) × (joined (take 2 fs) ≡ take (v + w) (joined fs))
unfolding are_wide joined
front_two v w ws [] h = absurd (let z : ◌≡◌ {A = ℕ} 0 1 = cc in omega arith)
front_two v w ws (f ∷ []) h = absurd (let z : ◌≡◌ {A = ℕ} 0 1 = cc (and_right (eqb (length f) v) false h) in omega arith)
front_two v w ws (f ∷ g ∷ fs) h =
    let one = and_left (eqb (length f) v) (eqb (length g) w && are_wide ws fs) h in
    let rest = and_right (eqb (length f) v) (eqb (length g) w && are_wide ws fs) h in
    let two = and_left (eqb (length g) w) (are_wide ws fs) rest in
    let p = eqb-true (length f) v one in
    let q = eqb-true (length g) w two in
    let l : length (f ++ g) ≡ v + w = length-append f g ∙ omega arith in
    (rw (one, two) refl, rw (append-nil g, ← append_assoc f g (joined fs)) (sym (take_at (f ++ g) (joined fs) (v + w) l)))

-- the school's fields of a key: an address and its qualifier, which make its front
abbrev pub school_widths : List ℕ
school_widths = 10 ∷ 2 ∷ []

pub school_front : (fs : List (List ℕ)) → are_wide key_widths fs ≡ true → (are_wide school_widths (take 2 fs) ≡ true) × (joined (take 2 fs) ≡ take 12 (joined fs))
school_front fs h = front_two 10 2 _ fs h

-- an order's school heads its key
pub school_heads : (s : List ℕ) → fixed_width Order ≤ length s → school_in Order s ≡ school_of (line_key Order s)
unfolding school_in key_fields line_key school_of layout all
school_heads s h = (school_front (fields_in Order (key_fields Order) s) (fields_wide Order s h (key_fields Order) refl)).1
