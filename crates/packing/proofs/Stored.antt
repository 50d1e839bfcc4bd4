-- A record with more fields: how long it becomes, and stored in two steps.
use mathlib.Core.Path.{◌≡◌, refl, ◌∙◌, ap, sym}
use mathlib.Core.Bool.{true}
use mathlib.Core.List.{List, [], ◌∷◌, ◌++◌, append_assoc, append-nil}
use Prim.Native.Nat.{ℕ, suc, ◌+◌, ◌≤◌, ◌<◌}
use native.Mathlib.Nat.{zero-add}
use native.Mathlib.Omega.{arith}
use borrow.Author.Tests.{ltb-true, ltb-false, lt-ltb}
use lib.Dec.{ltb}
use lib.ListN.{length, set, length-append}
use lib.Seq.{sets, set-set, set_comm}
use Rattle.cells.specs.Bytes.{bytes}
use Rattle.cells.proofs.Bools.{split}
use Rattle.cells.proofs.Stores.{sets_append}
use Rattle.record.specs.Fields.{head_width, Optional}
use Rattle.writing.specs.Widths.{width_after, capped, all_inside}
use Rattle.record.specs.Layout.{most_bytes}
use Rattle.std.specs.Prelude.{Err}
use Rattle.writing.specs.declared.answer.Refusal.TheVariants.{TooLong}
use Rattle.writing.specs.Write.{optional_of, field_text, optional_text, record_text, length_judged}
use Rattle.writing.specs.declared.entries.Entry.{Entry}
use Rattle.writing.proofs.Records.{width_least}
use Rattle.writing.proofs.Widths.{record_wide, capped_above, capped_below}
use Rattle.lent_parts.specs.Faults.{fields_text}

-- a record without its last field
unfoldable pub front : List ℕ → List Optional → List ℕ
front fixed [] = fixed
front fixed (f ∷ fs) = front (fixed ++ field_text f) fs

-- a record with more fields is that, with more fields
text_joined : (fixed : List ℕ) (xs ys : List Optional) → record_text fixed (xs ++ ys) ≡ record_text (front fixed xs) ys
unfolding front record_text optional_text
text_joined fixed [] ys = refl
text_joined fixed (f ∷ xs) ys = sym (append_assoc fixed (field_text f) (optional_text (xs ++ ys))) ∙ text_joined (fixed ++ field_text f) xs ys

-- and with none it is the record
text_last : (fixed : List ℕ) (xs : List Optional) → record_text fixed xs ≡ front fixed xs ++ bytes "*9999"
unfolding record_text optional_text
text_last fixed xs = ap (record_text fixed) (sym (append-nil xs)) ∙ text_joined fixed xs []

-- how long it is
pub front_wide : (fixed contents : List ℕ) (es : List Entry) → all_inside contents es ≡ true
    → length (front fixed (optional_of contents es)) + head_width ≡ width_after (length fixed) es
front_wide fixed contents es h =
    sym (ap length (text_last fixed (optional_of contents es)) ∙ length-append (front fixed (optional_of contents es)) (bytes "*9999"))
    ∙ record_wide fixed contents es h

-- a store before a run may as well come first
set_before : (l : List ℕ) (i : ℕ) (xs : List ℕ) (j v : ℕ) → j < i → set (sets l i xs) j v ≡ sets (set l j v) i xs
set_before l i [] j v h = refl
set_before l i (x ∷ xs) j v h =
    set_before (set l i x) (suc i) xs j v (omega arith)
    ∙ ap (λ (d : List ℕ). sets d (suc i) xs) (set_comm l i j x v (λ e. omega arith))

-- a run stored over a shorter one leaves nothing of it
sets_over : (l : List ℕ) (i : ℕ) (xs ys : List ℕ) → length xs ≤ length ys → sets (sets l i xs) i ys ≡ sets l i ys
sets_over l i [] ys h = refl
sets_over l i (x ∷ xs) [] h = absurd (omega arith)
sets_over l i (x ∷ xs) (y ∷ ys) h =
    rw (set_before (set l i x) (suc i) xs i y (omega arith), set-set l i x y) (sets_over (set l i y) (suc i) xs ys (omega arith))

-- fields as they are written, and then the last one
text_ends : (fs : List Optional) → optional_text fs ≡ fields_text fs ++ bytes "*9999"
unfolding optional_text fields_text
text_ends [] = refl
text_ends (f ∷ fs) = rw (text_ends fs) (sym (append_assoc (field_text f) (fields_text fs) (bytes "*9999")))

-- a record with more fields is longer by these
pub joined_wide : (fixed contents : List ℕ) (es : List Entry) (ys : List Optional) → all_inside contents es ≡ true
    → length (record_text fixed (optional_of contents es ++ ys)) ≡ width_after (length fixed) es + length (fields_text ys)
unfolding record_text
joined_wide fixed contents es ys h =
    let f = front fixed (optional_of contents es) in
    let w = front_wide fixed contents es h in
    let a = length-append f (optional_text ys) in
    let b : length (optional_text ys) ≡ length (fields_text ys) + 5 = ap length (text_ends ys) ∙ length-append (fields_text ys) (bytes "*9999") in
    ap length (text_joined fixed (optional_of contents es) ys) ∙ omega arith

-- more fields, stored where the last field of a record stands, and then the last one, make it the record of all fields
pub joined_stored : (out fixed : List ℕ) (xs ys : List Optional) (at end : ℕ) → at ≡ length (front fixed xs) → end ≡ at + length (fields_text ys)
    → sets (sets (sets out 0 (record_text fixed xs)) at (fields_text ys)) end (bytes "*9999") ≡ sets out 0 (record_text fixed (xs ++ ys))
unfolding record_text
joined_stored out fixed xs ys at end e g =
    let f = front fixed xs in
    let l = length-append (fields_text ys) (bytes "*9999") in
    let a : sets out 0 (record_text fixed xs) ≡ sets (sets out 0 f) at (bytes "*9999") =
    ap (sets out 0) (text_last fixed xs) ∙ sets_append out 0 f (bytes "*9999") ∙ rw (zero-add, e) in
    let b : sets out 0 (record_text fixed (xs ++ ys)) ≡ sets (sets out 0 f) at (fields_text ys ++ bytes "*9999") =
    ap (sets out 0) (text_joined fixed xs ys) ∙ sets_append out 0 f (optional_text ys) ∙ rw (zero-add, e, text_ends ys) in
    rw (g, ← sets_append (sets out 0 (record_text fixed xs)) at (fields_text ys) (bytes "*9999"), a, b)
    (sets_over (sets out 0 f) at (bytes "*9999") (fields_text ys ++ bytes "*9999") (omega arith))

-- a length that is capped, where it is above the most, and where it is not
pub capped_over : (most n : ℕ) → most < capped most n → most < n
capped_over most n h =
    split (ltb most n) (λ t. ltb-true most n t) (λ t. let l = ltb-false most n t in absurd (omega (arith, capped_below most n l)))

pub capped_within : (most n : ℕ) → capped most n ≤ most → capped most n ≡ n
capped_within most n h =
    split (ltb most n) (λ t. absurd (omega (arith, capped_above most n (ltb-true most n t)))) (λ t. sym (capped_below most n (ltb-false most n t)))

-- so one that is too long already is too long with more
pub whole_long : (w more : ℕ) (out : List ℕ) → most_bytes < capped most_bytes w → length_judged (w + more) out ≡ Err TooLong
unfolding length_judged
whole_long w more out h =
    let o = capped_over most_bytes w h in
    rw (lt-ltb most_bytes (w + more) (omega arith))

-- the record of a table's fields, the parts' fields from its last field on, and the last field are the record of all fields
pub all_stored : (out fixed contents : List ℕ) (es : List Entry) (ys : List Optional) (at end : ℕ) → all_inside contents es ≡ true
    → at + head_width ≡ width_after (length fixed) es → end ≡ at + length (fields_text ys)
    → sets (sets (sets out 0 (record_text fixed (optional_of contents es))) at (fields_text ys)) end (bytes "*9999") ≡ sets out 0 (record_text fixed (optional_of contents es ++ ys))
all_stored out fixed contents es ys at end h e g =
    joined_stored out fixed (optional_of contents es) ys at end (omega (arith, e, front_wide fixed contents es h)) g

-- what stands before the last field of a record, and a length within the most, as it is reckoned
pub least_wide : (n : ℕ) (es : List Entry) → 5 ≤ width_after n es
least_wide n es = omega (arith, width_least n es)

pub capped_short : (most n : ℕ) → n ≤ most → capped most n ≡ n
capped_short most n h = sym (capped_below most n h)
