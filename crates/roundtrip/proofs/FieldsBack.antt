-- What a walk that fits says of an optional part: each field is a star, an ID below 9999 in four digits and its content, and `*9999` ends it. So written from its fields it is what it was.
use mathlib.Core.Path.{◌≡◌, ◌∙◌, ap, sym, refl}
use mathlib.Core.Bool.{true, ◌&&◌}
use mathlib.Core.List.{List, ◌∷◌, ◌++◌, append_assoc}
use mathlib.Core.Logic.{◌⊎◌, inl, inr, ⊎_elim}
use Prim.Native.Nat.{ℕ, zero, suc, ◌+◌, ◌≤◌, ◌<◌}
use native.Mathlib.Omega.{arith}
use borrow.Author.Tests.{eqb-true, eqb-false}
use lib.Dec.{eqb, lit<}
use lib.ListN.{length, take, drop, get_or, length-take, length-drop, take-append-drop, drop_of_length-le}
use lib.Seq.{slice, slice-cons, drop-drop}
use Rattle.cells.specs.Bytes.{bytes, all}
use Rattle.cells.proofs.Bools.{split, and_left, and_right}
use Rattle.signs.specs.Class.{star, digit, belongs, all_of, of_class}
use Rattle.rules.specs.Number.{number}
use Rattle.signs.specs.declared.Class.TheVariants.{Digit}
use Rattle.rules.proofs.Digits.{width}
use Rattle.record.specs.Fields.{last_id, head_width, head_of, id_of, content_width, content_of, field_width, after_field, on_head, at_field, walk, fields_of}
use Rattle.record.specs.declared.answer.Refusal.TheVariants.{TooManyFields}
use Rattle.record.specs.Verdicts.{Verdict}
use Rattle.std.specs.Prelude.{Err, None, Ok, Option, Some}
use Rattle.walks.proofs.Heads.{id_of_law}
use Rattle.writing.specs.Digits.{digits_of}
use Rattle.writing.specs.Write.{field_text, optional_text}
use Rattle.roundtrip.proofs.NumbersBack.{digits_back}
use Rattle.roundtrip.proofs.BytesBack.{of_length, of_all}

-- a field stands at the front of t, and is not the last
pub record Standing (t : List ℕ) : Type 0 where
  pub wide : head_width ≤ length t
  pub small : id_of t < last_id
  pub text : t ≡ 42 ∷ (digits_of 4 (id_of t) ++ (content_of t ++ after_field t))

-- n fields stand there, then the last
abbrev pub Fields : ℕ → List ℕ → Type 0
Fields zero t = t ≡ bytes "*9999"
Fields (suc n) t = Standing t × Fields n (after_field t)

-- an ID stands at the front of t
module _ (t : List ℕ) (id : ℕ) (e : head_of t ≡ Some id) where
  -- so the test of a head is passed there
  tested : star (get_or t 0 0) && of_class Digit 4 4 (slice 1 head_width t) ≡ true
  unfolding head_of
  tested =
      split (star (get_or t 0 0) && of_class Digit 4 4 (slice 1 head_width t)) (λ h. h)
      (λ h. let z = rw h at e in let a : ◌≡◌ {A = ℕ} 0 1 = cc in absurd (omega arith))

  -- it is the number that the four bytes after the first spell
  spelled : number (slice 1 head_width t) ≡ id
  unfolding head_of
  spelled = let z = rw tested at e in cc

  -- the first is a star
  starred : get_or t 0 0 ≡ 42
  starred = eqb-true (get_or t 0 0) 42 (and_left (star (get_or t 0 0)) (of_class Digit 4 4 (slice 1 head_width t)) tested)

  -- the others are four digits
  four_digits : of_class Digit 4 4 (slice 1 head_width t) ≡ true
  four_digits = and_right (star (get_or t 0 0)) (of_class Digit 4 4 (slice 1 head_width t)) tested

  -- each is a digit
  digits : all digit (slice 1 head_width t) ≡ true
  unfolding all_of belongs
  digits = of_all Digit 4 (slice 1 head_width t) four_digits

  -- and there are four of them
  four : length (slice 1 head_width t) ≡ 4
  four = of_length Digit 4 (slice 1 head_width t) four_digits

  -- so t has the five bytes of a head
  pub head_wide : head_width ≤ length t
  head_wide = omega (arith, simp (length-drop, length-take) at four)

  -- the ID is below 10000
  pub head_small : id < 10000
  head_small = omega (arith, rw four at (width 0 0 (slice 1 head_width t) (lit< tt) digits), spelled)

  -- a star, its four digits and the rest are t
  pub head_text : t ≡ 42 ∷ (digits_of 4 id ++ drop head_width t)
  head_text =
      let back : digits_of 4 id ≡ slice 1 head_width t = rw (← spelled) (digits_back 4 (slice 1 head_width t) four digits) in
      let front : take head_width t ≡ 42 ∷ slice 1 head_width t = slice-cons 0 head_width t 0 (omega arith) head_wide ∙ rw starred in
      rw back (sym (take-append-drop head_width t) ∙ ap (λ (x : List ℕ). x ++ drop head_width t) front)

-- what is left after a head is the content and what is left after the field
pub content_text : (t : List ℕ) → drop head_width t ≡ content_of t ++ after_field t
unfolding content_of after_field field_width
content_text t = sym (rw (← drop-drop (content_width t) head_width t) (take-append-drop (content_width t) (drop head_width t)))

-- where 9999 stands as the last five bytes, these are `*9999`
pub last_text : (t : List ℕ) → head_of t ≡ Some last_id → length t ≡ head_width → t ≡ bytes "*9999"
unfolding digits_of
last_text t e l = head_text t last_id e ∙ rw (drop_of_length-le t {i = head_width} (omega arith))

-- where another ID stands, a field does that is not the last
pub standing : (t : List ℕ) (id : ℕ) → head_of t ≡ Some id → (id ≡ last_id → ⊥) → Standing t
standing t id e other =
    let i = id_of_law t id e in
    let s = head_small t id e in
    record {
      wide = head_wide t id e;
      small = omega arith;
      text = rw (i, ← content_text t) (head_text t id e);
    }

-- where a walk fits at a place, the last field stands there and the fields before it are all, or another does and those after it fit
head_fits : (d : Option ℕ) (n p : ℕ) (t : List ℕ) (x : Verdict) (m : ℕ) → head_of t ≡ d → on_head d n p t x ≡ Ok m
    → ((n ≡ m) × (t ≡ bytes "*9999")) ⊎ (Standing t × (x ≡ Ok m))
unfolding on_head
head_fits None n p t x m h e = let a : ◌≡◌ {A = ℕ} 0 1 = cc in absurd (omega arith)
head_fits (Some id) n p t x m h e =
    split (eqb id last_id)
    (λ q.
    let f = rw q at e in
    split (eqb (length t) head_width)
    (λ l.
    let g = rw l at f in
    let c : n ≡ m = cc in
    inl (c, last_text t (h ∙ ap Some (eqb-true id last_id q)) (eqb-true (length t) head_width l)))
    (λ l. let g = rw l at f in let a : ◌≡◌ {A = ℕ} 0 1 = cc in absurd (omega arith)))
    (λ q. inr (standing t id h (eqb-false id last_id q), rw q at e))

-- the same, before it is asked whether anything stands there
field_fits : (n p : ℕ) (t : List ℕ) (x : Verdict) (m : ℕ) → at_field n p t x ≡ Ok m → ((n ≡ m) × (t ≡ bytes "*9999")) ⊎ (Standing t × (x ≡ Ok m))
unfolding at_field
field_fits n p t x m e =
    split (eqb (length t) 0)
    (λ l. let g = rw l at e in let a : ◌≡◌ {A = ℕ} 0 1 = cc in absurd (omega arith))
    (λ l. head_fits (head_of t) n p t x m refl (rw l at e))

-- a walk that fits with n fields passed finds the others, then the last
pub walk_fields : (room n p : ℕ) (t : List ℕ) (m : ℕ) → walk room n p t ≡ Ok m → (c : ℕ) × ((n + c ≡ m) × Fields c t)
unfolding walk
walk_fields zero n p t m e =
    ⊎_elim (λ q. (0, (omega arith, q.1))) (λ q. let g = q.1 in let a : ◌≡◌ {A = ℕ} 0 1 = cc in absurd (omega arith))
    (field_fits n p t (Err (TooManyFields p)) m e)
walk_fields (suc room) n p t m e =
    ⊎_elim (λ q. (0, (omega arith, q.1)))
    (λ q.
    let r = walk_fields room (n + 1) (p + field_width t) (after_field t) m q.1 in
    (suc r.0, (omega arith, (q.0, r.1.1))))
    (field_fits n p t (walk room (n + 1) (p + field_width t) (after_field t)) m e)

-- and one from the first field on finds as many as it says
pub walked_fields : (room p : ℕ) (t : List ℕ) (n : ℕ) → walk room 0 p t ≡ Ok n → Fields n t
walked_fields room p t n e =
    let r = walk_fields room 0 p t n e in
    let c : r.0 ≡ n = omega arith in
    rw c at r.1.1

-- the fields that stand in t, written, are t
pub text_back : (n : ℕ) (t : List ℕ) → Fields n t → optional_text (fields_of n t) ≡ t
unfolding optional_text fields_of field_text
text_back zero t h = sym h
text_back (suc n) t h =
    rw (text_back n (after_field t) h.1, append_assoc (digits_of 4 (id_of t)) (content_of t) (after_field t)) (sym h.0.text)
