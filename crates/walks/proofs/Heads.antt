-- What stands at a place of a record, by the tests that the code makes there.
use mathlib.Core.Path.{◌≡◌, ◌∙◌, ap}
use mathlib.Core.Bool.{true, false}
use mathlib.Core.List.{List}
use Prim.Native.Nat.{ℕ, ◌+◌, ◌-◌, ◌≤◌, ◌<◌}
use native.Mathlib.Nat.{add-zero}
use native.Mathlib.Omega.{arith}
use borrow.Author.Tests.{eq-eqb, ne_eqb, lt-leb, ltb-true, ltb-false}
use lib.Dec.{ltb}
use lib.ListN.{length, drop, get_or, length-drop, length-take}
use lib.Seq.{slice, get_or-drop}
use Rattle.cells.proofs.Bools.{split, and_false}
use Rattle.cells.proofs.Parts.{slice_drop}
use Rattle.signs.specs.Class.{all_of, of_class}
use Rattle.rules.specs.Number.{number}
use Rattle.signs.specs.declared.Class.TheVariants.{Digit}
use Rattle.rules.proofs.Parts.{part_most}
use Rattle.record.specs.Fields.{head_of, id_in, id_of}
use Rattle.std.specs.Prelude.{None, Some}

-- what stands at a place, by the first test that fails
module _ (s : List ℕ) (at : ℕ) where
  -- the bytes after the star, and how many there are
  digits : slice 1 5 (drop at s) ≡ slice (at + 1) (at + 5) s
  digits = slice_drop 1 5 at s

  digits_length : length (slice (at + 1) (at + 5) s) ≡ (length s - at - 1) - (length s - at - 5)
  digits_length = simp (length-drop, length-take) (omega arith)

  -- fewer than four bytes are not four digits
  few : length s - at < 5 → of_class Digit 4 4 (slice (at + 1) (at + 5) s) ≡ false
  unfolding of_class
  few h = rw (lt-leb 4 (length (slice (at + 1) (at + 5) s)) (rw digits_length (omega arith)))

  -- four bytes are four digits just where each is a digit
  four : 5 ≤ length s - at → of_class Digit 4 4 (slice (at + 1) (at + 5) s) ≡ all_of Digit (slice (at + 1) (at + 5) s)
  unfolding of_class
  four h =
      let e : length (slice (at + 1) (at + 5) s) ≡ 4 = digits_length ∙ omega arith in
      rw e

  -- the byte there
  first : get_or (drop at s) 0 0 ≡ get_or s at 0
  first = get_or-drop at s 0 0 ∙ ap (λ (k : ℕ). get_or s k 0) (add-zero at)

  -- too few bytes are left
  pub head_short : length s - at < 5 → head_of (drop at s) ≡ None
  unfolding head_of
  head_short h = simp (digits, few h, and_false)

  -- no star stands there
  pub head_other : (get_or s at 0 ≡ 42 → ⊥) → head_of (drop at s) ≡ None
  unfolding head_of
  head_other h = simp (first, ne_eqb (get_or s at 0) 42 h)

  module _ (l : 5 ≤ length s - at) where
    -- the four bytes after the first are not all digits
    pub head_letters : all_of Digit (slice (at + 1) (at + 5) s) ≡ false → head_of (drop at s) ≡ None
    unfolding head_of
    head_letters e = simp (digits, four l, e, and_false)

    -- a star and four digits stand there
    pub head_id : get_or s at 0 ≡ 42 → all_of Digit (slice (at + 1) (at + 5) s) ≡ true → head_of (drop at s) ≡ Some (number (slice (at + 1) (at + 5) s))
    unfolding head_of
    head_id h e = simp (first, eq-eqb (get_or s at 0) 42 h, digits, four l, e)

-- the ID of a field that stands there
pub id_of_law : (t : List ℕ) (id : ℕ) → head_of t ≡ Some id → id_of t ≡ id
unfolding id_of id_in
id_of_law t id e = rw e

-- a field that stands there has room
pub head_wide : (s : List ℕ) (at id : ℕ) → head_of (drop at s) ≡ Some id → at + 5 ≤ length s
head_wide s at id e =
    split (ltb (length s - at) 5)
    (λ t.
    let none = head_short s at (ltb-true (length s - at) 5 t) in
    let z : ◌≡◌ {A = ℕ} 0 1 = cc in absurd (omega arith))
    (λ t. omega (arith, ltb-false (length s - at) 5 t))

-- what stands at a place
pub ruleset heads = (head_short, head_other, head_letters, head_id, part_most)
