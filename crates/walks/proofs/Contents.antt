-- Where the content that starts at a place of a record ends, and whether it holds a byte that it may not.
use mathlib.Core.Path.{◌≡◌, ◌∙◌, ap}
use mathlib.Core.Bool.{Bool, true, false, ◌&&◌}
use mathlib.Core.List.{List, ◌∷◌}
use Prim.Native.Nat.{ℕ, ◌+◌, ◌-◌, ◌≤◌, ◌<◌}
use native.Mathlib.Omega.{arith}
use borrow.Author.Tests.{eq-eqb, ne_eqb}
use lib.ListN.{length, drop, get_or, length-drop}
use lib.Seq.{slice, drop-drop, take_all}
use Rattle.cells.specs.Bytes.{run, any}
use Rattle.cells.proofs.Bools.{split, and_left, and_right, and_false}
use Rattle.cells.proofs.Parts.{next, take_from, nothing}
use Rattle.signs.specs.Class.{barred}
use Rattle.signs.proofs.Runs.{run_most, run_on, run_off, run_end}
use Rattle.record.specs.Fields.{not_star, content_width, content_of, field_width, after_field}

-- the place of the first star from p on, else of the record's end
unfoldable pub end_of : List ℕ → ℕ → ℕ
end_of s p = p + run not_star (drop p s)

-- where it ends, a byte at a time
module _ (s : List ℕ) (p : ℕ) where
  -- past a byte that is no star
  pub end_on : p < length s → (get_or s p 0 ≡ 42 → ⊥) → end_of s p ≡ end_of s (p + 1)
  unfolding end_of
  end_on h e = run_on not_star s p h (rw (ne_eqb (get_or s p 0) 42 e))

  -- at a star
  pub end_star : p < length s → get_or s p 0 ≡ 42 → end_of s p ≡ p
  unfolding end_of
  end_star h e = run_off not_star s p h (rw (eq-eqb (get_or s p 0) 42 e))

  -- at the record's end
  pub end_none : length s ≤ p → end_of s p ≡ p
  unfolding end_of
  end_none h = run_end not_star s p h

  -- no longer than what is left of the record
  pub width_most : run not_star (drop p s) ≤ length s - p
  width_most = omega (arith, run_most not_star (drop p s), length-drop p s)

  -- not before it starts, nor past the record's end
  pub end_range : (p ≤ end_of s p) × (end_of s p ≤ p + (length s - p))
  unfolding end_of
  end_range = omega (arith, width_most)

  -- how long it is
  pub width_is : run not_star (drop p s) ≡ end_of s p - p
  unfolding end_of
  width_is = omega arith

-- how long a content is, a byte at a time
pub width_star : (s : List ℕ) (i : ℕ) → i < length s → get_or s i 0 ≡ 42 → i + run not_star (drop i s) ≡ i
width_star s i h e = run_off not_star s i h (rw (eq-eqb (get_or s i 0) 42 e))

pub width_more : (s : List ℕ) (i : ℕ) → i < length s → (get_or s i 0 ≡ 42 → ⊥) → i + run not_star (drop i s) ≡ i + 1 + run not_star (drop (i + 1) s)
width_more s i h e = run_on not_star s i h (rw (ne_eqb (get_or s i 0) 42 e))

pub width_end : (s : List ℕ) (i : ℕ) → length s ≤ i → i + run not_star (drop i s) ≡ i
width_end s i h = run_end not_star s i h

-- what is left from a place on
pub rest_is : (s : List ℕ) (p : ℕ) → slice p (length s) s ≡ drop p s
rest_is s p = ap (drop p) (take_all (length s) s (omega arith))

pub ruleset width_on = (width_star, width_more, width_end, rest_is)

-- the field at a place, by where its content ends
module _ (s : List ℕ) (at : ℕ) where
  -- how long its content is
  pub content_width_law : content_width (drop at s) ≡ run not_star (drop (at + 5) s)
  unfolding content_width
  content_width_law = rw (drop-drop 5 at s)

  -- the place after it
  pub field_end : at + field_width (drop at s) ≡ end_of s (at + 5)
  unfolding field_width end_of
  field_end = rw content_width_law (omega arith)

  -- what comes after it
  pub field_after : after_field (drop at s) ≡ drop (end_of s (at + 5)) s
  unfolding after_field
  field_after = drop-drop (field_width (drop at s)) at s ∙ ap (λ (k : ℕ). drop k s) field_end

  -- its content
  pub field_content : content_of (drop at s) ≡ slice (at + 5) (end_of s (at + 5)) s
  unfolding content_of end_of
  field_content = rw (drop-drop 5 at s, content_width_law) (take_from (run not_star (drop (at + 5) s)) (at + 5) s)

-- a guarded content from p on holds a barred byte
unfoldable pub barred_from : Bool → List ℕ → ℕ → Bool
barred_from guard s p = guard && any barred (slice p (end_of s p) s)

module _ (guard : Bool) (b : ℕ) (bs : List ℕ) where
  -- the first byte may be held: the others decide
  any_on : guard && barred b ≡ false → guard && any barred (b ∷ bs) ≡ guard && any barred bs
  unfolding any
  any_on e = split guard (λ g. rw (g, rw g at e)) (λ g. rw g)

  -- it may not
  any_found : guard && barred b ≡ true → guard && any barred (b ∷ bs) ≡ true
  unfolding any
  any_found e = rw (and_left guard (barred b) e, and_right guard (barred b) e)

-- whether it holds one, a byte at a time
module _ (guard : Bool) (s : List ℕ) (p : ℕ) where
  module _ (h : p < length s) (e : get_or s p 0 ≡ 42 → ⊥) where
    -- a content is its first byte and the content from the next place on
    from_byte : slice p (end_of s p) s ≡ get_or s p 0 ∷ slice (p + 1) (end_of s (p + 1)) s
    from_byte =
        let r = end_range s (p + 1) in
        ap (λ (k : ℕ). slice p k s) (end_on s p h e) ∙ next s p (end_of s (p + 1)) (omega arith) (omega arith)

    -- past a byte that it may hold
    pub barred_on : guard && barred (get_or s p 0) ≡ false → barred_from guard s p ≡ barred_from guard s (p + 1)
    unfolding barred_from
    barred_on g = rw from_byte (any_on guard (get_or s p 0) _ g)

    -- at one that it may not
    pub barred_found : guard && barred (get_or s p 0) ≡ true → barred_from guard s p ≡ true
    unfolding barred_from
    barred_found g = rw from_byte (any_found guard (get_or s p 0) _ g)

  -- where it ends
  pub barred_none : end_of s p ≡ p → barred_from guard s p ≡ false
  unfolding barred_from any
  barred_none e = rw (e, nothing p p s (omega arith)) (and_false guard)
