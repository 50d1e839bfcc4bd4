-- Plain lists: their parts, and tests that hold at each byte.
use mathlib.Core.Path.{◌≡◌, ap, ap₂, sym, refl}
use mathlib.Core.Bool.{Bool, true, ◌&&◌}
use mathlib.Core.List.{List, [], ◌∷◌, ◌++◌}
use Prim.Native.Nat.{ℕ, ◌+◌, ◌≤◌}
use native.Mathlib.Omega.{arith}
use borrow.Author.Tests.{eqb-true}
use lib.Dec.{eqb}
use lib.ListN.{length, get_or, take, drop, replicate}
use lib.Seq.{slice, take-append-le}
use Rattle.cells.specs.Bytes.{all, run}
use Rattle.cells.proofs.Bools.{split, and_left, and_right, and_false}

-- a part that ends within the first of two lists is a part of it
pub slice_append_le : (a b : ℕ) (xs ys : List ℕ) → b ≤ length xs → slice a b (xs ++ ys) ≡ slice a b xs
slice_append_le a b xs ys h = ap (drop a) (take-append-le b xs ys h)

-- a list of one byte
pub one_byte : (xs : List ℕ) → length xs ≡ 1 → get_or xs 0 0 ∷ [] ≡ xs
one_byte [] e = absurd (omega arith)
one_byte (x ∷ []) e = refl
one_byte (x ∷ y ∷ ys) e = absurd (omega arith)

-- bytes that are all the same byte
pub all_one : (a : ℕ) (xs : List ℕ) → all (λ (b : ℕ). eqb b a) xs ≡ true → xs ≡ replicate (length xs) a
unfolding all
all_one a [] e = refl
all_one a (x ∷ xs) e =
    ap₂ (λ (z : ℕ) (zs : List ℕ). z ∷ zs) (eqb-true x a (and_left (eqb x a) _ e)) (all_one a xs (and_right (eqb x a) _ e))

-- two tests hold at each byte just where the one does and the other does
pub all_and : (p q : ℕ → Bool) (s : List ℕ) → all (λ b. p b && q b) s ≡ all p s && all q s
unfolding all
all_and p q [] = refl
all_and p q (x ∷ xs) =
    let ih = all_and p q xs in
    split (p x) (λ e. rw e (split (q x) (λ f. rw f ih) (λ f. rw f (sym (and_false (all p xs)))))) (λ e. rw e)

module _ (p : ℕ → Bool) where
  -- a test holds at each byte of the run at the front of a list
  pub all_front : (s : List ℕ) → all p (take (run p s) s) ≡ true
  unfolding all run
  all_front [] = refl
  all_front (x ∷ xs) =
      let ih = all_front xs in
      split (p x) (λ e. rw (e, e) ih) (λ e. rw e)

  -- where each byte of the first list passes, the run goes on in the second
  pub run_append : (xs ys : List ℕ) → all p xs ≡ true → run p (xs ++ ys) ≡ length xs + run p ys
  unfolding all run
  run_append [] ys e = omega arith
  run_append (x ∷ xs) ys e =
      let ih = run_append xs ys (and_right (p x) (all p xs) e) in
      rw (and_left (p x) (all p xs) e) (omega arith)
