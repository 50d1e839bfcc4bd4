-- Laws of lists whose entries are all known to have a property: tests and figures that agree on such entries.
use Prim.Native.Nat.{ℕ}
use native.Mathlib.Omega.{arith}
use mathlib.Core.Path.{◌≡◌, refl}
use mathlib.Core.Bool.{Bool, true, false}
use mathlib.Core.Option.{Option, none, some}
use mathlib.Core.List.{List, [], ◌∷◌, map}
use Rattle.cells.specs.Bytes.{pick}
use Rattle.cells.proofs.Bools.{split}
use Rattle.ledger.specs.Lists.{keep, total, first}
use Rattle.ledger.proofs.Lists.{Each}

module _ {A : Type 0} where
  -- a sum over what is kept is a sum in which the others count for nothing
  pub total_keep : (f : A → ℕ) (p : A → Bool) (l : List A) → total f (keep p l) ≡ total (λ a. pick (p a) (f a) 0) l
  unfolding total keep
  total_keep f p [] = refl
  total_keep f p (a ∷ l) = grind (arith, total_keep f p l)

  -- the first match is the first of what is kept
  abbrev pub foremost : List A → Option A
  foremost [] = none
  foremost (a ∷ l) = some a

  pub first_foremost : (p : A → Bool) (l : List A) → first p l ≡ foremost (keep p l)
  unfolding first keep
  first_foremost p [] = refl
  first_foremost p (a ∷ l) = grind (arith, first_foremost p l)

  -- what passes one test, where it passes the other, is kept by both
  pub keep_within : (p q : A → Bool) → ((a : A) → p a ≡ true → q a ≡ true) → (l : List A) → keep p (keep q l) ≡ keep p l
  unfolding keep
  keep_within p q h [] = refl
  keep_within p q h (a ∷ l) = grind (arith, h a, keep_within p q h l)

  module _ (P : A → Type 0) where
    pub each_kept : (p : A → Bool) (l : List A) → Each P l → Each P (keep p l)
    unfolding keep
    each_kept p [] h = tt
    each_kept p (a ∷ l) h = let ih = each_kept p l h.1 in split (p a) (λ e. rw e (h.0, ih)) (λ e. rw e ih)

    pub keep_each : (p q : A → Bool) → ((a : A) → P a → p a ≡ q a) → (l : List A) → Each P l → keep p l ≡ keep q l
    unfolding keep
    keep_each p q s [] h = refl
    keep_each p q s (a ∷ l) h = grind (arith, s a h.0, keep_each p q s l h.1)

    pub total_each : (f g : A → ℕ) → ((a : A) → P a → f a ≡ g a) → (l : List A) → Each P l → total f l ≡ total g l
    unfolding total
    total_each f g s [] h = refl
    total_each f g s (a ∷ l) h = omega (arith, s a h.0, total_each f g s l h.1)

    -- of what they are mapped to
    pub keep_mapped : {B : Type 0} (f : A → B) (q : B → Bool) (p : A → Bool) → ((a : A) → P a → q (f a) ≡ p a) → (l : List A) → Each P l
        → keep q (map f l) ≡ map f (keep p l)
    unfolding keep
    keep_mapped f q p s [] h = refl
    keep_mapped f q p s (a ∷ l) h = grind (arith, s a h.0, keep_mapped f q p s l h.1)

-- a test that no entry passes keeps nothing
pub keep_nothing : {A : Type 0} (l : List A) → keep (λ a. false) l ≡ []
unfolding keep
keep_nothing [] = refl
keep_nothing (a ∷ l) = keep_nothing l
