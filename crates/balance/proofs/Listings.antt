-- Tests over places, and entries listed by their places: one more at the end, the first match, and a change to it.
use mathlib.Core.Path.{◌≡◌, ◌∙◌, ap, ap₂, sym, refl}
use mathlib.Core.Bool.{Bool}
use mathlib.Core.Logic.{◌≢◌}
use mathlib.Core.Option.{none, some}
use mathlib.Core.List.{List, [], ◌∷◌, ◌++◌}
use Prim.Native.Nat.{ℕ, zero, suc, ◌+◌, ◌≤◌, ◌<◌}
use native.Mathlib.Nat.{add-zero}
use native.Mathlib.Omega.{arith}
use lib.ListN.{length}
use Rattle.cells.specs.Search.{first_from}
use Rattle.cells.proofs.Bools.{split}
use Rattle.ledger.specs.Lists.{first, change}
use Rattle.balance.specs.Told.{listed}
use Rattle.std.specs.Prelude.{None, Some}
use Rattle.cells.proofs.Searches.{found_at}

module _ {A : Type 0} where
  -- as many are listed as places
  pub listed_length : (f : ℕ → A) (n i : ℕ) → length (listed f n i) ≡ n
  unfolding listed
  listed_length f zero i = refl
  listed_length f (suc n) i = ap suc (listed_length f n (suc i))

  -- where two agree at each place, they are listed the same
  pub listed_same : (f g : ℕ → A) (n i : ℕ) → ((x : ℕ) → i ≤ x → x < i + n → f x ≡ g x) → listed f n i ≡ listed g n i
  unfolding listed
  listed_same f g zero i h = refl
  listed_same f g (suc n) i h =
      ap₂ (λ (a : A) (l : List A). a ∷ l) (h i (omega arith) (omega arith)) (listed_same f g n (suc i) (λ x a c. h x (omega arith) (omega arith)))

  -- one more place is one more entry at the end
  pub listed_more : (f : ℕ → A) (n i : ℕ) → listed f (suc n) i ≡ listed f n i ++ (f (i + n) ∷ [])
  unfolding listed
  listed_more f zero i = rw add-zero
  listed_more f (suc n) i =
      let e : i + suc n ≡ suc i + n = omega arith in
      rw e (ap (λ (l : List A). f i ∷ l) (listed_more f n (suc i)))

  -- a test of entries that is a test of their places
  module _ (q : A → Bool) (p : ℕ → Bool) (f : ℕ → A) (same : (x : ℕ) → q (f x) ≡ p x) where
    -- no place is found: no entry passes
    pub none_listed : (n i : ℕ) → first_from p n i ≡ None → first q (listed f n i) ≡ none
    unfolding listed first_from first
    none_listed zero i e = refl
    none_listed (suc n) i e =
        split (p i)
        (λ h. let z : ◌≡◌ {A = ℕ} 0 1 = cc in absurd (omega arith))
        (λ h. rw (same i, h) (none_listed n (suc i) (rw h at e)))

    -- the entry at the place found is the first that passes
    pub first_listed : (n i j : ℕ) → first_from p n i ≡ Some j → first q (listed f n i) ≡ some (f j)
    unfolding listed first_from first
    first_listed zero i j e = let z : ◌≡◌ {A = ℕ} 0 1 = cc in absurd (omega arith)
    first_listed (suc n) i j e =
        split (p i)
        (λ h. let d : i ≡ j = cc in rw (same i, h) (ap (λ (x : ℕ). some (f x)) d))
        (λ h. rw (same i, h) (first_listed n (suc i) j (rw h at e)))

    -- a change of the first that passes changes the entry at the place found
    pub change_listed : (h : A → A) (g : ℕ → A) (n i j : ℕ) → first_from p n i ≡ Some j → g j ≡ h (f j) → ((x : ℕ) → x ≢ j → g x ≡ f x)
        → listed g n i ≡ change q h (listed f n i)
    unfolding listed first_from change
    change_listed h g zero i j e here apart = let z : ◌≡◌ {A = ℕ} 0 1 = cc in absurd (omega arith)
    change_listed h g (suc n) i j e here apart =
        split (p i)
        (λ t.
        let d : i ≡ j = cc in
        rw (same i, t)
        (ap₂ (λ (a : A) (l : List A). a ∷ l) (ap g d ∙ here ∙ ap (λ (x : ℕ). h (f x)) (sym d)) (listed_same g f n (suc i) (λ x a c. apart x (λ k. omega arith)))))
        (λ t.
        let w : first_from p n (suc i) ≡ Some j = rw t at e in
        let l = (found_at p n (suc i) j w).0 in
        rw (same i, t) (ap₂ (λ (a : A) (l : List A). a ∷ l) (apart i (λ k. omega arith)) (change_listed h g n (suc i) j w here apart)))
