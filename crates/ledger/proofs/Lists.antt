-- Laws of the walks over a list: what is kept, a sum, the first match and a change to it.
use Prim.Native.Nat.{ℕ, ◌+◌, ◌≤◌}
use native.Mathlib.Omega.{arith}
use mathlib.Core.Path.{◌≡◌, refl, ap}
use mathlib.Core.Bool.{Bool, true, false}
use mathlib.Core.Option.{Option, none, some}
use mathlib.Core.List.{List, [], ◌∷◌, ◌++◌, map}
use lib.Dec.{leb}
use lib.ListN.{length}
use borrow.Author.Tests.{leb-false, lt-leb}
use Rattle.ledger.specs.Lists.{keep, total, first, change, found}

-- each entry of a list has a property
abbrev pub Each : {A : Type 0} → (A → Type 0) → List A → Type 0
Each P [] = Unit {0}
Each P (a ∷ l) = P a × Each P l

module _ {A : Type 0} where
  -- what is not found is none
  pub not_found : (x : Option A) → found x ≡ false → x ≡ none
  unfolding found
  not_found none e = refl
  not_found (some a) e = cc

  -- one more entry that passes is kept last
  pub keep_in : (p : A → Bool) (l : List A) (a : A) → p a ≡ true → keep p (l ++ (a ∷ [])) ≡ keep p l ++ (a ∷ [])
  unfolding keep
  keep_in p [] a h = cc
  keep_in p (b ∷ l) a h = grind (arith, keep_in p l a h)

  -- one more entry that does not pass is not kept
  pub keep_out : (p : A → Bool) (l : List A) (a : A) → p a ≡ false → keep p (l ++ (a ∷ [])) ≡ keep p l
  unfolding keep
  keep_out p [] a h = cc
  keep_out p (b ∷ l) a h = grind (arith, keep_out p l a h)

  -- where there is no first match, nothing is kept
  pub keep_none : (p : A → Bool) (l : List A) → first p l ≡ none → keep p l ≡ []
  unfolding keep first
  keep_none p [] e = refl
  keep_none p (a ∷ l) e = grind (arith, keep_none p l)

  -- no more is kept than was there
  pub keep_most : (p : A → Bool) (l : List A) → length (keep p l) ≤ length l
  unfolding keep
  keep_most p [] = omega arith
  keep_most p (b ∷ l) = grind (arith, keep_most p l)

  -- room for a list is room for what is kept of it
  pub keep_room : (n : ℕ) (p : A → Bool) (l : List A) → leb n (length l) ≡ false → leb n (length (keep p l)) ≡ false
  keep_room n p l h = lt-leb n (length (keep p l)) (omega (arith, keep_most p l, leb-false n (length l) h))

  -- one more entry adds its figure to a sum
  pub total_more : (f : A → ℕ) (l : List A) (a : A) → total f (l ++ (a ∷ [])) ≡ total f l + f a
  unfolding total
  total_more f [] a = omega arith
  total_more f (b ∷ l) a = omega (arith, total_more f l a)

  -- figures that agree at each entry have the same sum
  pub total_same : (f g : A → ℕ) → ((a : A) → f a ≡ g a) → (l : List A) → total f l ≡ total g l
  unfolding total
  total_same f g h [] = refl
  total_same f g h (a ∷ l) = omega (arith, h a, total_same f g h l)

  -- figures that agree at each entry that passes have the same sum over what is kept
  pub total_kept : (f g : A → ℕ) (p : A → Bool) → ((a : A) → p a ≡ true → f a ≡ g a) → (l : List A) → total f (keep p l) ≡ total g (keep p l)
  unfolding total keep
  total_kept f g p h [] = refl
  total_kept f g p h (a ∷ l) = grind (arith, h a, total_kept f g p h l)

  -- two tests may be asked either way round
  pub keep_swap : (p q : A → Bool) (l : List A) → keep p (keep q l) ≡ keep q (keep p l)
  unfolding keep
  keep_swap p q [] = refl
  keep_swap p q (a ∷ l) = grind (arith, keep_swap p q l)

  -- a sum over what is kept is at most the whole sum, also among what another test keeps
  total_most : (f : A → ℕ) (p : A → Bool) (l : List A) → total f (keep p l) ≤ total f l
  unfolding total keep
  total_most f p [] = omega arith
  total_most f p (a ∷ l) = grind (arith, total_most f p l)

  pub kept_most : (f : A → ℕ) (q p : A → Bool) (l : List A) → total f (keep q (keep p l)) ≤ total f (keep q l)
  kept_most f q p l = rw (keep_swap q p l) (total_most f p (keep q l))

  -- a change of the first match moves a sum as it moves the entry's figure
  pub total_change : (g : A → ℕ) (q : A → Bool) (f : A → A) (n : ℕ) → ((a : A) → g (f a) ≡ g a + n) → (l : List A) → found (first q l) ≡ true
      → total g (change q f l) ≡ total g l + n
  unfolding total change first found
  total_change g q f n h [] t = cc
  total_change g q f n h (a ∷ l) t = grind (arith, h a, total_change g q f n h l)

  -- where all that q passes is kept
  module _ (p q : A → Bool) (inside : (a : A) → p a ≡ false → q a ≡ false) where
    -- the first match is that among what is kept
    pub first_keep : (l : List A) → first q (keep p l) ≡ first q l
    unfolding first keep
    first_keep [] = refl
    first_keep (a ∷ l) = grind (arith, inside a, first_keep l)

    -- a change of the first match changes what is kept
    pub change_keep : (f : A → A) → ((a : A) → p (f a) ≡ p a) → (l : List A) → keep p (change q f l) ≡ change q f (keep p l)
    unfolding change keep
    change_keep f g [] = refl
    change_keep f g (a ∷ l) = grind (arith, g a, inside a, change_keep f g l)

  -- a change of what is not kept leaves what is kept
  pub change_apart : (p q : A → Bool) → ((a : A) → q a ≡ true → p a ≡ false) → (f : A → A) → ((a : A) → p (f a) ≡ p a)
      → (l : List A) → keep p (change q f l) ≡ keep p l
  unfolding change keep
  change_apart p q h f g [] = refl
  change_apart p q h f g (a ∷ l) = grind (arith, g a, h a, change_apart p q h f g l)

  -- what has no match has none among what is kept
  pub first_none : (p q : A → Bool) (l : List A) → first q l ≡ none → first q (keep p l) ≡ none
  unfolding first keep
  first_none p q [] e = refl
  first_none p q (a ∷ l) e = grind (arith, first_none p q l)

  -- what is found is found in a longer list
  pub found_more : (q : A → Bool) (l : List A) (a : A) → found (first q l) ≡ true → found (first q (l ++ (a ∷ []))) ≡ true
  unfolding first found
  found_more q [] a t = cc
  found_more q (b ∷ l) a t = grind (arith, found_more q l a)

  -- a change that keeps a test keeps what it finds
  pub found_change : (q o : A → Bool) (f : A → A) → ((a : A) → q (f a) ≡ q a) → (l : List A) → found (first q (change o f l)) ≡ found (first q l)
  unfolding first change found
  found_change q o f h [] = refl
  found_change q o f h (a ∷ l) = grind (arith, h a, found_change q o f h l)

  -- a property of each entry and of one more
  pub each_more : (P : A → Type 0) (l : List A) (a : A) → Each P l → P a → Each P (l ++ (a ∷ []))
  each_more P [] a h t = (t, tt)
  each_more P (b ∷ l) a h t = (h.0, each_more P l a h.1 t)

  -- a property that follows at each entry
  pub each_so : (P Q : A → Type 0) → ((a : A) → P a → Q a) → (l : List A) → Each P l → Each Q l
  each_so P Q s [] h = tt
  each_so P Q s (a ∷ l) h = (s a h.0, each_so P Q s l h.1)

-- a figure of what a list is mapped to
pub total_map : {A B : Type 0} (f : B → ℕ) (g : A → B) (l : List A) → total f (map g l) ≡ total (λ a. f (g a)) l
unfolding total
total_map f g [] = refl
total_map f g (a ∷ l) = ap (λ (n : ℕ). f (g a) + n) (total_map f g l)
