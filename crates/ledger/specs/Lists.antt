-- Walks over a list: what passes a test, a sum, the first match and a change to it.
use Rattle.std.specs.Prelude.{ℕ, ◌+◌, Bool, true, false, List, [], ◌∷◌}
use Rattle.std.proofs.Math.Option.{Option, none, some}
use Rattle.cells.specs.Bytes.{pick}

-- the entries that pass a test, in their order
unfoldable pub keep : {A : Type 0} → (A → Bool) → List A → List A
keep p [] = []
keep p (a ∷ l) = pick (p a) (a ∷ keep p l) (keep p l)

-- the sum of a figure over a list
unfoldable pub total : {A : Type 0} → (A → ℕ) → List A → ℕ
total f [] = 0
total f (a ∷ l) = f a + total f l

-- the first entry that passes a test
unfoldable pub first : {A : Type 0} → (A → Bool) → List A → Option A
first p [] = none
first p (a ∷ l) = pick (p a) (some a) (first p l)

-- a change to the first entry that passes a test
unfoldable pub change : {A : Type 0} → (A → Bool) → (A → A) → List A → List A
change p f [] = []
change p f (a ∷ l) = pick (p a) (f a ∷ l) (a ∷ change p f l)

-- a figure of what was found, or another where nothing was
unfoldable pub given : {A B : Type 0} → B → (A → B) → Option A → B
given other f none = other
given other f (some a) = f a

unfoldable pub found : {A : Type 0} → Option A → Bool
found none = false
found (some a) = true
