-- A weighted sum, one term at a time.
use mathlib.Core.Path.{◌≡◌, refl}
use mathlib.Core.List.{List, [], ◌∷◌}
use Prim.Native.Nat.{ℕ, ◌+◌, ◌*◌, ◌≤◌, ◌<◌}
use native.Mathlib.Nat.{mul-le-mul}
use native.Mathlib.Numerals.{add-one}
use lib.ListN.{length, drop, get_or, drop_of_length-le}
use lib.Seq.{drop-cons}
use borrow.Author.Tests.{leb-true}
use mathlib.Core.Bool.{true}
use Rattle.cells.specs.Bytes.{all}
use Rattle.signs.proofs.Runs.{all_at}
use Rattle.rules.specs.Article.{low, check_value, weighted}

-- what is left from i on is the term at i and what is left after it
pub term : (ws s : List ℕ) (i : ℕ) → i < length ws → i < length s
    → weighted (drop i ws) (drop i s) ≡ get_or ws i 0 * check_value (get_or s i 0) + weighted (drop (i + 1) ws) (drop (i + 1) s)
unfolding weighted
term ws s i h k = rw (drop-cons ws i 0 h, drop-cons s i 0 k, add-one i)

-- nothing to weigh weighs nothing
none_left : (ws : List ℕ) → weighted ws [] ≡ 0
unfolding weighted
none_left [] = refl
none_left (w ∷ ws) = refl

-- nothing is left past the last byte
pub weighed : (ws s : List ℕ) (i : ℕ) → length s ≤ i → weighted (drop i ws) (drop i s) ≡ 0
weighed ws s i h = rw (drop_of_length-le s h) (none_left (drop i ws))

-- a term is at most its largest weight times its largest value
pub small_at : (ws : List ℕ) (i v : ℕ) → all low ws ≡ true → i < length ws → v ≤ 207 → get_or ws i 0 * v ≤ 2070
small_at ws i v h l g = mul-le-mul (leb-true _ _ (all_at low ws i h l)) g
