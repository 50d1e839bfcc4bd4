-- The contents of a loop, each by the rule of its ID: what it is that keeps it.
use mathlib.Core.Path.{◌≡◌, ap}
use mathlib.Core.Bool.{true, false≢true}
use mathlib.Core.List.{List, [], ◌∷◌}
use Prim.Native.Nat.{ℕ, ◌^◌, ◌≤◌, ◌<◌}
use native.Mathlib.Nat.{zero-add}
use native.Mathlib.Omega.{arith}
use borrow.Author.Tests.{leb-true}
use lib.Dec.{leb}
use lib.ListN.{length}
use Rattle.cells.specs.Bytes.{bytes, within, all, same, among}
use Rattle.cells.proofs.Bools.{split, and_left, and_right}
use Rattle.cells.proofs.Lists.{same_true}
use Rattle.signs.specs.Class.{digit, belongs, all_of, of_class}
use Rattle.rules.specs.Number.{number}
use Rattle.rules.specs.Rule.{texts, keeps}
use Rattle.signs.specs.declared.Class.{Class}
use Rattle.signs.specs.declared.Class.TheVariants.{Digit}
use Rattle.rules.specs.declared.rule.Texts.TheVariants.{PartTax, Medium}
use Rattle.rules.specs.declared.rule.Rule.TheVariants.{Of, OneOf}
use Rattle.rules.proofs.Digits.{width}

-- so many bytes of a class
module _ (c : Class) (least most : ℕ) (s : List ℕ) (e : keeps (Of c least most) [] s ≡ true) where
  both : (within least most (length s) ≡ true) × (all_of c s ≡ true)
  unfolding keeps of_class
  both = (and_left (within least most (length s)) (all_of c s) e, and_right (within least most (length s)) (all_of c s) e)

  pub of_least : least ≤ length s
  of_least = leb-true least (length s) (and_left (leb least (length s)) (leb (length s) most) both.0)

  pub of_most : length s ≤ most
  of_most = leb-true (length s) most (and_right (leb least (length s)) (leb (length s) most) both.0)

  pub of_class_law : all_of c s ≡ true
  of_class_law = both.1

-- exactly so many
pub of_length : (c : Class) (n : ℕ) (s : List ℕ) → keeps (Of c n n) [] s ≡ true → length s ≡ n
of_length c n s e = omega (arith, of_least c n n s e, of_most c n n s e)

-- digits are all_of their class
pub of_digits : (least most : ℕ) (s : List ℕ) → keeps (Of Digit least most) [] s ≡ true → all digit s ≡ true
unfolding all_of belongs
of_digits least most s e = of_class_law Digit least most s e

-- and spell a number of no more digits
pub digits_small : (s : List ℕ) → all digit s ≡ true → number s < 10 ^ length s
digits_small s e = rw zero-add at (width 0 0 s (omega arith) e)

-- one of two or of three texts is one of them
pub one_of_two : (s a b : List ℕ) → among s (a ∷ b ∷ []) ≡ true → {X : Type 0} → (s ≡ a → X) → (s ≡ b → X) → X
unfolding among
one_of_two s a b e f g =
    split (same s a) (λ p. f (same_true s a p))
    (λ p. split (same s b) (λ q. g (same_true s b q)) (λ q. absurd (false≢true (rw (p, q) at e))))

-- a part's tax mark is one byte
pub tax_length : (s : List ℕ) → keeps (OneOf PartTax) [] s ≡ true → length s ≡ 1
unfolding keeps texts among
tax_length s e =
    split (same s (bytes "0")) (λ p. ap length (same_true s (bytes "0") p))
    (λ p. split (same s (bytes "1")) (λ q. ap length (same_true s (bytes "1") q))
    (λ q. split (same s (bytes "2")) (λ r. ap length (same_true s (bytes "2") r)) (λ r. absurd (false≢true (rw (p, q, r) at e)))))

-- a medium is one of two names
pub medium_either : (s : List ℕ) → keeps (OneOf Medium) [] s ≡ true → {X : Type 0} → (s ≡ bytes "PHY" → X) → (s ≡ bytes "DIG" → X) → X
unfolding keeps texts
medium_either s e f g = one_of_two s (bytes "PHY") (bytes "DIG") e f g
