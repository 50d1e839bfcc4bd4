-- What fields say that can all be written.
use mathlib.Core.Path.{◌≡◌, ◌∙◌, ap, refl}
use mathlib.Core.Bool.{Bool, true, false, false≢true}
use mathlib.Core.List.{List, [], ◌∷◌, ◌++◌}
use Prim.Native.Nat.{ℕ, zero, suc, ◌+◌, ◌^◌, ◌≤◌}
use native.Mathlib.Nat.{zero-add}
use native.Mathlib.Omega.{arith}
use borrow.Author.Tests.{leb-true}
use lib.Dec.{leb, ltb}
use lib.ListN.{length}
use Rattle.cells.specs.Bytes.{all}
use Rattle.cells.proofs.Bools.{split}
use Rattle.record.specs.Fields.{Optional}
use Rattle.writing.specs.Digits.{digits_of, unwritable, number_bytes}
use Rattle.parts.specs.Part.{most_digits}
use Rattle.parts.specs.Fields.{amount_text, medium_text}
use Rattle.parts.specs.declared.part.Medium.{Medium}
use Rattle.parts.specs.declared.part.PartPrice.{PartPrice}
use Rattle.lent_parts.specs.Faults.{is_kept, first_fault}

-- each of the fields can be written
abbrev pub AllKept : List Optional → Type 0
AllKept [] = Unit
AllKept (f ∷ fs) = (is_kept f.id f.content ≡ true) × AllKept fs

-- where there is no first that cannot, it is so
pub all_kept : (fs : List Optional) → first_fault fs ≡ length fs → AllKept fs
unfolding first_fault
all_kept [] e = tt
all_kept (f ∷ fs) e =
    split (is_kept f.id f.content) (λ t. (t, all_kept fs (omega (arith, rw t at e)))) (λ t. absurd (omega (arith, rw t at e)))

-- where there is none among fields and others, there is none among either
pub faults_parted : (fs gs : List Optional) → first_fault (fs ++ gs) ≡ length fs + length gs → (first_fault fs ≡ length fs) × (first_fault gs ≡ length gs)
unfolding first_fault
faults_parted [] gs e = (refl, e ∙ zero-add (length gs))
faults_parted (f ∷ fs) gs e =
    split (is_kept f.id f.content)
    (λ t. let r = faults_parted fs gs (omega (arith, rw t at e)) in (rw t (ap suc r.0), r.1))
    (λ t. absurd (omega (arith, rw t at e)))

-- bytes that stand for no value cannot be written
broken : (id w : ℕ) → is_kept id (unwritable (suc w)) ≡ true → ⊥
unfolding is_kept unwritable all
broken id w e = false≢true e

-- a number that can be written is its digits
number_kept : (id w n : ℕ) → is_kept id (number_bytes w n) ≡ true → number_bytes w n ≡ digits_of w n
unfolding number_bytes unwritable digits_of
number_kept id zero n e = split (ltb n (10 ^ 0)) (λ t. rw t) (λ t. rw t)
number_kept id (suc w) n e = split (ltb n (10 ^ suc w)) (λ t. rw t) (λ t. absurd (broken id w (rw t at e)))

-- an amount that can be written has no more digits than the most, and is them
module _ (id : ℕ) (p : PartPrice) (e : is_kept id (amount_text p) ≡ true) where
  few : leb p.digits most_digits ≡ true
  unfolding amount_text
  few = split (leb p.digits most_digits) (λ t. t) (λ t. absurd (broken id 0 (rw t at e)))

  pub amount_most : p.digits ≤ most_digits
  amount_most = leb-true p.digits most_digits few

  pub amount_kept : amount_text p ≡ digits_of p.digits p.amount.0
  unfolding amount_text
  amount_kept = rw few (number_kept id p.digits p.amount.0 (rw few at e))

-- a medium that can be written is named
pub medium_kept : (id : ℕ) (named : Bool) (m : Medium) → is_kept id (medium_text named m) ≡ true → named ≡ true
unfolding medium_text
medium_kept id true m e = refl
medium_kept id false m e = absurd (broken id 2 e)
