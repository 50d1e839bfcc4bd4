-- The walk that gives 6 to 8, at a field: one law for each outcome, whatever room is left.
use mathlib.Core.Path.{◌≡◌, ◌∙◌, refl}
use mathlib.Core.Bool.{Bool, true, false}
use mathlib.Core.List.{List}
use mathlib.Core.Logic.{◌⊎◌, inl, inr, ⊎_elim}
use Prim.Native.Nat.{ℕ, zero, suc, ◌+◌, ◌-◌, ◌≤◌, ◌<◌}
use native.Mathlib.Omega.{arith}
use borrow.Author.Tests.{ne_eqb}
use lib.Dec.{eqb}
use lib.ListN.{length, drop, length-drop}
use Rattle.cells.specs.Bytes.{pick}
use Rattle.record.specs.Layout.{most_fields}
use Rattle.record.specs.Fields.{head_of, field_width, after_field, on_head, at_field, walk}
use Rattle.record.specs.declared.answer.Refusal.TheVariants.{NoField, LastField, TooManyFields}
use Rattle.record.specs.Verdicts.{Verdict}
use Rattle.std.specs.Prelude.{Err, None, Ok, Option, Some}
use Rattle.std.proofs.lemmas.Bool.Decides.{nat_tests}
use Rattle.walks.proofs.Contents.{end_of, end_on, end_star, end_none, field_end, field_after}

-- what the fields from this one on say, where it is not the last
unfoldable pub more : ℕ → ℕ → ℕ → List ℕ → Verdict
more zero n p t = Err (TooManyFields p)
more (suc room) n p t = walk room (n + 1) (p + field_width t) (after_field t)

-- whatever room is left, the walk asks first what stands at its place
at_first : (room n p : ℕ) (t : List ℕ) → walk room n p t ≡ at_field n p t (more room n p t)
unfolding walk more
at_first zero n p t = refl
at_first (suc room) n p t = refl

-- what is said where a field should start, by what stands there
pub at_none : (n p : ℕ) (t : List ℕ) (x : Verdict) → at_field n p t x ≡ pick (eqb (length t) 0) (Err (LastField p)) (on_head (head_of t) n p t x)
unfolding at_field
at_none n p t x = refl

pub head_none : (n p : ℕ) (t : List ℕ) (x : Verdict) → on_head None n p t x ≡ Err (NoField p)
unfolding on_head
head_none n p t x = refl

pub head_some : (id n p : ℕ) (t : List ℕ) (x : Verdict)
    → on_head (Some id) n p t x ≡ pick (eqb id 9999) (pick (eqb (length t) 5) (Ok n) (Err (LastField p))) x
unfolding on_head
head_some id n p t x = refl

-- the walk at a place of the record, with n fields passed
module _ (s : List ℕ) (at n : ℕ) where
  -- nothing is left of the record
  pub walk_end : length s ≤ at → walk (most_fields - n) n at (drop at s) ≡ Err (LastField at)
  unfolding at_field
  walk_end h =
      let e : length (drop at s) ≡ 0 = length-drop at s ∙ omega arith in
      at_first (most_fields - n) n at (drop at s) ∙ rw e

  -- something is left of the record: the head there decides
  pub walk_head : at < length s → walk (most_fields - n) n at (drop at s) ≡ on_head (head_of (drop at s)) n at (drop at s) (more (most_fields - n) n at (drop at s))
  unfolding at_field
  walk_head h =
      at_first (most_fields - n) n at (drop at s) ∙ rw (ne_eqb (length (drop at s)) 0 (λ q. omega (arith, length-drop at s)))

  -- as many fields as may stand were passed
  pub more_full : most_fields ≤ n → more (most_fields - n) n at (drop at s) ≡ Err (TooManyFields at)
  unfolding more
  more_full h =
      let z : most_fields - n ≡ 0 = omega arith in
      rw z

  -- one more may stand: it is passed
  pub more_next : n < most_fields
      → more (most_fields - n) n at (drop at s) ≡ walk (most_fields - (n + 1)) (n + 1) (end_of s (at + 5)) (drop (end_of s (at + 5)) s)
  unfolding more
  more_next l =
      let z : most_fields - n ≡ suc (most_fields - (n + 1)) = omega arith in
      rw z (rw (field_end s at, field_after s at))

-- the walk, one field at a time
pub ruleset walked = (walk_end, walk_head, head_none, head_some, more_full, more_next, length-drop, end_on, end_star, end_none, nat_tests)

-- of two verdicts one fits
pick_fits : (b : Bool) (x y : Verdict) {m : ℕ} → pick b x y ≡ Ok m → (x ≡ Ok m) ⊎ (y ≡ Ok m)
pick_fits true x y e = inl e
pick_fits false x y e = inr e

-- where a field fits, the fields before it are all, or those from it on fit
head_fits : (d : Option ℕ) (n p : ℕ) (t : List ℕ) (x : Verdict) {m : ℕ} → on_head d n p t x ≡ Ok m → (n ≡ m) ⊎ (x ≡ Ok m)
unfolding on_head
head_fits None n p t x e = inl (cc)
head_fits (Some id) n p t x {m} e =
    ⊎_elim (λ l. inl (⊎_elim (λ q. let z : n ≡ m = cc in z) (λ q. let z : n ≡ m = cc in z) (pick_fits (eqb (length t) 5) (Ok n) (Err (LastField p)) l)))
    (λ k. inr k) (pick_fits (eqb id 9999) (pick (eqb (length t) 5) (Ok n) (Err (LastField p))) x e)

field_fits : (n p : ℕ) (t : List ℕ) (x : Verdict) {m : ℕ} → at_field n p t x ≡ Ok m → (n ≡ m) ⊎ (x ≡ Ok m)
unfolding at_field
field_fits n p t x {m} e =
    ⊎_elim (λ l. let z : n ≡ m = cc in inl z) (head_fits (head_of t) n p t x)
    (pick_fits (eqb (length t) 0) (Err (LastField p)) (on_head (head_of t) n p t x) e)

-- a walk that fits has counted no more fields than had room
pub walk_count : (room n p : ℕ) (t : List ℕ) (m : ℕ) → walk room n p t ≡ Ok m → m ≤ n + room
unfolding walk
walk_count zero n p t m e =
    ⊎_elim (λ q. omega arith) (λ q. let z : ◌≡◌ {A = ℕ} 0 1 = cc in absurd (omega arith)) (field_fits n p t (Err (TooManyFields p)) e)
walk_count (suc room) n p t m e =
    ⊎_elim (λ q. omega arith) (λ k. omega (arith, walk_count room (n + 1) (p + field_width t) (after_field t) m k))
    (field_fits n p t (walk room (n + 1) (p + field_width t) (after_field t)) e)
