-- The fields before the loops, and the loops: how they are told apart, and what is judged of them.
use mathlib.Core.Path.{◌≡◌, ap, sym, refl}
use mathlib.Core.Bool.{Bool, true, false, ◌&&◌, false≢true}
use mathlib.Core.List.{List, [], ◌∷◌, ◌++◌}
use Prim.Native.Nat.{ℕ, zero, suc, ◌+◌, ◌*◌, ◌/◌, ◌%◌, ◌≤◌}
use native.Mathlib.Omega.{arith}
use borrow.Author.Tests.{eqb-true, ne_eqb, le-ltb, ltb-false}
use lib.Dec.{eqb, ltb}
use lib.ListN.{length, take, drop}
use Rattle.cells.specs.Bytes.{pick}
use Rattle.cells.proofs.Bools.{split, and_left, and_right}
use Rattle.record.specs.Fields.{Optional}
use Rattle.rules.specs.Rule.{keeps}
use Rattle.rules.specs.declared.rule.Rule.TheVariants.{Free}
use Rattle.parts.specs.Loops.{part_id, loop, loop_fields, most_parts, is_member, is_loop, are_loops, others_in, loop_count, whole_loops}
use Rattle.parts.specs.Read.{loops_judged}
use Rattle.parts.specs.declared.answer.Refusal.{Refusal}
use Rattle.parts.specs.declared.answer.Refusal.TheVariants.{Broken, TooMany}
use Rattle.parts.specs.Verdicts.{Verdict}
use Rattle.std.specs.Prelude.{Err, Ok}

-- no more fields stand before the loops than there are
pub others_most : (fs : List Optional) → others_in fs ≤ length fs
unfolding others_in
others_most [] = omega arith
others_most (f ∷ fs) = split (eqb f.id part_id) (λ e. rw e (omega arith)) (λ e. rw e (omega (arith, others_most fs)))

-- the fields before the loops are none of a loop
pub others_front : (fs : List Optional) → others_in (take (others_in fs) fs) ≡ others_in fs
unfolding others_in
others_front [] = refl
others_front (f ∷ fs) =
    let ih = others_front fs in
    split (eqb f.id part_id) (λ e. rw e) (λ e. rw (e, e) (ap suc ih))

-- fields of which none begins a loop, with others behind them
pub others_append : (xs ys : List Optional) → others_in xs ≡ length xs → others_in (xs ++ ys) ≡ length xs + others_in ys
unfolding others_in
others_append [] ys e = omega arith
others_append (f ∷ xs) ys e =
    split (eqb f.id part_id)
    (λ p. let q = rw p at e in absurd (omega (arith, q)))
    (λ p. let q : suc (others_in xs) ≡ suc (length xs) = rw p at e in rw p (omega (arith, others_append xs ys (omega (arith, q)))))

-- loops begin with the first field
pub loops_first : (n : ℕ) (fs : List Optional) → 1 ≤ n → are_loops n fs ≡ true → others_in fs ≡ 0
unfolding are_loops is_loop is_member loop others_in
loops_first zero fs h e = absurd (omega arith)
loops_first (suc n) [] h e = absurd (false≢true e)
loops_first (suc n) (f ∷ fs) h e =
    let looped = and_left (is_loop loop (take loop_fields (f ∷ fs))) (are_loops n (drop loop_fields (f ∷ fs))) e in
    let first = and_left (eqb f.id part_id && keeps Free [] f.content) _ looped in
    rw (and_left (eqb f.id part_id) (keeps Free [] f.content) first)

-- n whole loops, at least one and at most eight, are judged as n
pub loops_fit : (n : ℕ) (fs : List Optional) → 1 ≤ n → n ≤ most_parts → length fs ≡ n * loop_fields → are_loops n fs ≡ true → loops_judged fs ≡ Ok n
unfolding loops_judged whole_loops
loops_fit n fs some few l e =
    let c : length fs / loop_fields ≡ n = omega (arith, l) in
    let r : length fs % loop_fields ≡ 0 = omega (arith, l) in
    let z : length fs ≡ 0 → ⊥ = λ q. omega (arith, l, q) in
    rw (ne_eqb (length fs) 0 z, c, r, e, le-ltb most_parts n few)

-- and what is judged as n is that
pub record Loops (n : ℕ) (fs : List Optional) : Type 0 where
  pub some : 1 ≤ n
  pub few : n ≤ most_parts
  pub long : length fs ≡ n * loop_fields
  pub are : are_loops n fs ≡ true

-- a test that refuses where it holds, or where it does not, and does not refuse
refuses_true : (b : Bool) (r : Refusal) (v : Verdict) (n : ℕ) → pick b (Err r) v ≡ Ok n → (b ≡ false) × (v ≡ Ok n)
refuses_true true r v n e = let z : ◌≡◌ {A = ℕ} 0 1 = cc in absurd (omega arith)
refuses_true false r v n e = (refl, e)

refuses_false : (b : Bool) (v : Verdict) (r : Refusal) (n : ℕ) → pick b v (Err r) ≡ Ok n → (b ≡ true) × (v ≡ Ok n)
refuses_false true v r n e = (refl, e)
refuses_false false v r n e = let z : ◌≡◌ {A = ℕ} 0 1 = cc in absurd (omega arith)

-- a number that is not 0 is at least 1
pub not_zero : (n : ℕ) → eqb n 0 ≡ false → 1 ≤ n
not_zero zero e = absurd (false≢true (sym e))
not_zero (suc n) e = omega arith

pub fit_loops : (n : ℕ) (fs : List Optional) → loops_judged fs ≡ Ok n → Loops n fs
unfolding loops_judged whole_loops
fit_loops n fs e =
    let a = refuses_true (eqb (length fs) 0) Broken _ n e in
    let b = refuses_false (eqb (length fs % loop_fields) 0 && are_loops (loop_count fs) fs) _ Broken n a.1 in
    let c = refuses_true (ltb most_parts (loop_count fs)) TooMany _ n b.1 in
    let q : Ok (loop_count fs) ≡ Ok n = c.1 in
    let k : loop_count fs ≡ n = cc in
    let r = eqb-true (length fs % loop_fields) 0 (and_left (eqb (length fs % loop_fields) 0) _ b.0) in
    let z = not_zero (length fs) a.0 in
    record {
      some = omega (arith, k, r, z);
      few = omega (arith, k, ltb-false most_parts (loop_count fs) c.0);
      long = omega (arith, k, r);
      are = rw (← k) (and_right (eqb (length fs % loop_fields) 0) (are_loops (loop_count fs) fs) b.0);
    }
