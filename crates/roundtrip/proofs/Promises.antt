-- What the promises of writing give: two results that satisfy one are equal, and a refusal changes no lent output.
use mathlib.Core.Path.{◌≡◌, ◌∙◌, ap, sym, refl}
use mathlib.Core.List.{List}
use Prim.Native.Nat.{ℕ}
use Rattle.writing.specs.Write.{written_of, write_judged, Outcome, outcome, output_after, write}
use Rattle.writing.specs.Verdicts.{Verdict}
use Rattle.std.specs.Prelude.{Err, Ok}
use Rattle.writing.specs.declared.answer.Written.{Written}

-- `write` and the typed calls: the answer, place and length, and the output at exit, are fixed by what is lent
pub write_unique : (fixed table : List ℕ) (count : ℕ) (contents out : List ℕ) (said said' : Written) (exit exit' : List ℕ)
    → outcome said exit ≡ write fixed table count contents out
    → outcome said' exit' ≡ write fixed table count contents out
    → (said ≡ said') × (exit ≡ exit')
write_unique fixed table count contents out said said' exit exit' p q =
    let e = p ∙ sym q in
    (ap (λ (o : Outcome). o.said) e, ap (λ (o : Outcome). o.out) e)

-- a verdict that is not answered 0 leaves an output as it was
verdict_keeps : (v : Verdict) (text out : List ℕ) → ((written_of v).answer ≡ 0 → ⊥) → output_after v text out ≡ out
unfolding written_of output_after
verdict_keeps (Err r) text out h = refl
verdict_keeps (Ok n) text out h = absurd (h refl)

-- a writing that does not answer 0 leaves the lent output as it was
pub refusal_keeps : (fixed table : List ℕ) (count : ℕ) (contents out : List ℕ)
    → ((write fixed table count contents out).said.answer ≡ 0 → ⊥)
    → (write fixed table count contents out).out ≡ out
unfolding write
refusal_keeps fixed table count contents out h = verdict_keeps (write_judged fixed table count contents out) _ out h
