-- `packing::draft::Draft::put_judged` meets its contract: what is judged to fit is all that putting it asks for.
use mathlib.Core.Path.{◌∙◌, sym}
use native.Mathlib.Omega.{arith}
use Rattle.packing.proofs.Rest.{placed, with_stored}
use Rattle.writing.specs.Write.{output_after}
use Rattle.packing.proofs.draft.Draft.put_judged.Goals as goal

pub invariant_of-fields : goal.invariant_of-fields
invariant_of-fields c =
    let e = sym c.judge.ensures ∙ c.in_ok-length.was in
    let p = placed _ _ _ _ _ _ _ _ e c.args.self.looped in
    record { few = p.few; listed = p.tabled; inside = p.inside }

pub put_with-requires : goal.put_with-requires
put_with-requires c =
    let e = sym c.judge.ensures ∙ c.in_ok-length.was in
    let p = placed _ _ _ _ _ _ _ _ e c.args.self.looped in
    (p.narrow, p.faultless, omega (arith, p.wide, p.short), omega (arith, p.wide, p.there))

pub returns-clause-put : goal.returns-clause-put
unfolding output_after
returns-clause-put c =
    let e = sym c.judge.ensures ∙ c.in_ok-length.was in
    c.put_with.ensures ∙ with_stored _ _ _ _ _ _ _ _ e
