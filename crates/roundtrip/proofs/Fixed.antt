-- No field of a fixed part is faulty just where each keeps its rule and each byte is allowed.
use mathlib.Core.Path.{◌≡◌}
use mathlib.Core.List.{List, [], ◌∷◌}
use Prim.Native.Nat.{ℕ, ◌-◌, ◌≤◌}
use native.Mathlib.Omega.{arith}
use borrow.Author.Tests.{ltb-false}
use lib.Dec.{ltb}
use lib.ListN.{length}
use Rattle.cells.specs.Bytes.{run}
use Rattle.cells.proofs.Bools.{split}
use Rattle.signs.specs.Class.{belongs}
use Rattle.signs.specs.declared.Class.TheVariants.{Allowed}
use Rattle.signs.proofs.Runs.{run_most}
use Rattle.record.specs.Layout.{layout, total, fixed_width, first_broken}
use Rattle.record.specs.declared.layout.Field.{Field}
use Rattle.record.specs.declared.layout.Kind.{Kind}
use Rattle.record.proofs.Layouts.{broken_most}
use Rattle.writing.specs.Write.{field_holding, first_faulty}
use Rattle.writing.proofs.Holding.{held_none}

-- the field that holds a byte has no index past the last
holding_most : (fs : List Field) (p : ℕ) → field_holding fs p ≤ length fs
unfolding field_holding
holding_most [] p = omega arith
holding_most (f ∷ fs) p =
    let ih = holding_most fs (p - f.size) in
    split (ltb p f.size) (λ e. rw e (omega arith)) (λ e. rw e (omega arith))

-- a byte that no field holds stands past all of them
holding_none : (fs : List Field) (p : ℕ) → field_holding fs p ≡ length fs → total fs ≤ p
unfolding field_holding total
holding_none [] p e = omega arith
holding_none (f ∷ fs) p e =
    split (ltb p f.size) (λ h. let z = rw h at e in absurd (omega arith))
    (λ h.
    let z = rw h at e in
    let ih = holding_none fs (p - f.size) (omega arith) in
    let l = ltb-false p f.size h in
    omega arith)

module _ (k : Kind) (fixed : List ℕ) where
  -- no fixed field is faulty: each keeps its rule
  pub faultless_kept : first_faulty k fixed ≡ length (layout k) → first_broken (layout k) fixed ≡ length (layout k)
  unfolding first_faulty
  faultless_kept e = omega (arith, e, broken_most (layout k) fixed)

  -- none holds a byte that is not allowed
  faultless_held : first_faulty k fixed ≡ length (layout k) → field_holding (layout k) (run (belongs Allowed) fixed) ≡ length (layout k)
  unfolding first_faulty
  faultless_held e = omega (arith, e, holding_most (layout k) (run (belongs Allowed) fixed))

  module _ (w : length fixed ≡ fixed_width k) where
    -- so each byte is allowed
    pub faultless_allowed : first_faulty k fixed ≡ length (layout k) → run (belongs Allowed) fixed ≡ length fixed
    unfolding fixed_width
    faultless_allowed e =
        omega (arith, w, holding_none (layout k) (run (belongs Allowed) fixed) (faultless_held e), run_most (belongs Allowed) fixed)

    -- each keeps its rule and each byte is allowed: no fixed field is faulty
    pub faultless : first_broken (layout k) fixed ≡ length (layout k) → run (belongs Allowed) fixed ≡ length fixed → first_faulty k fixed ≡ length (layout k)
    unfolding first_faulty fixed_width
    faultless b a = omega (arith, b, held_none (layout k) (run (belongs Allowed) fixed) (omega (arith, w, a)))
