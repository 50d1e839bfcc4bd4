-- The fields of a fixed part keep their layout just where reading finds none broken in their bytes.
use mathlib.Core.Path.{◌≡◌, ◌∙◌, refl}
use mathlib.Core.Bool.{true, false≢true}
use mathlib.Core.List.{List, [], ◌∷◌, ◌++◌}
use Prim.Native.Nat.{ℕ, ◌+◌}
use native.Mathlib.Nat.{add-zero}
use native.Mathlib.Omega.{arith}
use borrow.Author.Tests.{eqb-true, eq-eqb}
use lib.Dec.{eqb}
use lib.ListN.{length, take, drop, length-append}
use lib.Seq.{slice, take_at, drop_at, take_all, drop-drop, length-slice}
use Rattle.cells.specs.Bytes.{joined}
use Rattle.cells.proofs.Bools.{and_left, and_right}
use Rattle.cells.proofs.Parts.{take_from, to_end}
use Rattle.rules.specs.Rule.{keeps}
use Rattle.record.specs.Layout.{layout, total, fixed_width, start_of, first_broken}
use Rattle.record.specs.declared.layout.Field.{Field}
use Rattle.record.specs.declared.layout.Kind.{Kind}
use Rattle.record.proofs.Kept.{each_kept}
use Rattle.roundtrip.specs.Record.{aside_width, fixed_kept}
use Rattle.roundtrip.proofs.FixedFields.{fields_from, fields_there, fields_joined}

-- of fields that keep a layout the first is as long as the layout's, keeps its rule, and the others keep the rest
module _ (f : Field) (fs : List Field) (p : List ℕ) (ps : List (List ℕ)) (e : fixed_kept (f ∷ fs) (p ∷ ps) ≡ true) where
  first_long : length p ≡ f.size
  unfolding fixed_kept
  first_long = eqb-true (length p) f.size (and_left (eqb (length p) f.size) _ e)

  first_kept : keeps f.rule (take aside_width (joined ps)) p ≡ true
  unfolding fixed_kept
  first_kept = and_left _ (fixed_kept fs ps) (and_right (eqb (length p) f.size) _ e)

  others_kept : fixed_kept fs ps ≡ true
  unfolding fixed_kept
  others_kept = and_right (keeps f.rule (take aside_width (joined ps)) p) (fixed_kept fs ps) (and_right (eqb (length p) f.size) _ e)

-- their bytes are as long as the layout
pub kept_length : (fs : List Field) (ps : List (List ℕ)) → fixed_kept fs ps ≡ true → length (joined ps) ≡ total fs
unfolding fixed_kept joined total
kept_length [] [] e = refl
kept_length [] (p ∷ ps) e = absurd (false≢true e)
kept_length (f ∷ fs) [] e = absurd (false≢true e)
kept_length (f ∷ fs) (p ∷ ps) e =
    omega (arith, length-append p (joined ps), first_long f fs p ps e, kept_length fs ps (others_kept f fs p ps e))

-- and none is broken in them
pub kept_whole : (fs : List Field) (ps : List (List ℕ)) → fixed_kept fs ps ≡ true → first_broken fs (joined ps) ≡ length fs
unfolding fixed_kept joined first_broken
kept_whole [] [] e = refl
kept_whole [] (p ∷ ps) e = absurd (false≢true e)
kept_whole (f ∷ fs) [] e = absurd (false≢true e)
kept_whole (f ∷ fs) (p ∷ ps) e =
    let l = first_long f fs p ps e in
    rw (
      ← take_from aside_width f.size (p ++ joined ps),
      take_at p (joined ps) f.size l,
      drop_at p (joined ps) f.size l,
      first_kept f fs p ps e,
      kept_whole fs ps (others_kept f fs p ps e),
    )

-- where none is broken in the bytes from a place to the end, the fields that stand there keep the layout
whole_kept : (fs : List Field) (at : ℕ) (s : List ℕ) → at + total fs ≡ length s → first_broken fs (drop at s) ≡ length fs
    → fixed_kept fs (fields_from fs at s) ≡ true
unfolding fixed_kept fields_from first_broken total start_of
whole_kept [] at s l e = refl
whole_kept (f ∷ fs) at s l e =
    let here : keeps f.rule (slice f.size (f.size + aside_width) (drop at s)) (take f.size (drop at s)) ≡ true = rw (add-zero f.size) at (each_kept (f ∷ fs) (drop at s) 0 e) in
    let later : first_broken fs (drop f.size (drop at s)) ≡ length fs = omega (arith, rw here at e) in
    let long : length (slice at (at + f.size) s) ≡ f.size = length-slice at (at + f.size) s (omega arith) ∙ omega arith in
    let so = rw (← take_from aside_width f.size (drop at s), drop-drop f.size at s, take_from f.size at s) at here in
    rw (
      eq-eqb (length (slice at (at + f.size) s)) f.size long,
      fields_there fs (at + f.size) s,
      to_end (at + f.size) (at + f.size + total fs) s (omega arith),
      so,
    )
    (whole_kept fs (at + f.size) s (omega arith) (rw (drop-drop f.size at s) at later))

-- a fixed part as long as its kind's, taken apart into its fields
module _ (k : Kind) (fixed : List ℕ) (w : length fixed ≡ fixed_width k) where
  -- these are, one after the other, the fixed part
  pub fields_whole : joined (fields_from (layout k) 0 fixed) ≡ fixed
  unfolding fixed_width
  fields_whole = fields_joined (layout k) fixed ∙ take_all (total (layout k)) fixed (omega arith)

  -- and keep the layout, where none is broken
  pub fields_kept_law : first_broken (layout k) fixed ≡ length (layout k) → fixed_kept (layout k) (fields_from (layout k) 0 fixed) ≡ true
  unfolding fixed_width
  fields_kept_law e = whole_kept (layout k) 0 fixed (omega arith) e
