-- A record is a bundle just where its fixed part is a bundle's.
use mathlib.Core.Path.{◌≡◌, ap}
use mathlib.Core.Bool.{Bool, true, false}
use mathlib.Core.List.{List, ◌++◌}
use Prim.Native.Nat.{ℕ, ◌+◌, ◌<◌}
use native.Mathlib.Omega.{arith}
use lib.Dec.{eqb}
use lib.ListN.{length, get_or-append}
use lib.Seq.{slice, take-append-le}
use Rattle.cells.specs.Bytes.{pick, bytes, same}
use Rattle.cells.proofs.Bools.{split}
use Rattle.cells.proofs.Lists.{same_true}
use Rattle.signs.specs.Class.{of_class}
use Rattle.rules.specs.Day.{day_width}
use Rattle.signs.specs.declared.Class.TheVariants.{Zero}
use Rattle.record.specs.Layout.{kind_width, date_start, layout, total, fixed_width, kind_of}
use Rattle.record.specs.declared.layout.Kind.{Kind}
use Rattle.record.specs.declared.layout.Kind.TheVariants.{Goods, Closing}
use Rattle.std.specs.Prelude.{Some}
use Rattle.roundtrip.proofs.Fronts.{date_inside}
use Rattle.parts.specs.Loops.{tax_place, bundle_mark, is_bundle}

module _ (k : Kind) (fixed : List ℕ) (g : kind_of fixed ≡ Some k) (w : length fixed ≡ fixed_width k) where
  -- a closing record's fixed part is as long as a goods record's
  either_wide : (b : Bool) → Some (pick b Closing Goods) ≡ Some k → tax_place < length fixed
  unfolding fixed_width layout total
  either_wide true e = let q : Closing ≡ k = cc in rw (w, ← q) (omega arith)
  either_wide false e = let q : Goods ≡ k = cc in rw (w, ← q) (omega arith)

  -- the fixed part of a delivery reaches its tax mark
  marked : same (slice 0 kind_width fixed) (bytes "L101") ≡ true → tax_place < length fixed
  unfolding kind_of same
  marked e =
      let named : slice 0 kind_width fixed ≡ bytes "L101" = same_true _ _ e in
      either_wide (of_class Zero day_width day_width (slice date_start (date_start + day_width) fixed)) (rw named at g)

  pub bundle_front : (rest : List ℕ) → is_bundle (fixed ++ rest) ≡ is_bundle fixed
  unfolding is_bundle
  bundle_front rest =
      let name : slice 0 kind_width (fixed ++ rest) ≡ slice 0 kind_width fixed = take-append-le kind_width fixed rest (omega (arith, w, date_inside k)) in
      split (same (slice 0 kind_width fixed) (bytes "L101"))
      (λ e. rw (name, e) (ap (λ (b : ℕ). eqb b bundle_mark) (get_or-append fixed rest 0 tax_place (marked e))))
      (λ e. rw (name, e))
