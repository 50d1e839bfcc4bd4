-- What a record that fits is known to be: of a kind, and long enough for its fixed part.
use mathlib.Core.Path.{◌≡◌, ◌∙◌, ap, sym, refl}
use mathlib.Core.Bool.{Bool, true, false}
use mathlib.Core.List.{List}
use Prim.Native.Nat.{ℕ, ◌+◌, ◌≤◌}
use native.Mathlib.Omega.{arith}
use borrow.Author.Tests.{ltb-true, ltb-false, le-ltb, eqb-true}
use lib.Dec.{ltb}
use lib.ListN.{length, drop}
use lib.Seq.{slice}
use Rattle.cells.specs.Bytes.{pick, bytes, run, same}
use Rattle.cells.proofs.Bools.{split}
use Rattle.cells.proofs.Lists.{same_true}
use Rattle.signs.specs.Class.{belongs, of_class}
use Rattle.rules.specs.Day.{day_width}
use Rattle.signs.specs.declared.Class.TheVariants.{Allowed, Zero}
use Rattle.record.specs.Layout.{most_bytes, most_fields, date_start, layout, total, fixed_width, kind_of, first_broken}
use Rattle.record.specs.Answers.{◌then◌}
use Rattle.record.specs.Fields.{head_width, walk, judge}
use Rattle.record.specs.Read.{bytes_judged, fixed_judged, after_walk, optional_judged, kind_judged, judged, judged_as, optional_start}
use Rattle.record.specs.declared.answer.Refusal.{Refusal}
use Rattle.record.specs.Verdicts.{Verdict}
use Rattle.std.specs.Prelude.{Err, None, Ok, Option, Some}
use Rattle.record.specs.declared.layout.Kind.{Kind}
use Rattle.record.specs.declared.layout.Kind.TheVariants.{Order, Goods, Closing, Report}
use Rattle.std.proofs.lemmas.Bool.Decides.{nat_tests}
use Rattle.walks.proofs.Walked.{walk_count}
use Rattle.reader.proofs.Stages.{kind_short, too_long, by_kind, as_long, as_other, as_named}

-- a record that fits is not too long
pub fits_long : (s : List ℕ) (n : ℕ) → judged s ≡ Ok n → length s ≤ most_bytes
fits_long s n e =
    split (ltb most_bytes (length s))
    (λ h. let z : ◌≡◌ {A = ℕ} 0 1 = cc (too_long s (ltb-true _ _ h)) in absurd (omega arith))
    (λ h. ltb-false _ _ h)

-- a record that fits as a kind has its fixed part and five bytes more
kind_fits : (k : Kind) (s : List ℕ) (n : ℕ) → kind_judged (Some k) s ≡ Ok n → fixed_width k + head_width ≤ length s
kind_fits k s n e =
    split (ltb (length s) (fixed_width k + head_width))
    (λ h. let z : ◌≡◌ {A = ℕ} 0 1 = cc (kind_short k s (ltb-true _ _ h)) in absurd (omega arith))
    (λ h. ltb-false _ _ h)

pub fits_wide : (k : Kind) (s : List ℕ) (n : ℕ) → kind_of s ≡ Some k → judged s ≡ Ok n → fixed_width k + head_width ≤ length s
fits_wide k s n g e =
    kind_fits k s n (ap (λ (j : Option Kind). kind_judged j s) (sym g) ∙ sym (by_kind s (fits_long s n e)) ∙ e)

-- a verdict that fits after a stage: the stage fits too, and so does the rest
then_first : (a b : Verdict) (n : ℕ) → (a then b) ≡ Ok n → (m : ℕ) × (a ≡ Ok m)
unfolding ◌then◌
then_first (Err r) b n e = let z : ◌≡◌ {A = ℕ} 0 1 = cc in absurd (omega arith)
then_first (Ok m) b n e = (m, refl)

then_second : (a b : Verdict) (n : ℕ) → (a then b) ≡ Ok n → b ≡ Ok n
unfolding ◌then◌
then_second (Err r) b n e = let z : ◌≡◌ {A = ℕ} 0 1 = cc in absurd (omega arith)
then_second (Ok m) b n e = e

-- a test that is passed, and what comes after it
pub passed : (b : Bool) (v : Verdict) (r : Refusal) (n : ℕ) → pick b v (Err r) ≡ Ok n → (b ≡ true) × (v ≡ Ok n)
passed true v r n e = (refl, e)
passed false v r n e = let z : ◌≡◌ {A = ℕ} 0 1 = cc in absurd (omega arith)

-- what the two walks say of optional fields that fit
optional_walk : (k : Kind) (p : ℕ) (t : List ℕ) (v : Verdict) (n : ℕ) → after_walk k p t v ≡ Ok n
    → (v ≡ Ok n) × ((m : ℕ) × (judge k n None p t ≡ Ok m))
unfolding after_walk
optional_walk k p t (Err r) n e = let z : ◌≡◌ {A = ℕ} 0 1 = cc in absurd (omega arith)
optional_walk k p t (Ok c) n e =
    let q : Ok c ≡ Ok n = then_second (judge k c None p t) (Ok c) n e in
    let d : c ≡ n = cc in
    let j = then_first (judge k c None p t) (Ok c) n e in
    (q, (j.0, ap (λ (m : ℕ). judge k m None p t) (sym d) ∙ j.1))

-- all that is known of a record of a kind that fits with n optional fields
pub record Fitting (k : Kind) (s : List ℕ) (n : ℕ) : Type 0 where
  pub wide : fixed_width k + head_width ≤ length s
  pub allowed : run (belongs Allowed) s ≡ length s
  pub kept : first_broken (layout k) s ≡ length (layout k)
  pub walked : walk most_fields 0 (fixed_width k) (drop (fixed_width k) s) ≡ Ok n
  pub whole : (m : ℕ) × (judge k n None (fixed_width k) (drop (fixed_width k) s) ≡ Ok m)

pub fitting : (k : Kind) (s : List ℕ) (n : ℕ) → kind_of s ≡ Some k → judged s ≡ Ok n → Fitting k s n
unfolding kind_judged bytes_judged fixed_judged optional_judged
fitting k s n g e =
    let w = fits_wide k s n g e in
    let f : kind_judged (Some k) s ≡ Ok n = ap (λ (j : Option Kind). kind_judged j s) (sym g) ∙ sym (by_kind s (fits_long s n e)) ∙ e in
    let all = rw (le-ltb (length s) (fixed_width k + head_width) w) at f in
    let one = then_first (bytes_judged s) _ n all in
    let rest = then_second (bytes_judged s) _ n all in
    let two = then_first (fixed_judged k s) _ n rest in
    let last = optional_walk k (fixed_width k) (drop (fixed_width k) s) _ n (then_second (fixed_judged k s) _ n rest) in
    record {
      wide = w;
      allowed = eqb-true _ _ (passed _ _ _ _ one.1).0;
      kept = eqb-true _ _ (passed _ _ _ _ two.1).0;
      walked = last.0;
      whole = last.1;
    }

-- its optional part starts within it
pub fits_start : (s : List ℕ) (n : ℕ) → judged s ≡ Ok n → optional_start (kind_of s) ≤ length s
unfolding optional_start
fits_start s n e = go (kind_of s) refl
  where
    go : (j : Option Kind) → kind_of s ≡ j → optional_start j ≤ length s
    go (Some k) g = omega (arith, fits_wide k s n g e)
    go None g = omega arith

-- a record that fits as one wanted kind fits, and begins with the kind's name
module _ (name s : List ℕ) (n : ℕ) (e : judged_as name s ≡ Ok n) where
  as_long_enough : length s ≤ most_bytes
  as_long_enough =
      split (ltb most_bytes (length s))
      (λ h. let z : ◌≡◌ {A = ℕ} 0 1 = cc (as_long name s (ltb-true _ _ h)) in absurd (omega arith))
      (λ h. ltb-false _ _ h)

  named_so : same (slice 0 4 s) name ≡ true
  named_so =
      split (same (slice 0 4 s) name) (λ h. h)
      (λ h. let z : ◌≡◌ {A = ℕ} 0 1 = cc (as_other name s as_long_enough h) in absurd (omega arith))

  pub name_of : slice 0 4 s ≡ name
  name_of = same_true _ _ named_so

  pub fits_as : judged s ≡ Ok n
  fits_as = sym (as_named name s as_long_enough named_so) ∙ e

-- a record that fits as the kind with a name has that kind's fixed part
module _ (s : List ℕ) (n : ℕ) where
  pub order_wide : judged_as (bytes "B101") s ≡ Ok n → fixed_width Order ≤ length s
  unfolding kind_of same
  order_wide e =
      omega (arith, fits_wide Order s n (rw (name_of (bytes "B101") s n e)) (fits_as (bytes "B101") s n e))

  pub report_wide : judged_as (bytes "M101") s ≡ Ok n → fixed_width Report ≤ length s
  unfolding kind_of same
  report_wide e =
      omega (arith, fits_wide Report s n (rw (name_of (bytes "M101") s n e)) (fits_as (bytes "M101") s n e))

  -- a closing record's fixed part is as long as a goods record's
  either_wide : (b : Bool) → kind_of s ≡ Some (pick b Closing Goods) → judged s ≡ Ok n → fixed_width Goods ≤ length s
  unfolding fixed_width layout total
  either_wide true g e = omega (arith, fits_wide Closing s n g e)
  either_wide false g e = omega (arith, fits_wide Goods s n g e)

  pub delivery_wide : judged_as (bytes "L101") s ≡ Ok n → fixed_width Goods ≤ length s
  unfolding kind_of same
  delivery_wide e =
      either_wide (of_class Zero day_width day_width (slice date_start (date_start + day_width) s)) (rw (name_of (bytes "L101") s n e))
      (fits_as (bytes "L101") s n e)

-- a record that fits is of some kind
pub fits_known : (s : List ℕ) (n : ℕ) → judged s ≡ Ok n → (k : Kind) × (kind_of s ≡ Some k)
unfolding kind_judged
fits_known s n e = go (kind_of s) refl
  where
    go : (j : Option Kind) → kind_of s ≡ j → (k : Kind) × (kind_of s ≡ Some k)
    go (Some k) g = (k, g)
    go None g =
        let f : kind_judged None s ≡ Ok n = ap (λ (j : Option Kind). kind_judged j s) (sym g) ∙ sym (by_kind s (fits_long s n e)) ∙ e in
        let z : ◌≡◌ {A = ℕ} 0 1 = cc in absurd (omega arith)

-- and has no more optional fields than may stand
pub fits_count : (s : List ℕ) (n : ℕ) → judged s ≡ Ok n → n ≤ most_fields
fits_count s n e =
    let k = fits_known s n e in
    walk_count most_fields 0 _ _ n (fitting k.0 s n k.1 e).walked

pub ruleset fits = (fits_start, fits_count, nat_tests)
