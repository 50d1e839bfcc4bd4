-- The values of a lent part where they stand, and the fields of lent parts: how many they are, and those of the next.
use mathlib.Core.Path.{◌≡◌, ◌∙◌, refl}
use mathlib.Core.List.{List, [], ◌∷◌, ◌++◌}
use Prim.Native.Nat.{ℕ, zero, suc, ◌+◌, ◌-◌, ◌*◌, ◌≤◌, ◌<◌}
use native.Mathlib.Omega.{arith}
use lib.ListN.{length, get_or, replicate, length-append}
use lib.Seq.{slice, take_all, take_at, length-slice}
use Rattle.writing.specs.Digits.{unwritable}
use Rattle.parts.specs.Loops.{loop, loop_fields}
use Rattle.parts.specs.Part.{article_width, price_width, part_width, length_at, article_at, article_qualifier_at, price_qualifier_at, currency_at, fitted, lent_price, lent_article, lent_part}
use Rattle.parts.specs.Fields.{article_text, part_texts, with_ids, part_fields, lent_loop, lent_fields}
use Rattle.parts.proofs.Fits.{fitted_whole}
use Rattle.parts.proofs.Texts.{article_written, article_broken}

-- bytes that stand there are as many as their room
pub stands : (room from to : ℕ) (s : List ℕ) → to ≤ length s → from + room ≡ to → fitted room (slice from to s) ≡ slice from to s
stands room from to s h e = fitted_whole room (slice from to s) (length-slice from to s h ∙ omega arith)

-- of a price
module _ (s : List ℕ) (at : ℕ) (h : at + price_width ≤ length s) where
  -- the qualifier
  pub qualifier_is : (lent_price s at).qualifier ≡ slice (at + price_qualifier_at) (at + currency_at) s
  unfolding lent_price
  qualifier_is = stands 2 (at + price_qualifier_at) (at + currency_at) s (omega arith) (omega arith)

  -- and the currency
  pub currency_is : (lent_price s at).currency ≡ slice (at + currency_at) (at + price_width) s
  unfolding lent_price
  currency_is = stands 3 (at + currency_at) (at + price_width) s (omega arith) (omega arith)

-- of a part
module _ (s : List ℕ) (at : ℕ) (h : at + part_width ≤ length s) where
  -- the article, where it is not too long
  pub article_stands : get_or s (at + length_at) 0 ≤ article_width
      → article_text (lent_article s at) ≡ slice (at + article_at) (at + article_at + get_or s (at + length_at) 0) s
  unfolding lent_article fitted
  article_stands l =
      let n = get_or s (at + length_at) 0 in
      let x = slice (at + article_at) (at + article_at + n) s in
      let k : length x ≡ n = length-slice (at + article_at) (at + article_at + n) s (omega arith) ∙ omega arith in
      article_written (lent_article s at) l
      ∙ rw (take_all article_width x (omega arith)) (take_at x (replicate (article_width - length x) 0) n k)

  pub article_too_long : article_width < get_or s (at + length_at) 0 → article_text (lent_article s at) ≡ 0 ∷ []
  unfolding lent_article unwritable
  article_too_long l = article_broken (lent_article s at) l

  -- and its qualifier
  pub article_qualifier_is : (lent_article s at).qualifier ≡ slice (at + article_qualifier_at) (at + part_width) s
  unfolding lent_article
  article_qualifier_is = stands 2 (at + article_qualifier_at) (at + part_width) s (omega arith) (omega arith)

-- a loop has ten fields
pub loop_length : (s : List ℕ) (at : ℕ) → length (lent_loop s at) ≡ loop_fields
unfolding lent_loop lent_part part_fields part_texts with_ids loop
loop_length s at = refl

-- and n lent parts have ten times as many
pub lent_long : (n : ℕ) (s : List ℕ) (at : ℕ) → length (lent_fields n s at) ≡ n * loop_fields
unfolding lent_fields
lent_long zero s at = refl
lent_long (suc n) s at = length-append (lent_loop s at) (lent_fields n s (at + part_width)) ∙ rw (loop_length s at, lent_long n s (at + part_width)) (omega arith)

-- the fields of the parts that are left: those of the next, and of the others
pub fields_next : (s : List ℕ) (n j : ℕ) → j < n
    → lent_fields (n - j) s (j * part_width) ≡ lent_loop s (j * part_width) ++ lent_fields (n - (j + 1)) s ((j + 1) * part_width)
unfolding lent_fields
fields_next s n j h =
    let e : n - j ≡ suc (n - (j + 1)) = omega arith in
    let k : j * part_width + part_width ≡ (j + 1) * part_width = omega arith in
    rw (e, k)

-- or none
pub fields_end : (s : List ℕ) (n j at : ℕ) → n ≤ j → lent_fields (n - j) s at ≡ []
unfolding lent_fields
fields_end s n j at h =
    let e : n - j ≡ 0 = omega arith in
    rw e
