-- The contents that a part's values become, and how long they are.
use mathlib.Core.Path.{◌≡◌, refl}
use mathlib.Core.Bool.{Bool, true, false}
use Prim.Native.Nat.{◌≤◌, ◌<◌}
use native.Mathlib.Omega.{arith}
use borrow.Author.Tests.{le-leb, lt-leb, leb-true}
use lib.Dec.{leb}
use lib.ListN.{length, take, length-take}
use Rattle.cells.proofs.Bools.{split}
use Rattle.writing.specs.Digits.{unwritable, number_bytes}
use Rattle.writing.proofs.Decimals.{number_length, unwritable_length}
use Rattle.parts.specs.Part.{most_digits, article_width}
use Rattle.parts.specs.Fields.{amount_text, article_text, medium_text}
use Rattle.parts.specs.declared.part.Medium.{Medium}
use Rattle.parts.specs.declared.part.Medium.TheVariants.{Physical, Digital}
use Rattle.parts.specs.declared.part.PartPrice.{PartPrice}
use Rattle.parts.specs.declared.part.PartArticle.{PartArticle}

-- an amount has its digits, or is unwritable where they are too many
module _ (p : PartPrice) where
  pub amount_written : p.digits ≤ most_digits → amount_text p ≡ number_bytes p.digits p.amount.0
  unfolding amount_text
  amount_written h = rw (le-leb p.digits most_digits h)

  pub amount_broken : most_digits < p.digits → amount_text p ≡ unwritable 1
  unfolding amount_text
  amount_broken h = rw (lt-leb p.digits most_digits h)

  -- as long as it has digits, or one byte
  pub amount_digits : p.digits ≤ most_digits → length (amount_text p) ≡ p.digits
  amount_digits h = rw (amount_written h) (number_length p.digits p.amount.0)

  pub amount_one : most_digits < p.digits → length (amount_text p) ≡ 1
  amount_one h = rw (amount_broken h) (unwritable_length 1)

  -- and has room among the most
  pub amount_fits : length (amount_text p) ≤ most_digits
  unfolding amount_text
  amount_fits =
      split (leb p.digits most_digits)
      (λ e. rw (e, number_length p.digits p.amount.0) (leb-true _ _ e))
      (λ e. rw (e, unwritable_length 1) (omega arith))

pub ruleset amount_long = (amount_digits, amount_one)

-- an article has its bytes, or is unwritable where they are too many
module _ (a : PartArticle) where
  pub article_written : a.length ≤ article_width → article_text a ≡ take a.length a.bytes
  unfolding article_text
  article_written h = rw (le-leb a.length article_width h)

  pub article_broken : article_width < a.length → article_text a ≡ unwritable 1
  unfolding article_text
  article_broken h = rw (lt-leb a.length article_width h)

  -- and has room among the most
  pub article_fits : length (article_text a) ≤ article_width
  unfolding article_text
  article_fits =
      split (leb a.length article_width)
      (λ e. rw (e, length-take a.length a.bytes) (omega (arith, leb-true a.length article_width e)))
      (λ e. rw (e, unwritable_length 1) (omega arith))

-- a medium has three bytes
pub medium_length : (named : Bool) (m : Medium) → length (medium_text named m) ≡ 3
unfolding medium_text unwritable
medium_length true Physical = refl
medium_length true Digital = refl
medium_length false m = refl
