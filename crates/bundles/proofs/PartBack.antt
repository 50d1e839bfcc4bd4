-- A part is read back from its fields.
use mathlib.Core.Path.{◌≡◌, ◌∙◌, ap, refl}
use mathlib.Core.Bool.{Bool, true, false}
use mathlib.Core.List.{List, []}
use Prim.Native.Nat.{ℕ, ◌+◌, ◌-◌, ◌≤◌, ◌<◌}
use native.Mathlib.Omega.{arith}
use borrow.Author.Tests.{leb-true}
use lib.Dec.{leb}
use lib.ListN.{length, take, get_or, replicate}
use lib.Seq.{slice, take_all, take_at, length-slice, length-take-le}
use Rattle.cells.specs.Bytes.{same, among}
use Rattle.cells.proofs.Bools.{split}
use Rattle.rules.specs.Number.{number}
use Rattle.rules.specs.Rule.{texts, keeps}
use Rattle.rules.specs.Values.{price_of}
use Rattle.signs.specs.declared.Class.TheVariants.{Digit}
use Rattle.rules.specs.declared.rule.Rule.TheVariants.{Of, OneOf}
use Rattle.rules.specs.declared.rule.Texts.TheVariants.{Medium as medium}
use Rattle.record.specs.Contents.{contents, is_in, rule_in, content_rule}
use Rattle.writing.specs.Digits.{unwritable, number_bytes}
use Rattle.writing.proofs.Decimals.{number_length, unwritable_length}
use Rattle.roundtrip.proofs.ValuesBack.{AllAllowed, not_allowed, number_back}
use Rattle.parts.specs.Loops.{loop}
use Rattle.parts.specs.Part.{most_digits, article_width, qualifier_width, currency_width, fitted, text_of, medium_of, price_from, article_from, part_of, part_width, net_at, list_at, length_at, article_at, lent_price, lent_article, lent_part}
use Rattle.parts.specs.Fields.{amount_text, article_text, medium_text, part_texts, with_ids, part_fields}
use Rattle.parts.specs.declared.part.Medium.{Medium}
use Rattle.parts.specs.declared.part.Medium.TheVariants.{Physical, Digital}
use Rattle.parts.specs.declared.part.PartPrice.{PartPrice}
use Rattle.parts.specs.declared.part.Part.{Part}
use Rattle.parts.proofs.Fits.{fitted_whole, fitted_length}
use Rattle.bundles.proofs.Kept.{AllSound}
use Rattle.bundles.proofs.Contents.{of_least}

-- how wide a part's values are, and that zeros stand behind its article
pub record PriceShaped (p : PartPrice) : Type 0 where
  pub qualifier : length p.qualifier ≡ qualifier_width
  pub currency : length p.currency ≡ currency_width

pub record Shaped (p : Part) : Type 0 where
  pub net : PriceShaped p.net
  pub list : PriceShaped p.list
  pub bytes : length p.article.bytes ≡ article_width
  pub qualifier : length p.article.qualifier ≡ qualifier_width
  pub zeros : p.article.length ≤ article_width → fitted article_width (take p.article.length p.article.bytes) ≡ p.article.bytes

-- a price's amount and its digits, where they are written
module _ (p : PartPrice) (e : keeps (Of Digit 5 15) [] (amount_text p) ≡ true) (a : AllAllowed (amount_text p)) where
  -- the amount has no more digits than there may be
  few : leb p.digits most_digits ≡ true
  unfolding amount_text
  few =
      split (leb p.digits most_digits) (λ t. t)
      (λ t. let least = of_least Digit 5 15 (amount_text p) e in absurd (omega (arith, rw (t, unwritable_length 1) at least)))

  text : amount_text p ≡ number_bytes p.digits p.amount.0
  unfolding amount_text
  text = rw few

  long : length (amount_text p) ≡ p.digits
  long = rw text (number_length p.digits p.amount.0)

  whole : take most_digits (amount_text p) ≡ amount_text p
  whole = take_all most_digits (amount_text p) (rw long (leb-true p.digits most_digits few))

  pub amount_same : price_of (take most_digits (amount_text p)) ≡ p.amount
  amount_same =
      let some : 0 < p.digits = omega (arith, of_least Digit 5 15 (amount_text p) e, long) in
      let n : number (take most_digits (amount_text p)) ≡ p.amount.0 =
      ap number (whole ∙ text) ∙ number_back p.digits p.amount.0 some (rw text at a) in
      λ i. record { 0 = n i }

  pub digits_same : length (take most_digits (amount_text p)) ≡ p.digits
  digits_same = ap length whole ∙ long

-- an article's length and bytes, where it is written
module _ (p : Part) (s : Shaped p) (a : AllAllowed (article_text p.article)) where
  short : leb p.article.length article_width ≡ true
  unfolding article_text
  short = split (leb p.article.length article_width) (λ t. t) (λ t. absurd (not_allowed 1 (omega arith) (rw t at a)))

  name : article_text p.article ≡ take p.article.length p.article.bytes
  unfolding article_text
  name = rw short

  name_long : length (article_text p.article) ≡ p.article.length
  name_long = rw name (length-take-le p.article.length p.article.bytes (omega (arith, s.bytes, leb-true p.article.length article_width short)))

  name_whole : take article_width (article_text p.article) ≡ article_text p.article
  name_whole = take_all article_width (article_text p.article) (rw name_long (leb-true p.article.length article_width short))

  pub length_same : length (take article_width (article_text p.article)) ≡ p.article.length
  length_same = ap length name_whole ∙ name_long

  pub bytes_same : fitted article_width (take article_width (article_text p.article)) ≡ p.article.bytes
  bytes_same = ap (fitted article_width) (name_whole ∙ name) ∙ s.zeros (leb-true p.article.length article_width short)

-- a medium that is written is named, and is the one that its name names
pub medium_named : (named : Bool) (m : Medium) → keeps (OneOf medium) [] (medium_text named m) ≡ true → named ≡ true
unfolding medium_text unwritable keeps texts among same
medium_named true m e = refl
medium_named false m e = e

pub medium_same : (m : Medium) → medium_of (medium_text true m) ≡ m
unfolding medium_text medium_of same
medium_same Physical = refl
medium_same Digital = refl

-- a part whose fields are kept
module _ (named : Bool) (p : Part) (s : Shaped p) (k : AllSound (part_fields named p)) where
  pub is_named : named ≡ true
  unfolding part_fields part_texts with_ids loop contents is_in rule_in content_rule
  is_named = medium_named named p.medium k.1.1.1.1.1.1.1.1.1.0.rule

  -- is the part that they say
  pub part_back : part_of (part_fields named p) ≡ p
  unfolding part_of price_from article_from text_of part_fields part_texts with_ids loop contents is_in rule_in content_rule
  part_back =
      let net = k.1.0 in
      let list = k.1.1.1.1.0 in
      let article = k.1.1.1.1.1.1.1.0 in
      let m : medium_of (medium_text named p.medium) ≡ p.medium = rw is_named (medium_same p.medium) in
      let n1 = amount_same p.net net.rule net.allowed in
      let n2 = digits_same p.net net.rule net.allowed in
      let l1 = amount_same p.list list.rule list.allowed in
      let l2 = digits_same p.list list.rule list.allowed in
      let a1 = length_same p s article.allowed in
      let a2 = bytes_same p s article.allowed in
      let q1 = fitted_whole qualifier_width p.net.qualifier s.net.qualifier in
      let q2 = fitted_whole currency_width p.net.currency s.net.currency in
      let q3 = fitted_whole qualifier_width p.list.qualifier s.list.qualifier in
      let q4 = fitted_whole currency_width p.list.currency s.list.currency in
      let q5 = fitted_whole qualifier_width p.article.qualifier s.qualifier in
      λ i. record {
        tax = p.tax;
        medium = m i;
        net = record { amount = n1 i; digits = n2 i; qualifier = q1 i; currency = q2 i };
        list = record { amount = l1 i; digits = l2 i; qualifier = q3 i; currency = q4 i };
        article = record { length = a1 i; bytes = a2 i; qualifier = q5 i };
      }

-- a part that stands lent is so wide
module _ (s : List ℕ) (at : ℕ) where
  price_shaped : (p : ℕ) → PriceShaped (lent_price s p)
  unfolding lent_price
  price_shaped p = record { qualifier = fitted_length qualifier_width _; currency = fitted_length currency_width _ }

  -- of its article so many bytes stand there as its length says, if it may be so long
  front : at + part_width ≤ length s → (n : ℕ) → n ≤ article_width
      → take n (fitted article_width (slice (at + article_at) (at + article_at + n) s)) ≡ slice (at + article_at) (at + article_at + n) s
  unfolding fitted
  front h n l =
      let x = slice (at + article_at) (at + article_at + n) s in
      let k : length x ≡ n = length-slice (at + article_at) (at + article_at + n) s (omega arith) ∙ omega arith in
      rw (take_all article_width x (omega arith)) (take_at x (replicate (article_width - length x) 0) n k)

  pub lent_shaped : at + part_width ≤ length s → Shaped (lent_part s at)
  unfolding lent_part lent_article
  lent_shaped h = record {
    net = price_shaped (at + net_at);
    list = price_shaped (at + list_at);
    bytes = fitted_length article_width _;
    qualifier = fitted_length qualifier_width _;
    zeros = λ l. ap (fitted article_width) (front h (get_or s (at + length_at) 0) l);
  }
