-- What keeps a content of a loop, by its ID, and that its bytes may stand there then.
use mathlib.Core.Path.{◌≡◌, ◌∙◌, refl, ap}
use mathlib.Core.Bool.{Bool, true, false, ◌&&◌, false≢true}
use mathlib.Core.List.{List, [], ◌∷◌}
use Prim.Native.Nat.{ℕ, zero, suc, ◌+◌, ◌^◌, ◌/◌, ◌%◌, ◌≤◌, ◌<◌}
use native.Mathlib.Nat.{not-suc-le-zero}
use native.Mathlib.Omega.{arith}
use borrow.Author.Tests.{leb-true, le-leb, lt-leb, ne_eqb}
use lib.Dec.{leb, ltb}
use lib.ListN.{length}
use Rattle.cells.specs.Bytes.{bytes, within, all, same, among}
use Rattle.cells.proofs.Bools.{split, and_left, and_right, and_true, and_false}
use Rattle.cells.proofs.Lists.{same_true, all_weaker, all_append}
use Rattle.signs.specs.Class.{belongs, all_of, of_class}
use Rattle.rules.specs.Rule.{texts, keeps}
use Rattle.signs.specs.declared.Class.{Class}
use Rattle.signs.specs.declared.Class.TheVariants.{Any, Digit, Capital}
use Rattle.rules.specs.declared.rule.Texts.TheVariants.{PartTax}
use Rattle.record.specs.Contents.{contents, is_in, rule_in, content_rule}
use Rattle.writing.specs.Digits.{digits_of, unwritable, number_bytes}
use Rattle.writing.specs.Write.{content_byte}
use Rattle.writing.proofs.Decimals.{unwritable_length, number_length}
use Rattle.parts.specs.Part.{most_digits, article_width}
use Rattle.parts.specs.Fields.{amount_text, medium_text}
use Rattle.parts.specs.declared.part.Medium.{Medium}
use Rattle.parts.specs.declared.part.Medium.TheVariants.{Physical, Digital}
use Rattle.parts.specs.declared.part.PartPrice.{PartPrice}
use Rattle.lent_parts.specs.Faults.{is_kept}
use Rattle.parts.proofs.Texts.{amount_written, amount_broken}

-- a test that another one implies adds nothing to it
implied : (a b : Bool) → (b ≡ true → a ≡ true) → a && b ≡ b
implied a true h = rw (h refl)
implied a false h = and_false a

-- a byte from past the star to the last of ASCII may stand in a content
content_within : (least most b : ℕ) → 42 < least → most ≤ 126 → within least most b ≡ true → content_byte b ≡ true
content_within least most b l m e =
    let f = leb-true least b (and_left (leb least b) (leb b most) e) in
    let t = leb-true b most (and_right (leb least b) (leb b most) e) in
    rw (le-leb 32 b (omega arith), le-leb b 126 (omega arith), ne_eqb b 42 (λ q. omega (arith, q)))

-- so many bytes of a class that may stand there do so
class_content : (c : Class) (least most : ℕ) (s : List ℕ) → ((b : ℕ) → belongs c b ≡ true → content_byte b ≡ true)
    → all content_byte s && of_class c least most s ≡ of_class c least most s
unfolding of_class all_of
class_content c least most s w =
    implied _ _ (λ e. all_weaker (belongs c) content_byte w s (and_right (within least most (length s)) (all (belongs c) s) e))

-- capitals may
capital_content : (b : ℕ) → belongs Capital b ≡ true → content_byte b ≡ true
unfolding belongs
capital_content b e = content_within 65 90 b (omega arith) (omega arith) e

-- and digits
digit_content : (b : ℕ) → belongs Digit b ≡ true → content_byte b ≡ true
unfolding belongs
digit_content b e = content_within 48 57 b (omega arith) (omega arith) e

-- an amount is five to fifteen digits
amount_kept : (s : List ℕ) → is_kept 1029 s ≡ of_class Digit 5 15 s
unfolding is_kept keeps contents is_in rule_in content_rule
amount_kept s = class_content Digit 5 15 s digit_content

-- a price's qualifier is two capitals
pub qualifier_kept : (s : List ℕ) → is_kept 1030 s ≡ of_class Capital 2 2 s
unfolding is_kept keeps contents is_in rule_in content_rule
qualifier_kept s = class_content Capital 2 2 s capital_content

-- so is an article's
pub article_qualifier_kept : (s : List ℕ) → is_kept 1102 s ≡ of_class Capital 2 2 s
unfolding is_kept keeps contents is_in rule_in content_rule
article_qualifier_kept s = class_content Capital 2 2 s capital_content

-- a currency is three
pub currency_kept : (s : List ℕ) → is_kept 1032 s ≡ of_class Capital 3 3 s
unfolding is_kept keeps contents is_in rule_in content_rule
currency_kept s = class_content Capital 3 3 s capital_content

-- the three texts of a tax mark are of bytes that may stand there
tax_content : (s : List ℕ) → among s (texts PartTax) ≡ true → all content_byte s ≡ true
unfolding texts among all
tax_content s e =
    split (same s (bytes "0")) (λ p. ap (all content_byte) (same_true s (bytes "0") p))
    (λ p. split (same s (bytes "1")) (λ q. ap (all content_byte) (same_true s (bytes "1") q))
    (λ q. split (same s (bytes "2")) (λ r. ap (all content_byte) (same_true s (bytes "2") r)) (λ r. absurd (false≢true (rw (p, q, r) at e)))))

-- a tax mark is one of them
pub tax_kept : (s : List ℕ) → is_kept 1019 s ≡ among s (texts PartTax)
unfolding is_kept keeps contents is_in rule_in content_rule
tax_kept s = implied _ _ (tax_content s)

-- a medium is kept just where one is named
pub medium_kept : (named : Bool) (m : Medium) → is_kept 1151 (medium_text named m) ≡ named
unfolding is_kept keeps contents is_in rule_in content_rule medium_text unwritable texts among same all
medium_kept true Physical = refl
medium_kept true Digital = refl
medium_kept false m = refl

-- digits written are digits
digits_all : (w n : ℕ) → all (belongs Digit) (digits_of w n) ≡ true
unfolding digits_of all belongs
digits_all zero n = refl
digits_all (suc w) n =
    let ih = digits_all w (n / 10) in
    rw (all_append, ih, le-leb 48 (48 + n % 10) (omega arith), le-leb (48 + n % 10) 57 (omega arith))

-- and what cannot be written has none
no_digits : (w : ℕ) → 0 < w → all (belongs Digit) (unwritable w) ≡ false
unfolding unwritable all belongs
no_digits zero h = absurd (not-suc-le-zero h)
no_digits (suc w) h = refl

-- too few bytes are no amount
short : (s : List ℕ) → length s < 5 → is_kept 1029 s ≡ false
unfolding of_class
short s h = amount_kept s ∙ rw (lt-leb 5 (length s) h)

-- five to fifteen bytes are one just where they are digits
long : (s : List ℕ) → 5 ≤ length s → length s ≤ most_digits → is_kept 1029 s ≡ all (belongs Digit) s
unfolding of_class all_of
long s h l = amount_kept s ∙ rw (le-leb 5 (length s) h, le-leb (length s) 15 l)

-- a price's amount
module _ (p : PartPrice) where
  -- of too few digits is not kept
  pub amount_few : p.digits < 5 → is_kept 1029 (amount_text p) ≡ false
  amount_few h =
      let t = amount_written p (omega arith) in
      let l = number_length p.digits p.amount.0 in
      ap (is_kept 1029) t ∙ short _ (rw l h)

  -- nor of too many
  pub amount_many : most_digits < p.digits → is_kept 1029 (amount_text p) ≡ false
  amount_many h = ap (is_kept 1029) (amount_broken p h) ∙ short (unwritable 1) (rw (unwritable_length 1) (omega arith))

  -- any other is, where it is below ten to their number
  pub amount_within : 5 ≤ p.digits → p.digits ≤ most_digits → is_kept 1029 (amount_text p) ≡ ltb p.amount.0 (10 ^ p.digits)
  unfolding number_bytes
  amount_within h l =
      let w = p.digits in
      let n = p.amount.0 in
      let k = number_length w n in
      ap (is_kept 1029) (amount_written p l)
      ∙ long (number_bytes w n) (rw k h) (rw k l)
      ∙ split (ltb n (10 ^ w)) (λ e. rw e (digits_all w n)) (λ e. rw e (no_digits w (omega arith)))

-- any bytes are of any class
any_all : (s : List ℕ) → all (belongs Any) s ≡ true
unfolding all belongs
any_all [] = refl
any_all (b ∷ s) = any_all s

-- an article of one to thirty-five bytes is kept just where these may stand there
pub article_kept : (s : List ℕ) → 0 < length s → length s ≤ article_width → is_kept 1101 s ≡ all content_byte s
unfolding is_kept keeps contents is_in rule_in content_rule of_class all_of
article_kept s h l = rw (le-leb 1 (length s) h, le-leb (length s) 35 l, any_all s) (and_true _)

-- and one of none is not
pub article_none : (s : List ℕ) → length s ≡ 0 → is_kept 1101 s ≡ false
unfolding is_kept keeps contents is_in rule_in content_rule of_class
article_none s e = rw (e, and_false)
