-- A loop is written back from the part that it says.
use mathlib.Core.Path.{◌≡◌, ◌∙◌, ap, refl}
use mathlib.Core.Bool.{true, ◌&&◌}
use mathlib.Core.List.{List, [], ◌∷◌, map}
use Prim.Native.Nat.{ℕ, ◌-◌, ◌^◌}
use native.Mathlib.Omega.{arith}
use borrow.Author.Tests.{eqb-true, le-leb, lt-ltb}
use lib.Dec.{eqb}
use lib.ListN.{length, replicate}
use lib.Seq.{take_all, take_at}
use Rattle.cells.specs.Bytes.{same}
use Rattle.cells.proofs.Bools.{and_left, and_right}
use Rattle.rules.specs.Number.{number}
use Rattle.rules.specs.Rule.{keeps}
use Rattle.signs.specs.declared.Class.TheVariants.{Any, Digit, Capital}
use Rattle.rules.specs.declared.rule.Texts.TheVariants.{Medium}
use Rattle.rules.specs.declared.rule.Rule.TheVariants.{Of, OneOf}
use Rattle.record.specs.Contents.{contents, is_in, rule_in, content_rule}
use Rattle.record.specs.Fields.{Optional}
use Rattle.writing.specs.Digits.{number_bytes}
use Rattle.roundtrip.proofs.Sequences.{one_byte}
use Rattle.roundtrip.proofs.NumbersBack.{digits_back}
use Rattle.parts.specs.Loops.{Member, loop, loop_fields, is_member, is_loop}
use Rattle.parts.specs.Part.{most_digits, article_width, fitted, text_of, medium_of, price_from, article_from, part_of}
use Rattle.parts.specs.Fields.{amount_text, article_text, medium_text, part_texts, with_ids, part_fields}
use Rattle.parts.proofs.Fits.{fitted_whole}
use Rattle.bundles.proofs.Kept.{AllSound, rule_at}
use Rattle.bundles.proofs.Contents.{of_most, of_length, of_digits, digits_small, tax_length, medium_either}

-- the contents of fields
abbrev pub texts_of : List Optional → List (List ℕ)
texts_of fs = map (λ (f : Optional). f.content) fs

-- the fields of a loop are its contents with the IDs of its members
pub ids_back : (ms : List Member) (fs : List Optional) → length fs ≡ length ms → is_loop ms fs ≡ true → with_ids ms (texts_of fs) ≡ fs
unfolding is_loop is_member with_ids
ids_back [] [] l e = refl
ids_back [] (f ∷ fs) l e = absurd (omega (arith, l))
ids_back (m ∷ ms) [] l e = absurd (omega (arith, l))
ids_back (m ∷ ms) (f ∷ fs) l e =
    let i = eqb-true f.id m.id (and_left (eqb f.id m.id) _ (and_left (eqb f.id m.id && keeps m.rule [] f.content) _ e)) in
    rw (← i, ids_back ms fs (omega (arith, l)) (and_right (eqb f.id m.id && keeps m.rule [] f.content) _ e))

-- ten contents are those with the indexes 0 to 9
pub ten : (fs : List Optional) → length fs ≡ loop_fields
    → texts_of fs ≡ text_of 0 fs ∷ text_of 1 fs ∷ text_of 2 fs ∷ text_of 3 fs ∷ text_of 4 fs ∷ text_of 5 fs ∷ text_of 6 fs ∷ text_of 7 fs ∷ text_of 8 fs ∷ text_of 9 fs ∷ []
unfolding text_of
ten (a ∷ b ∷ c ∷ d ∷ e ∷ f ∷ g ∷ h ∷ i ∷ j ∷ []) l = refl
ten [] l = absurd (omega (arith, l))
ten (a ∷ []) l = absurd (omega (arith, l))
ten (a ∷ b ∷ []) l = absurd (omega (arith, l))
ten (a ∷ b ∷ c ∷ []) l = absurd (omega (arith, l))
ten (a ∷ b ∷ c ∷ d ∷ []) l = absurd (omega (arith, l))
ten (a ∷ b ∷ c ∷ d ∷ e ∷ []) l = absurd (omega (arith, l))
ten (a ∷ b ∷ c ∷ d ∷ e ∷ f ∷ []) l = absurd (omega (arith, l))
ten (a ∷ b ∷ c ∷ d ∷ e ∷ f ∷ g ∷ []) l = absurd (omega (arith, l))
ten (a ∷ b ∷ c ∷ d ∷ e ∷ f ∷ g ∷ h ∷ []) l = absurd (omega (arith, l))
ten (a ∷ b ∷ c ∷ d ∷ e ∷ f ∷ g ∷ h ∷ i ∷ []) l = absurd (omega (arith, l))
ten (a ∷ b ∷ c ∷ d ∷ e ∷ f ∷ g ∷ h ∷ i ∷ j ∷ k ∷ ks) l = absurd (omega (arith, l))

-- the rules of a loop's contents
module _ (fs : List Optional) where
  -- an amount is written in its own digits
  pub amount_back : (i : ℕ) → keeps (Of Digit 5 15) [] (text_of i fs) ≡ true → amount_text (price_from i fs) ≡ text_of i fs
  unfolding amount_text price_from number_bytes
  amount_back i e =
      let c = text_of i fs in
      let d = of_digits 5 15 c e in
      rw (take_all most_digits c (of_most Digit 5 15 c e), le-leb (length c) most_digits (of_most Digit 5 15 c e), lt-ltb (number c) (10 ^ length c) (digits_small c d))
      (digits_back (length c) c refl d)

  -- an article without the zeros behind it
  pub article_back : (i : ℕ) → keeps (Of Any 1 35) [] (text_of i fs) ≡ true → article_text (article_from i fs) ≡ text_of i fs
  unfolding article_text article_from fitted
  article_back i e =
      let c = text_of i fs in
      let m = of_most Any 1 35 c e in
      rw (take_all article_width c m, le-leb (length c) article_width m, take_all article_width c m)
      (take_at c (replicate (article_width - length c) 0) (length c) refl)

-- a medium by its name
pub medium_back : (c : List ℕ) → keeps (OneOf Medium) [] c ≡ true → medium_text true (medium_of c) ≡ c
unfolding medium_text medium_of same
medium_back c e = medium_either c e (λ p. rw p) (λ p. rw p)

-- of a loop whose contents are kept
module _ (fs : List Optional) (l : length fs ≡ loop_fields) (e : is_loop loop fs ≡ true) (s : AllSound fs) where
  -- the contents of the part that it says are its own
  texts_back : part_texts true (part_of fs) ≡ texts_of fs
  unfolding part_texts part_of price_from article_from loop contents is_in rule_in content_rule
  texts_back =
      rw (
        ten fs l,
        amount_back fs 1 (rule_at fs e s 1 (omega arith)),
        amount_back fs 4 (rule_at fs e s 4 (omega arith)),
        article_back fs 7 (rule_at fs e s 7 (omega arith)),
        medium_back (text_of 9 fs) (rule_at fs e s 9 (omega arith)),
        one_byte (text_of 0 fs) (tax_length (text_of 0 fs) (rule_at fs e s 0 (omega arith))),
        fitted_whole 2 (text_of 2 fs) (of_length Capital 2 (text_of 2 fs) (rule_at fs e s 2 (omega arith))),
        fitted_whole 3 (text_of 3 fs) (of_length Capital 3 (text_of 3 fs) (rule_at fs e s 3 (omega arith))),
        fitted_whole 2 (text_of 5 fs) (of_length Capital 2 (text_of 5 fs) (rule_at fs e s 5 (omega arith))),
        fitted_whole 3 (text_of 6 fs) (of_length Capital 3 (text_of 6 fs) (rule_at fs e s 6 (omega arith))),
        fitted_whole 2 (text_of 8 fs) (of_length Capital 2 (text_of 8 fs) (rule_at fs e s 8 (omega arith))),
      )

  -- so its fields are the loop again
  pub loop_back : part_fields true (part_of fs) ≡ fs
  unfolding part_fields loop
  loop_back = ap (with_ids loop) texts_back ∙ ids_back loop fs l e
