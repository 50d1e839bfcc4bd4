-- What loops ask of lent parts, and how long their fields become.
use mathlib.Core.Path.{◌≡◌, ◌∙◌, ap}
use mathlib.Core.Bool.{true, false, ◌&&◌}
use mathlib.Core.List.{List, ◌++◌}
use Prim.Native.Nat.{ℕ, suc, ◌+◌, ◌-◌, ◌*◌, ◌≤◌, ◌<◌}
use native.Mathlib.Omega.{arith}
use lib.ListN.{length, get_or}
use lib.Seq.{take_at, drop_at}
use Rattle.cells.specs.Bytes.{among}
use Rattle.cells.proofs.Bools.{and_true, and_false}
use Rattle.rules.specs.Rule.{texts, keeps}
use Rattle.rules.specs.declared.rule.Texts.TheVariants.{NetPrice, ListPrice}
use Rattle.record.specs.Fields.{Optional}
use Rattle.parts.specs.Loops.{loop, loop_fields, is_member, is_loop, are_loops}
use Rattle.parts.specs.Part.{part_width, medium_at, net_at, list_at, medium_in, is_medium, lent_price, lent_article, lent_part}
use Rattle.parts.specs.Fields.{amount_text, article_text, part_texts, with_ids, part_fields, lent_loop, lent_fields}
use Rattle.parts.proofs.Fits.{fitted_length}
use Rattle.parts.proofs.Texts.{medium_length}
use Rattle.parts.proofs.Lent.{loop_length, fields_next, fields_end}
use Rattle.lent_parts.specs.Faults.{fields_text}
use Rattle.lent_parts.proofs.Widths.{widths, text_width, widths_append}
use Rattle.lent_parts.proofs.Loop.{loop_is}

-- a loop asks for the qualifiers of both prices
loop_asks : (s : List ℕ) (at : ℕ)
    → is_loop loop (lent_loop s at) ≡ among (lent_price s (at + net_at)).qualifier (texts NetPrice) && among (lent_price s (at + list_at)).qualifier (texts ListPrice)
unfolding is_loop is_member loop keeps lent_loop lent_part part_fields part_texts with_ids
loop_asks s at = rw and_true

-- the parts that are left are loops where the next is one and the others are
module _ (s : List ℕ) (n j : ℕ) where
  loops_next : j < n
      → are_loops (n - j) (lent_fields (n - j) s (j * part_width))
      ≡ is_loop loop (lent_loop s (j * part_width)) && are_loops (n - (j + 1)) (lent_fields (n - (j + 1)) s ((j + 1) * part_width))
  unfolding are_loops
  loops_next h =
      let e : n - j ≡ suc (n - (j + 1)) = omega arith in
      let l = loop_length s (j * part_width) in
      let others = lent_fields (n - (j + 1)) s ((j + 1) * part_width) in
      ap (are_loops (n - j)) (fields_next s n j h)
      ∙ rw (e, take_at (lent_loop s (j * part_width)) others loop_fields l, drop_at (lent_loop s (j * part_width)) others loop_fields l)

  -- which it is not with another qualifier of the net price, or of the list price
  pub net_otherwise : j < n → among (lent_price s (j * part_width + net_at)).qualifier (texts NetPrice) ≡ false
      → are_loops (n - j) (lent_fields (n - j) s (j * part_width)) ≡ false
  net_otherwise h e = loops_next h ∙ rw (loop_asks, e)

  pub list_otherwise : j < n → among (lent_price s (j * part_width + list_at)).qualifier (texts ListPrice) ≡ false
      → are_loops (n - j) (lent_fields (n - j) s (j * part_width)) ≡ false
  list_otherwise h e = loops_next h ∙ rw (loop_asks, e, and_false)

  pub asked_next : j < n → among (lent_price s (j * part_width + net_at)).qualifier (texts NetPrice) ≡ true
      → among (lent_price s (j * part_width + list_at)).qualifier (texts ListPrice) ≡ true
      → are_loops (n - j) (lent_fields (n - j) s (j * part_width)) ≡ are_loops (n - (j + 1)) (lent_fields (n - (j + 1)) s ((j + 1) * part_width))
  asked_next h e f = loops_next h ∙ rw (loop_asks, e, f)

  pub asked_end : n ≤ j → are_loops (n - j) (lent_fields (n - j) s (j * part_width)) ≡ true
  unfolding are_loops
  asked_end h =
      let e : n - j ≡ 0 = omega arith in
      rw e

pub ruleset loops_asked = (net_otherwise, list_otherwise, asked_next, asked_end)

-- a price's qualifier has two bytes, its currency three
price_widths : (s : List ℕ) (at : ℕ) → (length (lent_price s at).qualifier ≡ 2) × (length (lent_price s at).currency ≡ 3)
unfolding lent_price
price_widths s at = (fitted_length 2 _, fitted_length 3 _)

-- an article's qualifier has two
qualifier_width : (s : List ℕ) (at : ℕ) → length (lent_article s at).qualifier ≡ 2
unfolding lent_article
qualifier_width s at = fitted_length 2 _

-- the fields of a part: their heads, the contents that are always as long, the amounts and the article
loop_width : (s : List ℕ) (at : ℕ)
    → widths (lent_loop s at)
    ≡ 66 + (length (amount_text (lent_price s (at + net_at))) + length (amount_text (lent_price s (at + list_at)))) + length (article_text (lent_article s at))
loop_width s at =
    let m = medium_length (is_medium (get_or s (at + medium_at) 0)) (medium_in (get_or s (at + medium_at) 0)) in
    let n = price_widths s (at + net_at) in
    let l = price_widths s (at + list_at) in
    let q = qualifier_width s at in
    ap widths (loop_is s at) ∙ omega arith

-- those of the parts that are left: of the next, and of the others
module _ (s : List ℕ) (n j : ℕ) where
  pub width_next : j < n → length (fields_text (lent_fields (n - j) s (j * part_width)))
      ≡ 66 + (length (amount_text (lent_price s (j * part_width + net_at))) + length (amount_text (lent_price s (j * part_width + list_at)))) + length (article_text (lent_article s (j * part_width))) + length (fields_text (lent_fields (n - (j + 1)) s ((j + 1) * part_width)))
  width_next h =
      let others = lent_fields (n - (j + 1)) s ((j + 1) * part_width) in
      let w = text_width others in
      let l = loop_width s (j * part_width) in
      ap (λ (fs : List Optional). length (fields_text fs)) (fields_next s n j h)
      ∙ text_width (lent_loop s (j * part_width) ++ others)
      ∙ widths_append (lent_loop s (j * part_width)) others
      ∙ rw (l, w)

  -- or of none
  pub width_end : n ≤ j → length (fields_text (lent_fields (n - j) s (j * part_width))) ≡ 0
  unfolding fields_text
  width_end h = ap (λ (fs : List Optional). length (fields_text fs)) (fields_end s n j (j * part_width) h)
