-- The fields of a lent part, where each can be written, and those of lent parts one after the other.
use mathlib.Core.Path.{◌≡◌, ◌∙◌, ap}
use mathlib.Core.Bool.{true}
use mathlib.Core.List.{List, [], ◌∷◌, ◌++◌}
use Prim.Native.Nat.{ℕ, ◌+◌, ◌-◌, ◌*◌, ◌≤◌, ◌<◌}
use native.Mathlib.Omega.{arith}
use lib.ListN.{length, get_or}
use lib.Seq.{sets}
use Rattle.record.specs.Fields.{Optional, head_width}
use Rattle.writing.specs.Write.{field_text}
use Rattle.parts.specs.Loops.{loop, loop_fields}
use Rattle.parts.specs.Part.{part_width, medium_at, net_at, list_at, medium_in, is_medium, lent_price, lent_part}
use Rattle.parts.specs.Fields.{amount_text, part_texts, with_ids, part_fields, lent_loop, lent_fields}
use Rattle.parts.proofs.Lent.{loop_length, lent_long, fields_next, fields_end}
use Rattle.lent_parts.specs.Faults.{is_kept, first_fault, price_loop, article_loop, fields_text}
use Rattle.lent_parts.proofs.Widths.{text_width, fields_length}
use Rattle.lent_parts.proofs.Loop.{loop_is}
use Rattle.putting.proofs.Texts.{stored_next, stored_append}
use Rattle.putting.proofs.Kept.{AllKept, all_kept, faults_parted, medium_kept}

-- the fields of a lent part, where each can be written
module _ (s : List ℕ) (at : ℕ) where
  each : first_fault (lent_loop s at) ≡ loop_fields → AllKept (lent_loop s at)
  unfolding lent_loop part_fields part_texts with_ids loop
  each k = all_kept (lent_loop s at) k

  pub net_kept : first_fault (lent_loop s at) ≡ loop_fields → is_kept 1029 (amount_text (lent_price s (at + net_at))) ≡ true
  unfolding lent_loop part_fields part_texts with_ids loop lent_part
  net_kept k = (each k).1.0

  pub list_kept : first_fault (lent_loop s at) ≡ loop_fields → is_kept 1029 (amount_text (lent_price s (at + list_at))) ≡ true
  unfolding lent_loop part_fields part_texts with_ids loop lent_part
  list_kept k = (each k).1.1.1.1.0

  pub is_named : first_fault (lent_loop s at) ≡ loop_fields → is_medium (get_or s (at + medium_at) 0) ≡ true
  unfolding lent_loop part_fields part_texts with_ids loop lent_part
  is_named k = medium_kept 1151 (is_medium (get_or s (at + medium_at) 0)) (medium_in (get_or s (at + medium_at) 0)) (each k).1.1.1.1.1.1.1.1.1.0

pub ruleset loop_kept = (net_kept, list_kept, is_named)

-- the fields in the order in which they are put, and how long they are
module _ (s : List ℕ) (from : ℕ) where
  abbrev tax : Optional
  tax = record { id = 1019; content = (lent_part s from).tax ∷ [] }

  abbrev net : List Optional
  net = price_loop (lent_price s (from + net_at))

  abbrev list : List Optional
  list = price_loop (lent_price s (from + list_at))

  pub loop_put : (l : List ℕ) (at : ℕ) → sets l at (fields_text (lent_loop s from))
      ≡ sets (sets (sets (sets l at (field_text tax)) (at + head_width + 1) (fields_text net)) (at + head_width + 1 + length (fields_text net)) (fields_text list))
      (at + head_width + 1 + length (fields_text net) + length (fields_text list)) (fields_text (article_loop s from))
  loop_put l at =
      rw (loop_is s from) (stored_next l at tax (net ++ (list ++ article_loop s from))
      ∙ stored_append _ _ net (list ++ article_loop s from)
      ∙ stored_append _ _ list (article_loop s from))

  pub loop_long : length (fields_text (lent_loop s from)) ≡ head_width + 1 + length (fields_text net) + length (fields_text list) + length (fields_text (article_loop s from))
  loop_long =
      let n = fields_length net (list ++ article_loop s from) in
      let l = fields_length list (article_loop s from) in
      let t = fields_length (tax ∷ []) (net ++ (list ++ article_loop s from)) in
      let w = text_width (tax ∷ []) in
      ap (λ (fs : List Optional). length (fields_text fs)) (loop_is s from) ∙ omega arith

-- the loop with an index, and those after it
module _ (s : List ℕ) (n j : ℕ) where
  -- where no field is faulty, none of either is
  kept_both : j < n → first_fault (lent_fields (n - j) s (j * part_width)) ≡ (n - j) * loop_fields
      → (first_fault (lent_loop s (j * part_width)) ≡ loop_fields) × (first_fault (lent_fields (n - (j + 1)) s ((j + 1) * part_width)) ≡ (n - (j + 1)) * loop_fields)
  kept_both h e =
      let l = loop_length s (j * part_width) in
      let c = lent_long (n - (j + 1)) s ((j + 1) * part_width) in
      let r = faults_parted (lent_loop s (j * part_width)) (lent_fields (n - (j + 1)) s ((j + 1) * part_width)) (rw (fields_next s n j h) at e ∙ omega (arith, l, c)) in
      (r.0 ∙ l, r.1 ∙ c)

  pub kept_now : j < n → first_fault (lent_fields (n - j) s (j * part_width)) ≡ (n - j) * loop_fields → first_fault (lent_loop s (j * part_width)) ≡ loop_fields
  kept_now h e = (kept_both h e).0

  pub kept_later : j < n → first_fault (lent_fields (n - j) s (j * part_width)) ≡ (n - j) * loop_fields
      → first_fault (lent_fields (n - (j + 1)) s ((j + 1) * part_width)) ≡ (n - (j + 1)) * loop_fields
  kept_later h e = (kept_both h e).1

  pub long_here : j < n → length (fields_text (lent_fields (n - j) s (j * part_width)))
      ≡ length (fields_text (lent_loop s (j * part_width))) + length (fields_text (lent_fields (n - (j + 1)) s ((j + 1) * part_width)))
  long_here h = rw (fields_next s n j h) (fields_length (lent_loop s (j * part_width)) (lent_fields (n - (j + 1)) s ((j + 1) * part_width)))

  -- the loop put leaves the others to put
  pub put_next : (l : List ℕ) (at : ℕ) → j < n → sets l at (fields_text (lent_fields (n - j) s (j * part_width)))
      ≡ sets (sets l at (fields_text (lent_loop s (j * part_width)))) (at + length (fields_text (lent_loop s (j * part_width)))) (fields_text (lent_fields (n - (j + 1)) s ((j + 1) * part_width)))
  put_next l at h = rw (fields_next s n j h) (stored_append l at (lent_loop s (j * part_width)) (lent_fields (n - (j + 1)) s ((j + 1) * part_width)))

  -- with no loop left nothing is put
  pub put_end : n ≤ j → fields_text (lent_fields (n - j) s (j * part_width)) ≡ []
  unfolding fields_text
  put_end h = rw (fields_end s n j (j * part_width) h)

pub ruleset loops_put = (kept_now, kept_later, long_here, put_next, put_end)
