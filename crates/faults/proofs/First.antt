-- The first field that cannot be written: among fields and others behind them, in a loop, and in loops.
use mathlib.Core.Path.{◌≡◌, ◌∙◌, refl, ap}
use mathlib.Core.Bool.{true, false}
use mathlib.Core.List.{List, [], ◌∷◌, ◌++◌}
use Prim.Native.Nat.{ℕ, suc, ◌+◌, ◌-◌, ◌*◌, ◌≤◌, ◌<◌}
use native.Mathlib.Nat.{not-suc-le-zero, zero-add, suc-add}
use native.Mathlib.Omega.{arith}
use lib.ListN.{length}
use Rattle.cells.proofs.Bools.{split}
use Rattle.record.specs.Fields.{Optional}
use Rattle.parts.specs.Loops.{loop_fields}
use Rattle.parts.specs.Part.{part_width, net_at, list_at, lent_price, lent_part}
use Rattle.parts.specs.Fields.{lent_loop, lent_fields}
use Rattle.parts.proofs.Lent.{loop_length, fields_next, fields_end}
use Rattle.lent_parts.specs.Faults.{is_kept, first_fault, price_loop, article_loop}
use Rattle.lent_parts.proofs.Loop.{loop_is}

-- of a field and others it is the field
pub fault_here : (f : Optional) (fs : List Optional) → is_kept f.id f.content ≡ false → first_fault (f ∷ fs) ≡ 0
unfolding first_fault
fault_here f fs e = rw e

-- or is among the others
pub fault_next : (f : Optional) (fs : List Optional) → is_kept f.id f.content ≡ true → first_fault (f ∷ fs) ≡ suc (first_fault fs)
unfolding first_fault
fault_next f fs e = rw e

-- in no fields there is none
pub no_fault : first_fault [] ≡ 0
unfolding first_fault
no_fault = refl

pub ruleset fault_found = (fault_here, fault_next, no_fault)

-- of fields and others it is in those in front
fault_in : (xs ys : List Optional) → first_fault xs < length xs → first_fault (xs ++ ys) ≡ first_fault xs
fault_in [] ys h = absurd (not-suc-le-zero h)
fault_in (x ∷ xs) ys h =
    split (is_kept x.id x.content)
    (λ e. let t = fault_next x xs e in fault_next x (xs ++ ys) e ∙ ap suc (fault_in xs ys (omega arith)) ∙ rw t)
    (λ e. fault_here x (xs ++ ys) e ∙ rw (fault_here x xs e))

-- or in those behind them
fault_past : (xs ys : List Optional) → length xs ≤ first_fault xs → first_fault (xs ++ ys) ≡ length xs + first_fault ys
fault_past [] ys h = rw zero-add
fault_past (x ∷ xs) ys h =
    split (is_kept x.id x.content)
    (λ e. let t = fault_next x xs e in fault_next x (xs ++ ys) e ∙ ap suc (fault_past xs ys (omega arith)) ∙ rw suc-add)
    (λ e. let t = fault_here x xs e in absurd (omega arith))

-- in a lent part it is the tax mark, in the net price, in the list price, or behind both
module _ (s : List ℕ) (at : ℕ) where
  pub bad_tax : is_kept 1019 ((lent_part s at).tax ∷ []) ≡ false → first_fault (lent_loop s at) ≡ 0
  bad_tax e = ap first_fault (loop_is s at) ∙ fault_here _ _ e

  prices : is_kept 1019 ((lent_part s at).tax ∷ []) ≡ true
      → first_fault (lent_loop s at) ≡ suc (first_fault (price_loop (lent_price s (at + net_at)) ++ (price_loop (lent_price s (at + list_at)) ++ article_loop s at)))
  prices t = ap first_fault (loop_is s at) ∙ fault_next _ _ t

  pub bad_net : is_kept 1019 ((lent_part s at).tax ∷ []) ≡ true → first_fault (price_loop (lent_price s (at + net_at))) < 3
      → first_fault (lent_loop s at) ≡ 1 + first_fault (price_loop (lent_price s (at + net_at)))
  bad_net t h =
      let e = prices t in
      let k = fault_in (price_loop (lent_price s (at + net_at))) (price_loop (lent_price s (at + list_at)) ++ article_loop s at) h in
      omega arith

  list_price : is_kept 1019 ((lent_part s at).tax ∷ []) ≡ true → first_fault (price_loop (lent_price s (at + net_at))) ≡ 3
      → first_fault (lent_loop s at) ≡ 4 + first_fault (price_loop (lent_price s (at + list_at)) ++ article_loop s at)
  list_price t n =
      let e = prices t in
      let k = fault_past (price_loop (lent_price s (at + net_at))) (price_loop (lent_price s (at + list_at)) ++ article_loop s at) (omega arith) in
      omega arith

  pub bad_list : is_kept 1019 ((lent_part s at).tax ∷ []) ≡ true → first_fault (price_loop (lent_price s (at + net_at))) ≡ 3
      → first_fault (price_loop (lent_price s (at + list_at))) < 3 → first_fault (lent_loop s at) ≡ 4 + first_fault (price_loop (lent_price s (at + list_at)))
  bad_list t n h =
      let e = list_price t n in
      let k = fault_in (price_loop (lent_price s (at + list_at))) (article_loop s at) h in
      omega arith

  pub behind : is_kept 1019 ((lent_part s at).tax ∷ []) ≡ true → first_fault (price_loop (lent_price s (at + net_at))) ≡ 3
      → first_fault (price_loop (lent_price s (at + list_at))) ≡ 3 → first_fault (lent_loop s at) ≡ 7 + first_fault (article_loop s at)
  behind t n l =
      let e = list_price t n in
      let p = fault_past (price_loop (lent_price s (at + list_at))) (article_loop s at) (omega arith) in
      omega arith

pub ruleset part_faults = (bad_tax, bad_net, bad_list, behind)

-- in the parts that are left it is in the next, or in those behind it, or there is none left
module _ (s : List ℕ) (n j : ℕ) where
  pub fault_now : j < n → first_fault (lent_loop s (j * part_width)) < loop_fields
      → first_fault (lent_fields (n - j) s (j * part_width)) ≡ first_fault (lent_loop s (j * part_width))
  fault_now h k =
      let l = loop_length s (j * part_width) in
      ap first_fault (fields_next s n j h) ∙ fault_in (lent_loop s (j * part_width)) _ (omega arith)

  pub fault_later : j < n → first_fault (lent_loop s (j * part_width)) ≡ loop_fields
      → first_fault (lent_fields (n - j) s (j * part_width)) ≡ loop_fields + first_fault (lent_fields (n - (j + 1)) s ((j + 1) * part_width))
  fault_later h k =
      let l = loop_length s (j * part_width) in
      ap first_fault (fields_next s n j h) ∙ fault_past (lent_loop s (j * part_width)) _ (omega arith) ∙ rw l

  pub fault_end : n ≤ j → first_fault (lent_fields (n - j) s (j * part_width)) ≡ 0
  fault_end h = ap first_fault (fields_end s n j (j * part_width) h) ∙ no_fault

pub ruleset faults_left = (fault_now, fault_later, fault_end)
