-- The text of lent parts is short, so that a length with it can be reckoned.
use mathlib.Core.Path.{◌≡◌}
use mathlib.Core.List.{List}
use Prim.Native.Nat.{ℕ, zero, suc, ◌+◌, ◌-◌, ◌*◌, ◌≤◌}
use native.Mathlib.Omega.{arith}
use lib.ListN.{length}
use Rattle.parts.specs.Part.{net_at, list_at, part_width, lent_price, lent_article}
use Rattle.parts.specs.Fields.{lent_fields}
use Rattle.parts.proofs.Texts.{amount_fits, article_fits}
use Rattle.lent_parts.specs.Faults.{fields_text}
use Rattle.faults.proofs.Asked.{width_next, width_end}

-- the m parts from one on, which are all that are left of n
left_short : (s : List ℕ) (n m j : ℕ) → j + m ≡ n → length (fields_text (lent_fields (n - j) s (j * part_width))) ≤ m * 131
left_short s n zero j h = omega (arith, width_end s n j (omega arith))
left_short s n (suc m) j h =
    let at = j * part_width in
    let next = width_next s n j (omega arith) in
    omega (arith, left_short s n m (j + 1) (omega arith), amount_fits (lent_price s (at + net_at)), amount_fits (lent_price s (at + list_at)), article_fits (lent_article s at))

-- and all of them
pub lent_short : (n : ℕ) (s : List ℕ) → length (fields_text (lent_fields n s 0)) ≤ n * 131
lent_short n s =
    let e : n - 0 ≡ n = omega arith in
    rw e at (left_short s n n 0 (omega arith))
