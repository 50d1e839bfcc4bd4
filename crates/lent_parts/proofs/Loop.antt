-- The fields of a lent part as those of its prices and of its article.
use mathlib.Core.Path.{◌≡◌, refl}
use mathlib.Core.List.{List, [], ◌∷◌, ◌++◌}
use Prim.Native.Nat.{ℕ, ◌+◌}
use Rattle.parts.specs.Loops.{loop}
use Rattle.parts.specs.Part.{net_at, list_at, lent_price, lent_part}
use Rattle.parts.specs.Fields.{part_texts, with_ids, part_fields, lent_loop}
use Rattle.lent_parts.specs.Faults.{price_loop, article_loop}

-- the tax mark, the prices, the article
pub loop_is : (s : List ℕ) (at : ℕ)
    → lent_loop s at
    ≡ record { id = 1019; content = (lent_part s at).tax ∷ [] } ∷ (price_loop (lent_price s (at + net_at)) ++ (price_loop (lent_price s (at + list_at)) ++ article_loop s at))
unfolding lent_loop lent_part part_fields part_texts with_ids loop
loop_is s at = refl
