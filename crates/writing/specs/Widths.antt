-- How long a record becomes, reckoned from its entries without its bytes.
use Rattle.std.specs.Prelude.{ℕ, suc, ◌+◌, List, [], ◌∷◌, Bool, true, ◌&&◌, ltb}
use Rattle.cells.specs.Bytes.{pick}
use Rattle.record.specs.Fields.{head_width}
use Rattle.writing.specs.Write.{inside}
use Rattle.writing.specs.declared.entries.Entry.{Entry}

-- n bytes, then a field for each entry, then `*9999`
unfoldable pub width_after : ℕ → List Entry → ℕ
width_after n [] = n + head_width
width_after n (e ∷ es) = width_after (n + head_width + e.width) es

-- a number, or one more than the most where it is above that
unfoldable pub capped : ℕ → ℕ → ℕ
capped most n = pick (ltb most n) (suc most) n

-- all contents stand inside the lent bytes
unfoldable pub all_inside : List ℕ → List Entry → Bool
all_inside contents [] = true
all_inside contents (e ∷ es) = inside contents e && all_inside contents es
