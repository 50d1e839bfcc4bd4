-- What stands before the loops, asked of a table's entries, which have the IDs of their fields.
use Rattle.std.specs.Prelude.{ℕ, suc, List, [], ◌∷◌, eqb}
use Rattle.cells.specs.Bytes.{pick}
use Rattle.writing.specs.declared.entries.Entry.{Entry}
use Rattle.parts.specs.Loops.{part_id}

unfoldable pub others_among : List Entry → ℕ
others_among [] = 0
others_among (e ∷ es) = pick (eqb e.id part_id) 0 (suc (others_among es))
