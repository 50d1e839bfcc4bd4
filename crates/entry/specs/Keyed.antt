-- A line's key, given by its fields (RULES 6.1).
use Rattle.std.specs.Prelude.{ℕ, List, [], ◌∷◌}
use Rattle.cells.specs.Bytes.{joined}
use Rattle.entry.specs.declared.line_key.LineKey.{LineKey}

-- the fields in their order in the line
abbrev pub fields_of : LineKey → List (List ℕ)
fields_of k = k.school.now ∷ k.school_qualifier.now ∷ k.supplier.now ∷ k.supplier_qualifier.now ∷ k.reference.now ∷ []

-- the key as the bytes of them all
abbrev pub keyed : LineKey → List ℕ
keyed k = joined (fields_of k)
