-- Fields stored one after the other.
use mathlib.Core.Path.{◌≡◌, ◌∙◌, refl}
use mathlib.Core.List.{List, [], ◌∷◌, ◌++◌}
use Prim.Native.Nat.{ℕ, ◌+◌}
use native.Mathlib.Omega.{arith}
use lib.ListN.{length, length-append}
use lib.Seq.{sets}
use Rattle.cells.proofs.Stores.{sets_append}
use Rattle.record.specs.Fields.{Optional, head_width}
use Rattle.writing.specs.Digits.{digits_of}
use Rattle.writing.specs.Write.{field_text}
use Rattle.writing.proofs.Decimals.{digits_length}
use Rattle.lent_parts.specs.Faults.{fields_text}
use Rattle.lent_parts.proofs.Widths.{text_width, fields_append}

-- a field has five bytes before its content
field_width : (f : Optional) → length (field_text f) ≡ head_width + length f.content
unfolding field_text
field_width f =
    let a = length-append (digits_of 4 f.id) f.content in
    let d = digits_length 4 f.id in
    omega arith

-- a field stored, and others behind it
pub stored_next : (l : List ℕ) (at : ℕ) (f : Optional) (fs : List Optional)
    → sets l at (fields_text (f ∷ fs)) ≡ sets (sets l at (field_text f)) (at + head_width + length f.content) (fields_text fs)
unfolding fields_text
stored_next l at f fs =
    let w = field_width f in
    let k : at + length (field_text f) ≡ at + head_width + length f.content = omega arith in
    sets_append l at (field_text f) (fields_text fs) ∙ rw k

-- or none
pub stored_none : (l : List ℕ) (at : ℕ) → sets l at (fields_text []) ≡ l
unfolding fields_text
stored_none l at = refl

pub ruleset fields_stored = (stored_next, stored_none, text_width)

-- fields stored, and others behind them
pub stored_append : (l : List ℕ) (at : ℕ) (fs gs : List Optional)
    → sets l at (fields_text (fs ++ gs)) ≡ sets (sets l at (fields_text fs)) (at + length (fields_text fs)) (fields_text gs)
stored_append l at fs gs = rw (fields_append fs gs) (sets_append l at (fields_text fs) (fields_text gs))
