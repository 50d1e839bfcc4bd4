-- How long the text of fields is, and of fields with others behind them.
use mathlib.Core.Path.{◌≡◌, refl, sym}
use mathlib.Core.List.{List, [], ◌∷◌, ◌++◌, append_assoc}
use Prim.Native.Nat.{ℕ, ◌+◌}
use native.Mathlib.Nat.{zero-add}
use native.Mathlib.Omega.{arith}
use lib.ListN.{length, length-append}
use Rattle.record.specs.Fields.{Optional, head_width}
use Rattle.writing.specs.Digits.{digits_of}
use Rattle.writing.specs.Write.{field_text}
use Rattle.writing.proofs.Decimals.{digits_length}
use Rattle.lent_parts.specs.Faults.{fields_text}

-- a field has five bytes before its content
abbrev pub widths : List Optional → ℕ
widths [] = 0
widths (f ∷ fs) = head_width + length f.content + widths fs

-- so the text of fields is as long as this
pub text_width : (fs : List Optional) → length (fields_text fs) ≡ widths fs
unfolding fields_text field_text
text_width [] = refl
text_width (f ∷ fs) =
    let a = length-append (42 ∷ digits_of 4 f.id ++ f.content) (fields_text fs) in
    let b = length-append (digits_of 4 f.id) f.content in
    let d = digits_length 4 f.id in
    let i = text_width fs in
    omega arith

-- fields and others are as long as both
pub widths_append : (xs ys : List Optional) → widths (xs ++ ys) ≡ widths xs + widths ys
widths_append [] ys = rw zero-add
widths_append (x ∷ xs) ys = let i = widths_append xs ys in omega arith

-- the text of fields and others is their texts, one behind the other
pub fields_append : (fs gs : List Optional) → fields_text (fs ++ gs) ≡ fields_text fs ++ fields_text gs
unfolding fields_text
fields_append [] gs = refl
fields_append (f ∷ fs) gs = rw (fields_append fs gs) (sym (append_assoc (field_text f) (fields_text fs) (fields_text gs)))

-- and so long
pub fields_length : (fs gs : List Optional) → length (fields_text (fs ++ gs)) ≡ length (fields_text fs) + length (fields_text gs)
fields_length fs gs = rw (fields_append fs gs) (length-append (fields_text fs) (fields_text gs))
