-- The loop of optional fields that a part of a bundle is, as data, and the loops in a list of fields (RULES 2.5).
use Rattle.std.specs.Prelude.{ℕ, zero, suc, ◌/◌, ◌%◌, Bool, true, false, ◌&&◌, List, [], ◌∷◌, eqb, length, take, drop, get_or}
use Rattle.std.proofs.Math.Seq.{slice}
use Rattle.cells.specs.Bytes.{pick, bytes, same}
use Rattle.rules.specs.Rule.{keeps}
use Rattle.rules.specs.declared.rule.Texts.TheVariants.{NetPrice, ListPrice}
use Rattle.rules.specs.declared.rule.Rule.{Rule}
use Rattle.rules.specs.declared.rule.Rule.TheVariants.{Free, OneOf}
use Rattle.record.specs.Layout.{kind_width}
use Rattle.record.specs.Fields.{Optional}

-- where the tax mark of a delivery stands, and the mark of a bundle, 6
abbrev pub tax_place : ℕ
tax_place = 107

abbrev pub bundle_mark : ℕ
bundle_mark = 54

-- an L101 with tax mark 6
unfoldable pub is_bundle : List ℕ → Bool
is_bundle s = same (slice 0 kind_width s) (bytes "L101") && eqb (get_or s tax_place 0) bundle_mark

-- a field of a loop: its ID, and what the loop asks of its content beside the table of contents
infix 70 ◌asks◌
pub record Member : Type 0 where
  pub id : ℕ
  pub rule : Rule

abbrev pub ◌asks◌ : ℕ → Rule → Member
i asks r = record { id = i; rule = r }

-- the ID that a loop begins with
abbrev pub part_id : ℕ
part_id = 1019

unfoldable pub loop : List Member
loop =
    part_id asks Free  -- tax mark
    ∷ 1029 asks Free  -- net price: amount, qualifier, currency
    ∷ 1030 asks OneOf NetPrice
    ∷ 1032 asks Free
    ∷ 1029 asks Free  -- list price: amount, qualifier, currency
    ∷ 1030 asks OneOf ListPrice
    ∷ 1032 asks Free
    ∷ 1101 asks Free  -- article and its qualifier
    ∷ 1102 asks Free
    ∷ 1151 asks Free  -- medium
    ∷ []

-- how many fields a loop has
abbrev pub loop_fields : ℕ
loop_fields = 10

-- the most parts of a bundle
abbrev pub most_parts : ℕ
most_parts = 8

-- stands past the end of a loop
abbrev pub no_member : Member
no_member = 0 asks Free

-- a field is the member of a loop
unfoldable pub is_member : Member → Optional → Bool
is_member m f = eqb f.id m.id && keeps m.rule [] f.content

-- the fields in front are the members, one after the other
unfoldable pub is_loop : List Member → List Optional → Bool
is_loop [] fs = true
is_loop (m ∷ ms) [] = false
is_loop (m ∷ ms) (f ∷ fs) = is_member m f && is_loop ms fs

-- the fields in front are n loops
unfoldable pub are_loops : ℕ → List Optional → Bool
are_loops zero fs = true
are_loops (suc n) fs = is_loop loop (take loop_fields fs) && are_loops n (drop loop_fields fs)

-- how many fields stand before the first that a loop may begin with
unfoldable pub others_in : List Optional → ℕ
others_in [] = 0
others_in (f ∷ fs) = pick (eqb f.id part_id) 0 (suc (others_in fs))

-- the fields from there on
unfoldable pub loops_of : List Optional → List Optional
loops_of fs = drop (others_in fs) fs

-- how many loops so many fields are, where they are whole loops
abbrev pub loop_count : List Optional → ℕ
loop_count fs = length fs / loop_fields

-- whole loops and nothing else
unfoldable pub whole_loops : List Optional → Bool
whole_loops fs = eqb (length fs % loop_fields) 0 && are_loops (loop_count fs) fs
