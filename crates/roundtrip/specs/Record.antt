-- What a record is (RULES 2.1), said of its parts and without a walk over its bytes: a kind, the fields of a fixed part, and optional fields.
use Rattle.std.specs.Prelude.{ℕ, ◌*◌, ◌≤◌, ◌≡◌, Bool, true, false, ◌&&◌, List, [], ◌∷◌, eqb, ltb, length, take, Some, None, Option}
use Rattle.cells.specs.Bytes.{all, joined}
use Rattle.signs.specs.Class.{belongs}
use Rattle.rules.specs.Rule.{keeps}
use Rattle.signs.specs.declared.Class.TheVariants.{Allowed}
use Rattle.record.specs.Layout.{most_bytes, most_fields, layout, kind_of}
use Rattle.record.specs.Contents.{content_kept, group_kept}
use Rattle.record.specs.Fields.{last_id, not_star, Optional}
use Rattle.record.specs.Read.{entry_width}
use Rattle.record.specs.declared.layout.Field.{Field}
use Rattle.record.specs.declared.layout.Kind.{Kind}
use Rattle.writing.specs.Write.{entries, optional_of, record_text}
use Rattle.writing.specs.Widths.{all_inside}

-- the parts that a record is made of: its kind, the fields of its fixed part in order, and its optional fields in order
pub record Parts : Type 0 where
  pub kind : Kind
  pub fixed : List (List ℕ)
  pub optional : List Optional

-- the bytes of the fixed part, and of the whole: the optional fields follow, each a star, four digits and its content, then `*9999`
abbrev pub fixed_part : Parts → List ℕ
fixed_part r = joined r.fixed

abbrev pub text_of : Parts → List ℕ
text_of r = record_text (fixed_part r) r.optional

-- the width of what an article's rule asks beside the article: the qualifier after it
abbrev pub aside_width : ℕ
aside_width = 2

-- as many fields as the layout has, each of its length and keeping its rule
unfoldable pub fixed_kept : List Field → List (List ℕ) → Bool
fixed_kept [] [] = true
fixed_kept [] (p ∷ ps) = false
fixed_kept (f ∷ fs) [] = false
fixed_kept (f ∷ fs) (p ∷ ps) =
    eqb (length p) f.size && (keeps f.rule (take aside_width (joined ps)) p && fixed_kept fs ps)

-- the ID after a field: of the next one, or of the last field
abbrev pub id_after : List Optional → ℕ
id_after [] = last_id
id_after (f ∷ fs) = f.id

-- each optional field has an ID below 9999 and a content without a star, as the table has it, and keeps its group; before is the ID of the field before the first, where there is one
unfoldable pub optional_kept : Kind → Option ℕ → List Optional → Bool
optional_kept k before [] = true
optional_kept k before (f ∷ fs) =
    (ltb f.id last_id && all not_star f.content)
    && (content_kept k f.id f.content
    && (group_kept before f.id (id_after fs)
    && optional_kept k (Some f.id) fs))

-- the parts make a record: the fixed part names the kind and keeps its layout, the optional fields are kept and at most so many, the whole is at most so long, and every byte is allowed
pub record MakesRecord (r : Parts) : Type 0 where
  pub named : kind_of (fixed_part r) ≡ Some r.kind
  pub fixed_is_kept : fixed_kept (layout r.kind) r.fixed ≡ true
  pub optional_is_kept : optional_kept r.kind None r.optional ≡ true
  pub few : length r.optional ≤ most_fields
  pub short : length (text_of r) ≤ most_bytes
  pub allowed : all (belongs Allowed) (text_of r) ≡ true

-- some parts make these bytes as a record
pub record IsRecord (s : List ℕ) : Type 0 where
  pub parts : Parts
  pub makes : MakesRecord parts
  pub text : text_of parts ≡ s

-- some parts make a record with this fixed part and these optional fields
pub record Makes (fixed : List ℕ) (optional : List Optional) : Type 0 where
  pub parts : Parts
  pub makes : MakesRecord parts
  pub same_fixed : fixed_part parts ≡ fixed
  pub same_optional : parts.optional ≡ optional

-- what writing needs: the table has its entries, their contents stand inside the lent bytes, they make a record with the fixed part, and the output has room for it
pub record CanWrite (fixed table : List ℕ) (count : ℕ) (contents out : List ℕ) : Type 0 where
  pub listed : count * entry_width ≤ length table
  pub lent : all_inside contents (entries count table) ≡ true
  pub makes : Makes fixed (optional_of contents (entries count table))
  pub room : length (record_text fixed (optional_of contents (entries count table))) ≤ length out
