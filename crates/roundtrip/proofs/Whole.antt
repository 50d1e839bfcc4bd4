-- A fixed part and optional fields that make a record, by what reading and writing ask of them: between the parts of a record and its bytes.
use mathlib.Core.Path.{◌≡◌, ◌∙◌, ap, sym, refl, subst}
use mathlib.Core.Bool.{true}
use mathlib.Core.List.{List}
use Prim.Native.Nat.{ℕ, ◌≤◌}
use native.Mathlib.Omega.{arith}
use lib.ListN.{length}
use Rattle.cells.specs.Bytes.{all}
use Rattle.signs.specs.Class.{belongs}
use Rattle.signs.specs.declared.Class.TheVariants.{Allowed}
use Rattle.record.specs.Layout.{most_bytes, most_fields, layout, fixed_width, kind_of, first_broken}
use Rattle.record.specs.Fields.{Optional}
use Rattle.record.specs.declared.layout.Kind.{Kind}
use Rattle.std.specs.Prelude.{Some, None}
use Rattle.writing.specs.Write.{record_text}
use Rattle.roundtrip.specs.Record.{Parts, fixed_part, optional_kept, MakesRecord, Makes}
use Rattle.roundtrip.proofs.FixedFields.{fields_from}
use Rattle.roundtrip.proofs.FixedKept.{kept_length, kept_whole, fields_whole, fields_kept_law}

-- a fixed part of a kind and optional fields that make a record
pub record Whole (k : Kind) (fixed : List ℕ) (fs : List Optional) : Type 0 where
  pub named : kind_of fixed ≡ Some k
  pub wide : length fixed ≡ fixed_width k
  pub unbroken : first_broken (layout k) fixed ≡ length (layout k)
  pub kept : optional_kept k None fs ≡ true
  pub few : length fs ≤ most_fields
  pub short : length (record_text fixed fs) ≤ most_bytes
  pub allowed : all (belongs Allowed) (record_text fixed fs) ≡ true

-- parts that make a record are whole
pub parts_whole : (r : Parts) → MakesRecord r → Whole r.kind (fixed_part r) r.optional
unfolding fixed_width
parts_whole r m = record {
  named = m.named;
  wide = kept_length (layout r.kind) r.fixed m.fixed_is_kept;
  unbroken = kept_whole (layout r.kind) r.fixed m.fixed_is_kept;
  kept = m.optional_is_kept;
  few = omega arith;
  short = omega arith;
  allowed = m.allowed;
}

module _ (fixed : List ℕ) (fs : List Optional) where
  -- so are a fixed part and optional fields that some parts make
  pub made_whole : (m : Makes fixed fs) → Whole m.parts.kind fixed fs
  made_whole m =
      subst (λ (x : List ℕ). Whole m.parts.kind x fs) m.same_fixed
      (subst (Whole m.parts.kind (fixed_part m.parts)) m.same_optional (parts_whole m.parts m.makes))

  -- and what is whole some parts make: the fields of the fixed part by its layout
  pub whole_made : (k : Kind) → Whole k fixed fs → Makes fixed fs
  whole_made k w =
      let same : fixed ≡ _ = sym (fields_whole k fixed w.wide) in
      record {
        parts = record { kind = k; fixed = fields_from (layout k) 0 fixed; optional = fs };
        makes = record {
          named = ap kind_of (sym same) ∙ w.named;
          fixed_is_kept = fields_kept_law k fixed w.wide w.unbroken;
          optional_is_kept = w.kept;
          few = w.few;
          short = subst (λ (x : List ℕ). length (record_text x fs) ≤ most_bytes) same w.short;
          allowed = ap (λ (x : List ℕ). all (belongs Allowed) (record_text x fs)) (sym same) ∙ w.allowed;
        };
        same_fixed = sym same;
        same_optional = refl;
      }
