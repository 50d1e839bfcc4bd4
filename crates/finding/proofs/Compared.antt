-- A line, or a slip, compared with a key: field by field, and by bytes that tell most keys apart.
use mathlib.Core.Path.{◌≡◌, ◌∙◌, ap, ap₂, sym, refl}
use mathlib.Core.Bool.{Bool, true, false, ◌&&◌}
use mathlib.Core.List.{List, [], ◌∷◌, ◌++◌, append-nil}
use Prim.Native.Nat.{ℕ, ◌+◌, ◌*◌, ◌^◌, ◌≤◌, ◌<◌}
use native.Mathlib.Omega.{arith}
use borrow.Author.Tests.{ne_eqb}
use lib.ListN.{length}
use lib.Seq.{slice}
use Rattle.cells.specs.Bytes.{same, joined}
use Rattle.cells.specs.Little.{le_bytes}
use Rattle.cells.proofs.Lists.{other_part, same_parts}
use Rattle.cells.proofs.Numbers.{words_same}
use Rattle.cells.proofs.Within.{part_within}
use Rattle.entry.specs.Stored.{line_width, key_width, slip_width, slip_key_width, key_at, key_is, slip_key_at, slip_is}
use Rattle.entry.specs.Keyed.{fields_of, keyed}
use Rattle.entry.specs.declared.line_key.LineKey.{LineKey}
use Rattle.book.specs.Asked.{key_widths}
use Rattle.finding.proofs.Wide.{Wide, field_in, line_key_wide}

-- a part of a list in which eight bytes are others than in a key is not the key
pub told_apart : (s key : List ℕ) (at w place x y : ℕ) → place + 8 ≤ w → le_bytes 8 x ≡ slice (at + place) (at + place + 8) s → x < 256 ^ 8
    → le_bytes 8 y ≡ slice place (place + 8) key → y < 256 ^ 8 → (x ≡ y → ⊥) → same (slice at (at + w) s) key ≡ false
told_apart s key at w place x y h e k f l d =
    let p : at + (place + 8) ≡ at + place + 8 = omega arith in
    other_part (slice at (at + w) s) key place (place + 8)
    (ap₂ same (part_within s at (at + w) place (place + 8) (omega arith) ∙ ap (λ (n : ℕ). slice (at + place) n s) p ∙ sym e) (sym f)
    ∙ words_same 8 x y k l
    ∙ ne_eqb x y d)

-- so a slip is not one with a key
pub slip_other : (slips key : List ℕ) (j x y : ℕ) → x < 256 ^ 8 → y < 256 ^ 8 → (x ≡ y → ⊥) → le_bytes 8 x ≡ slice (slip_width * j + 38) (slip_width * j + 38 + 8) slips
    → le_bytes 8 y ≡ slice 38 46 key → slip_is slips key j ≡ false
unfolding slip_is slip_key_at
slip_other slips key j x y k l d e f = told_apart slips key (slip_width * j) slip_key_width 38 x y (omega arith) e k f l d

-- three tests taken together, the first two first or the last two
and_assoc : (a b c : Bool) → a && (b && c) ≡ (a && b) && c
and_assoc true b c = refl
and_assoc false b c = refl

-- a part is a party and what follows it just where the address, the qualifier and the rest are there
party_then : (s : List ℕ) (at m : ℕ) (address qualifier rest : List ℕ) → at + 12 ≤ length s → length address ≡ 10 → length qualifier ≡ 2
    → same (slice at (at + (12 + m)) s) (address ++ (qualifier ++ rest))
    ≡ (same (slice at (at + 10) s) address && same (slice (at + 10) (at + 12) s) qualifier) && same (slice (at + 12) (at + 12 + m) s) rest
party_then s at m address qualifier rest h e f =
    let whole : at + (12 + m) ≡ at + (10 + (2 + m)) = omega arith in
    let end : at + 10 + 2 ≡ at + 12 = omega arith in
    ap (λ (n : ℕ). same (slice at n s) (address ++ (qualifier ++ rest))) whole
    ∙ same_parts s at 10 (2 + m) address (qualifier ++ rest) (omega arith) e
    ∙ rw (same_parts s (at + 10) 2 m qualifier rest (omega arith) f, end)
    (and_assoc (same (slice at (at + 10) s) address) (same (slice (at + 10) (at + 12) s) qualifier) (same (slice (at + 12) (at + 12 + m) s) rest))

-- a party stands at a place
abbrev pub party_at : List ℕ → ℕ → List ℕ → List ℕ → Bool
party_at lines at address qualifier = same (slice at (at + 10) lines) address && same (slice (at + 10) (at + 12) lines) qualifier

-- the line with an index has a key just where its fields stand there
pub key_fields_law : (lines : List ℕ) (i : ℕ) (a b c d e : List ℕ) → line_width * i + line_width ≤ length lines → Wide a b c d e
    → key_is lines (joined (a ∷ b ∷ c ∷ d ∷ e ∷ [])) i
    ≡ party_at lines (line_width * i) a b && (party_at lines (line_width * i + 12) c d && same (slice (line_width * i + 24) (line_width * i + 24 + 10) lines) e)
unfolding key_is key_at joined
key_fields_law lines i a b c d e h w =
    let p : ℕ = line_width * i in
    let second : p + 12 + 12 ≡ p + 24 = omega arith in
    party_then lines p 22 a b _ (omega arith) w.school_wide w.school_qualified
    ∙ rw (party_then lines (p + 12) 10 c d (e ++ []) (omega arith) w.supplier_wide w.supplier_qualified, second, append-nil e) refl

-- so it is for the key that the code is given, whose fields have their lengths
pub key_stands : (lines : List ℕ) (i : ℕ) (k : LineKey) → line_width * i + line_width ≤ length lines
    → key_is lines (keyed k) i
    ≡ party_at lines (line_width * i) k.school.now k.school_qualifier.now
    && (party_at lines (line_width * i + 12) k.supplier.now k.supplier_qualifier.now && same (slice (line_width * i + 24) (line_width * i + 24 + 10) lines) k.reference.now)
key_stands lines i k h =
    key_fields_law lines i _ _ _ _ _ h
    (record {
      school_wide = k.school_wide;
      school_qualified = k.school_qualified;
      supplier_wide = k.supplier_wide;
      supplier_qualified = k.supplier_qualified;
      reference_wide = k.reference_wide;
    })

-- the bytes that tell most keys apart, in the key and in its fields
module _ (k : LineKey) where
  school_in : slice 0 8 (keyed k) ≡ slice 0 8 k.school.now
  school_in = field_in key_widths (fields_of k) 0 0 8 (line_key_wide k) (omega arith) (omega arith)

  reference_in : slice 26 34 (keyed k) ≡ slice 2 10 k.reference.now
  reference_in = field_in key_widths (fields_of k) 4 2 10 (line_key_wide k) (omega arith) (omega arith)

-- where eight bytes of a key are others, the line has another key
module _ (lines : List ℕ) (i x y : ℕ) (k : LineKey) where
  pub school_other : x < 256 ^ 8 → y < 256 ^ 8 → (x ≡ y → ⊥) → le_bytes 8 x ≡ slice (line_width * i + 0) (line_width * i + 0 + 8) lines → le_bytes 8 y ≡ slice 0 8 k.school.now → key_is lines (keyed k) i ≡ false
  unfolding key_is key_at
  school_other h g d e f = told_apart lines (keyed k) (line_width * i) key_width 0 x y (omega arith) e h (f ∙ sym (school_in k)) g d

  pub reference_other : x < 256 ^ 8 → y < 256 ^ 8 → (x ≡ y → ⊥) → le_bytes 8 x ≡ slice (line_width * i + 26) (line_width * i + 26 + 8) lines → le_bytes 8 y ≡ slice 2 10 k.reference.now → key_is lines (keyed k) i ≡ false
  unfolding key_is key_at
  reference_other h g d e f = told_apart lines (keyed k) (line_width * i) key_width 26 x y (omega arith) e h (f ∙ sym (reference_in k)) g d
