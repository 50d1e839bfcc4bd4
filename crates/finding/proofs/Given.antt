-- A key as references to its fields, as the code is given it in a `LineKey`.
use mathlib.Core.Path.{◌≡◌, ◌∙◌, ap, sym, refl}
use mathlib.Core.Bool.{true, false, ◌&&◌}
use mathlib.Core.List.{List, [], ◌∷◌, map}
use Prim.Native.Nat.{ℕ, zero, suc, ◌+◌, ◌*◌, ◌^◌, ◌≤◌, ◌<◌}
use native.Mathlib.Omega.{arith}
use denote.Ref.{Bor}
use lib.ListN.{length, get_or}
use lib.Seq.{slice}
use Rattle.cells.specs.Bytes.{same, joined}
use Rattle.cells.specs.Little.{le_bytes}
use Rattle.entry.specs.Stored.{line_width, key_width, key_at, key_is}
use Rattle.entry.specs.Keyed.{keyed}
use Rattle.entry.specs.declared.line_key.LineKey.{LineKey}
use Rattle.book.specs.Asked.{key_widths, are_wide}
use Rattle.finding.proofs.Wide.{Wide, before, key_wide, field_in, five, line_key_wide}
use Rattle.finding.proofs.Compared.{told_apart, party_at, key_fields_law}

-- what lies behind the reference at an index
abbrev pub field_of : List (Bor (List ℕ)) → ℕ → List ℕ
field_of l k = (get_or l k (record { ref_ptr = (0, 0); now = [] })).now

behind : (l : List (Bor (List ℕ))) (k : ℕ) → get_or (map (λ x. x.now) l) k [] ≡ field_of l k
behind [] k = refl
behind (r ∷ rs) zero = refl
behind (r ∷ rs) (suc k) = behind rs k

module _ (l : List (Bor (List ℕ))) (h : are_wide key_widths (map (λ x. x.now) l) ≡ true) where
  -- the five fields, each of its length
  given_five : map (λ x. x.now) l ≡ field_of l 0 ∷ field_of l 1 ∷ field_of l 2 ∷ field_of l 3 ∷ field_of l 4 ∷ []
  given_five = five (map (λ x. x.now) l) h ∙ rw (behind l 0, behind l 1, behind l 2, behind l 3, behind l 4) refl

  pub given_wide : Wide (field_of l 0) (field_of l 1) (field_of l 2) (field_of l 3) (field_of l 4)
  given_wide = key_wide _ _ _ _ _ (sym (ap (are_wide key_widths) given_five) ∙ h)

  -- a line has the key just where the fields stand there
  module _ (lines : List ℕ) (i : ℕ) where
    pub given_key : line_width * i + line_width ≤ length lines
        → key_is lines (joined (map (λ x. x.now) l)) i
        ≡ party_at lines (line_width * i) (field_of l 0) (field_of l 1)
        && (party_at lines (line_width * i + 12) (field_of l 2) (field_of l 3) && same (slice (line_width * i + 24) (line_width * i + 24 + 10) lines) (field_of l 4))
    given_key room =
        ap (λ (fs : List (List ℕ)). key_is lines (joined fs) i) given_five ∙ key_fields_law lines i _ _ _ _ _ room given_wide

    -- and not where eight bytes of a field are others there
    pub field_other : (f from x y : ℕ) → f < 5 → from + 8 ≤ get_or key_widths f 0 → before key_widths f + from + 8 ≤ key_width → x < 256 ^ 8 → y < 256 ^ 8 → (x ≡ y → ⊥)
        → le_bytes 8 x ≡ slice (line_width * i + (before key_widths f + from)) (line_width * i + (before key_widths f + from) + 8) lines → le_bytes 8 y ≡ slice from (from + 8) (field_of l f)
        → key_is lines (joined (map (λ x. x.now) l)) i ≡ false
    unfolding key_is key_at
    field_other f from x y few room inside k m d e g =
        let place : ℕ = before key_widths f + from in
        let end : before key_widths f + (from + 8) ≡ place + 8 = omega arith in
        let stands : slice from (from + 8) (field_of l f) ≡ slice place (place + 8) (joined (map (λ x. x.now) l)) =
        ap (slice from (from + 8)) (sym (behind l f)) ∙ sym (field_in key_widths (map (λ x. x.now) l) f from (from + 8) h few room) ∙ ap (λ (n : ℕ). slice place n (joined (map (λ x. x.now) l))) end in
        told_apart lines (joined (map (λ x. x.now) l)) (line_width * i) key_width place x y inside e k (g ∙ stands) m d

-- the references of a line's key
abbrev pub given : LineKey → List (Bor (List ℕ))
given k = k.school ∷ k.school_qualifier ∷ k.supplier ∷ k.supplier_qualifier ∷ k.reference ∷ []

-- a line does not have the key where eight bytes of one of its fields are others there
pub line_key_other : (k : LineKey) (lines : List ℕ) (i f from x y : ℕ) → f < 5 → from + 8 ≤ get_or key_widths f 0 → before key_widths f + from + 8 ≤ key_width → x < 256 ^ 8 → y < 256 ^ 8 → (x ≡ y → ⊥)
    → le_bytes 8 x ≡ slice (line_width * i + (before key_widths f + from)) (line_width * i + (before key_widths f + from) + 8) lines
    → le_bytes 8 y ≡ slice from (from + 8) (field_of (given k) f)
    → key_is lines (keyed k) i ≡ false
line_key_other k = field_other (given k) (line_key_wide k)
