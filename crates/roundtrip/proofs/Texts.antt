-- Optional fields as they are written, and what reading finds there.
use mathlib.Core.Path.{◌≡◌, ◌∙◌, ap, refl}
use mathlib.Core.Bool.{Bool, true, ◌&&◌}
use mathlib.Core.List.{List, [], ◌∷◌, ◌++◌, append_assoc}
use Prim.Native.Nat.{ℕ, zero, suc, ◌+◌, ◌^◌, ◌≤◌, ◌<◌}
use native.Mathlib.Omega.{arith}
use borrow.Author.Tests.{ne_eqb}
use lib.ListN.{length, drop, length-append}
use lib.Seq.{slice, take_at, drop_at, drop-drop, take-append_seam, drop-append_seam}
use Rattle.cells.specs.Bytes.{bytes, all, run}
use Rattle.cells.proofs.Lists.{all_weaker, all_append}
use Rattle.signs.specs.Class.{belongs, all_of, of_class}
use Rattle.rules.specs.Number.{number_from}
use Rattle.signs.proofs.Classes.{digit_allowed}
use Rattle.signs.specs.declared.Class.TheVariants.{Allowed, Digit}
use Rattle.record.specs.Fields.{last_id, head_width, head_of, id_in, id_of, not_star, content_width, content_of, field_width, after_field, at_field, on_head, walk, Optional, fields_of}
use Rattle.std.specs.Prelude.{Ok, Some}
use Rattle.record.specs.Verdicts.{Verdict}
use Rattle.writing.specs.Digits.{digits_of}
use Rattle.writing.specs.Write.{field_text, optional_text}
use Rattle.writing.proofs.Decimals.{digits_length}
use Rattle.roundtrip.proofs.Sequences.{run_append}
use Rattle.roundtrip.proofs.DigitsBack.{digits_all, number_of_digits}

-- a field that can be told from what follows it: an ID below 9999, and no star in its content
pub record Writable (f : Optional) : Type 0 where
  pub below : f.id < last_id
  pub plain : all not_star f.content ≡ true

-- so each field of a list
abbrev pub AllWritable : List Optional → Type 0
AllWritable [] = Unit
AllWritable (f ∷ fs) = Writable f × AllWritable fs

-- a field in front of what follows it
module _ (f : Optional) (rest : List ℕ) where
  -- its star, its ID's digits, its content, and what follows
  shape : field_text f ++ rest ≡ 42 ∷ (digits_of 4 f.id ++ (f.content ++ rest))
  unfolding field_text
  shape = ap (λ (l : List ℕ). 42 ∷ l) (append_assoc (digits_of 4 f.id) f.content rest)

  -- the digits of its ID
  pub text_digits : slice 1 head_width (field_text f ++ rest) ≡ digits_of 4 f.id
  text_digits = rw shape (take_at (digits_of 4 f.id) (f.content ++ rest) 4 (digits_length 4 f.id))

  -- what stands behind them
  pub text_behind : drop head_width (field_text f ++ rest) ≡ f.content ++ rest
  text_behind = rw shape (drop_at (digits_of 4 f.id) (f.content ++ rest) 4 (digits_length 4 f.id))

  -- its head is its ID
  pub text_head : f.id < 10 ^ 4 → head_of (field_text f ++ rest) ≡ Some f.id
  unfolding head_of of_class
  text_head h = rw (text_digits, digits_length 4 f.id, digits_all 4 f.id, number_of_digits 4 f.id h, shape)

  -- a field that may be written
  module _ (w : Writable f) where
    pub text_id : id_of (field_text f ++ rest) ≡ f.id
    unfolding id_of id_in
    text_id = rw (text_head (omega (arith, w.below)))

    -- in front of a star or of nothing
    module _ (e : run not_star rest ≡ 0) where
      pub text_width : content_width (field_text f ++ rest) ≡ length f.content
      unfolding content_width
      text_width = rw (text_behind, run_append not_star f.content rest w.plain, e) (omega arith)

      -- its content
      pub text_content : content_of (field_text f ++ rest) ≡ f.content
      unfolding content_of
      text_content = rw (text_width, text_behind) (take-append_seam f.content rest)

      -- what comes after it
      pub text_after : after_field (field_text f ++ rest) ≡ rest
      unfolding after_field field_width
      text_after =
          rw (text_width, ← drop-drop (length f.content) head_width (field_text f ++ rest), text_behind) (drop-append_seam f.content rest)

-- the optional part begins with a star
pub text_starts : (fs : List Optional) → run not_star (optional_text fs) ≡ 0
unfolding optional_text field_text run
text_starts [] = refl
text_starts (f ∷ fs) = refl

-- its last field has five bytes
pub text_least : (fs : List Optional) → head_width ≤ length (optional_text fs)
unfolding optional_text
text_least [] = omega arith
text_least (f ∷ fs) = omega (arith, text_least fs, length-append (field_text f) (optional_text fs))

-- each byte of a field is allowed just where each byte of its content is
field_allowed : (f : Optional) → all (belongs Allowed) (field_text f) ≡ all (belongs Allowed) f.content
unfolding field_text all all_of belongs
field_allowed f =
    let d = all_weaker (belongs Digit) (belongs Allowed) digit_allowed (digits_of 4 f.id) (digits_all 4 f.id) in
    rw (all_append, d)

-- each byte of the contents of fields is allowed
unfoldable pub contents_allowed : List Optional → Bool
contents_allowed [] = true
contents_allowed (f ∷ fs) = all (belongs Allowed) f.content && contents_allowed fs

-- just where each byte of the optional part is
pub text_allowed : (fs : List Optional) → all (belongs Allowed) (optional_text fs) ≡ contents_allowed fs
unfolding optional_text contents_allowed all belongs
text_allowed [] = refl
text_allowed (f ∷ fs) = rw (all_append, field_allowed f, text_allowed fs)

-- what stands at its end is the last field
last_head : head_of (bytes "*9999") ≡ Some last_id
unfolding head_of of_class all_of all belongs number_from
last_head = refl

pub last_id_law : id_of (bytes "*9999") ≡ last_id
unfolding id_of id_in
last_id_law = rw last_head

-- the walk ends at the last field
at_last : (n p : ℕ) (more : Verdict) → at_field n p (bytes "*9999") more ≡ Ok n
unfolding at_field on_head
at_last n p more = rw last_head

-- and passes another
at_other : (n p : ℕ) (f : Optional) (rest : List ℕ) (more : Verdict) → Writable f → at_field n p (field_text f ++ rest) more ≡ more
unfolding at_field on_head
at_other n p f rest more w =
    let b = w.below in
    let l : length (field_text f ++ rest) ≡ suc (length (digits_of 4 f.id ++ (f.content ++ rest))) = ap length (shape f rest) in
    rw (ne_eqb (length (field_text f ++ rest)) 0 (λ e. omega arith), text_head f rest (omega arith), ne_eqb f.id last_id (λ e. omega arith))

-- so it fits, where there is room for all fields
pub text_walked : (fs : List Optional) → AllWritable fs → (room n p : ℕ) → length fs ≤ room → walk room n p (optional_text fs) ≡ Ok (n + length fs)
unfolding optional_text walk
text_walked [] w zero n p h = at_last n p _ ∙ ap Ok (omega arith)
text_walked [] w (suc room) n p h = at_last n p _ ∙ ap Ok (omega arith)
text_walked (f ∷ fs) w zero n p h = absurd (omega arith)
text_walked (f ∷ fs) w (suc room) n p h =
    let t = field_text f ++ optional_text fs in
    let e : n + 1 + length fs ≡ n + suc (length fs) = omega arith in
    at_other n p f (optional_text fs) _ w.0
    ∙ rw (text_after f (optional_text fs) w.0 (text_starts fs), ← e) (text_walked fs w.1 room (n + 1) (p + field_width t) (omega arith))

-- the fields read are the fields written
pub text_fields : (fs : List Optional) → AllWritable fs → fields_of (length fs) (optional_text fs) ≡ fs
unfolding optional_text fields_of
text_fields [] w = refl
text_fields (f ∷ fs) w =
    let e = text_starts fs in
    rw (text_id f (optional_text fs) w.0, text_content f (optional_text fs) w.0 e, text_after f (optional_text fs) w.0 e, text_fields fs w.1)
