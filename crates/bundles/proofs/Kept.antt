-- Fields whose contents are kept and of allowed bytes: one by one, and those of a loop by their index in it.
use Rattle.std.specs.Prelude.{Some, Option}
use mathlib.Core.Path.{◌≡◌}
use mathlib.Core.Bool.{true, not, ◌&&◌}
use mathlib.Core.List.{List, [], ◌∷◌}
use Prim.Native.Nat.{ℕ, zero, suc, ◌<◌}
use native.Mathlib.Nat.{not-suc-le-zero}
use native.Mathlib.Omega.{arith}
use borrow.Author.Tests.{eqb-true}
use lib.Dec.{eqb}
use lib.ListN.{length, take, drop, get_or}
use Rattle.cells.specs.Bytes.{all, any}
use Rattle.cells.proofs.Bools.{and_left, and_right}
use Rattle.signs.specs.Class.{barred, belongs}
use Rattle.rules.specs.Rule.{keeps}
use Rattle.signs.specs.declared.Class.TheVariants.{Allowed}
use Rattle.record.specs.Contents.{content_rule, guarded, content_kept}
use Rattle.record.specs.Fields.{Optional}
use Rattle.record.specs.declared.layout.Kind.{Kind}
use Rattle.roundtrip.specs.Record.{optional_kept}
use Rattle.roundtrip.proofs.Texts.{contents_allowed}
use Rattle.roundtrip.proofs.OptionalKept.{first_kept}
use Rattle.parts.specs.Loops.{Member, loop, loop_fields, no_member, is_member, is_loop}
use Rattle.parts.specs.Part.{no_optional, text_of}

-- a content keeps the rule of its ID, and its bytes are allowed
pub record Sound (f : Optional) : Type 0 where
  pub rule : keeps (content_rule f.id) [] f.content ≡ true
  pub allowed : all (belongs Allowed) f.content ≡ true

-- so each field of a list
abbrev pub AllSound : List Optional → Type 0
AllSound [] = Unit
AllSound (f ∷ fs) = Sound f × AllSound fs

-- the optional fields of a record are so
pub record_sound : (k : Kind) (before : Option ℕ) (fs : List Optional) → optional_kept k before fs ≡ true → contents_allowed fs ≡ true → AllSound fs
unfolding contents_allowed content_kept
record_sound k before [] e a = tt
record_sound k before (f ∷ fs) e a =
    let one = first_kept k before f fs e in (
      record { rule = and_right (not (guarded k f.id && any barred f.content)) (keeps (content_rule f.id) [] f.content) one.content; allowed = and_left (all (belongs Allowed) f.content) (contents_allowed fs) a },
      record_sound k (Some f.id) fs one.others (and_right (all (belongs Allowed) f.content) (contents_allowed fs) a),
    )

-- and so are the first of them, and the others
pub sound_take : (n : ℕ) (fs : List Optional) → AllSound fs → AllSound (take n fs)
sound_take zero fs s = tt
sound_take (suc n) [] s = tt
sound_take (suc n) (f ∷ fs) s = (s.0, sound_take n fs s.1)

pub sound_drop : (n : ℕ) (fs : List Optional) → AllSound fs → AllSound (drop n fs)
sound_drop zero fs s = s
sound_drop (suc n) [] s = tt
sound_drop (suc n) (f ∷ fs) s = sound_drop n fs s.1

sound_at : (fs : List Optional) (i : ℕ) → i < length fs → AllSound fs → Sound (get_or fs i no_optional)
sound_at [] i h s = absurd (not-suc-le-zero h)
sound_at (f ∷ fs) zero h s = s.0
sound_at (f ∷ fs) (suc i) h s = sound_at fs i (omega arith) s.1

-- a field of a loop has the ID of its member
id_at : (ms : List Member) (fs : List Optional) (i : ℕ) → i < length ms → is_loop ms fs ≡ true → (i < length fs) × ((get_or fs i no_optional).id ≡ (get_or ms i no_member).id)
unfolding is_loop is_member
id_at [] fs i h e = absurd (not-suc-le-zero h)
id_at (m ∷ ms) [] i h e = let z : ◌≡◌ {A = ℕ} 0 1 = cc in absurd (omega arith)
id_at (m ∷ ms) (f ∷ fs) zero h e =
    (omega arith, eqb-true f.id m.id (and_left (eqb f.id m.id) _ (and_left (eqb f.id m.id && keeps m.rule [] f.content) _ e)))
id_at (m ∷ ms) (f ∷ fs) (suc i) h e =
    let r = id_at ms fs i (omega arith) (and_right (eqb f.id m.id && keeps m.rule [] f.content) _ e) in
    (omega (arith, r.0), r.1)

-- so its content keeps the rule of that ID
module _ (fs : List Optional) (e : is_loop loop fs ≡ true) (s : AllSound fs) (i : ℕ) (h : i < loop_fields) where
  at : (i < length fs) × ((get_or fs i no_optional).id ≡ (get_or loop i no_member).id)
  unfolding loop
  at = id_at loop fs i h e

  pub rule_at : keeps (content_rule (get_or loop i no_member).id) [] (text_of i fs) ≡ true
  unfolding text_of
  rule_at = rw (← at.1) (sound_at fs i at.0 s).rule
