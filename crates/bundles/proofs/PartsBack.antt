-- n loops and n parts, by induction on their number: the parts that loops say, stored and taken from the room again, have these loops as their fields; and the parts of a room are those that their fields say.
use mathlib.Core.Path.{◌≡◌, ◌∙◌, ap, ap₂, sym, refl}
use mathlib.Core.Bool.{true}
use mathlib.Core.List.{List, [], ◌∷◌, ◌++◌, append_assoc}
use Prim.Native.Nat.{ℕ, zero, suc, ◌+◌, ◌-◌, ◌*◌, ◌^◌, ◌≤◌, ◌<◌}
use native.Mathlib.Nat.{pow-le-pow_right}
use native.Mathlib.Omega.{arith}
use lib.Dec.{lit<}
use lib.ListN.{length, take, drop, get_or, replicate, length-take, length-drop, take-append-drop}
use lib.Seq.{take_all, take_at, drop_at, drop-drop, get_or-drop, length-take-le}
use Rattle.cells.proofs.Bools.{and_left, and_right}
use Rattle.rules.specs.Number.{number}
use Rattle.rules.specs.Rule.{keeps}
use Rattle.signs.specs.declared.Class.TheVariants.{Digit}
use Rattle.rules.specs.declared.rule.Rule.TheVariants.{Of}
use Rattle.record.specs.Contents.{contents, is_in, rule_in, content_rule}
use Rattle.record.specs.Fields.{Optional}
use Rattle.parts.specs.Loops.{loop, loop_fields, is_loop, are_loops}
use Rattle.parts.specs.Part.{most_digits, amount_width, article_width, qualifier_width, currency_width, fitted, text_of, price_from, article_from, part_of, parts_of, part_width, part_bytes, room_of, medium_at, is_medium, lent_part, lent_parts}
use Rattle.parts.specs.Fields.{part_fields, lent_loop, lent_fields}
use Rattle.parts.specs.declared.part.Part.{Part}
use Rattle.parts.proofs.Fits.{fitted_length}
use Rattle.parts.proofs.Lent.{loop_length}
use Rattle.bundles.proofs.Kept.{AllSound, sound_take, sound_drop, rule_at}
use Rattle.bundles.proofs.Contents.{of_most, of_digits, digits_small}
use Rattle.bundles.proofs.LoopBack.{loop_back}
use Rattle.bundles.proofs.PartBack.{PriceShaped, part_back, lent_shaped}
use Rattle.bundles.proofs.LentBack.{Stored, AllStored, part_stored, medium_there, entry_length, part_from}

-- the part that a loop says can be stored
module _ (fs : List Optional) where
  price_wide : (i : ℕ) → PriceShaped (price_from i fs)
  unfolding price_from
  price_wide i = record { qualifier = fitted_length qualifier_width _; currency = fitted_length currency_width _ }

  -- zeros stand behind its article
  zeros : (x : List ℕ) → length x ≤ article_width → fitted article_width (take (length x) (fitted article_width x)) ≡ fitted article_width x
  unfolding fitted
  zeros x h =
      let e : take (length x) (take article_width x ++ replicate (article_width - length x) 0) ≡ x =
      rw (take_all article_width x h) (take_at x (replicate (article_width - length x) 0) (length x) refl) in
      rw e

  -- fifteen digits spell a number of eight bytes
  amount_small : (c : List ℕ) → keeps (Of Digit 5 15) [] c ≡ true → number (take most_digits c) < 256 ^ amount_width
  amount_small c e =
      let m = of_most Digit 5 15 c e in
      let n = digits_small c (of_digits 5 15 c e) in
      let p : 10 ^ length c ≤ 10 ^ 15 = pow-le-pow_right (lit< tt) m in
      rw (take_all most_digits c m) (omega arith)

  pub loop_stored : is_loop loop fs ≡ true → AllSound fs → Stored (part_of fs)
  unfolding part_of price_from article_from loop contents is_in rule_in content_rule
  loop_stored e s =
      let short = length-take article_width (text_of 7 fs) in
      record {
        shaped = record { net = price_wide 1; list = price_wide 4; bytes = fitted_length article_width _; qualifier = fitted_length qualifier_width _; zeros = λ h. zeros (take article_width (text_of 7 fs)) h };
        net = amount_small (text_of 1 fs) (rule_at fs e s 1 (omega arith));
        list = amount_small (text_of 4 fs) (rule_at fs e s 4 (omega arith));
        short = omega arith;
      }

-- n loops whose contents are kept
pub all_stored : (n : ℕ) (fs : List Optional) → are_loops n fs ≡ true → AllSound fs → AllStored (parts_of n fs)
unfolding are_loops parts_of
all_stored zero fs e s = tt
all_stored (suc n) fs e s = (
  loop_stored (take loop_fields fs) (and_left (is_loop loop (take loop_fields fs)) _ e) (sound_take loop_fields fs s),
  all_stored n (drop loop_fields fs) (and_right (is_loop loop (take loop_fields fs)) _ e) (sound_drop loop_fields fs s),
)

pub parts_length : (n : ℕ) (fs : List Optional) → length (parts_of n fs) ≡ n
unfolding parts_of
parts_length zero fs = refl
parts_length (suc n) fs = ap suc (parts_length n (drop loop_fields fs))

-- the fields of the part that stands stored at a place
loop_there : (p : Part) → Stored p → (s : List ℕ) (at : ℕ) (rest : List ℕ) → drop at s ≡ part_bytes p ++ rest → lent_loop s at ≡ part_fields true p
unfolding lent_loop
loop_there p h s at rest e =
    let m : is_medium (get_or s (at + medium_at) 0) ≡ true =
    ap is_medium (sym (get_or-drop at s medium_at 0) ∙ ap (λ (l : List ℕ). get_or l medium_at 0) e) ∙ medium_there p h rest in
    ap₂ part_fields m (part_from s at ∙ ap (λ (l : List ℕ). lent_part l 0) e ∙ part_stored p h rest)

-- the parts of n loops, stored at a place, have the loops as their fields
pub loops_back : (n : ℕ) (fs : List Optional) (s : List ℕ) (at : ℕ) (rest : List ℕ) → length fs ≡ n * loop_fields → are_loops n fs ≡ true → AllSound fs
    → drop at s ≡ room_of (parts_of n fs) ++ rest → lent_fields n s at ≡ fs
unfolding are_loops parts_of room_of lent_fields
loops_back zero [] s at rest l e k d = refl
loops_back zero (f ∷ fs) s at rest l e k d = absurd (omega (arith, l))
loops_back (suc n) fs s at rest l e k d =
    let ten = take loop_fields fs in
    let looped = and_left (is_loop loop ten) (are_loops n (drop loop_fields fs)) e in
    let kept = sound_take loop_fields fs k in
    let p = loop_stored ten looped kept in
    let q = d ∙ append_assoc (part_bytes (part_of ten)) (room_of (parts_of n (drop loop_fields fs))) rest in
    let long : length ten ≡ loop_fields = length-take-le loop_fields fs (omega (arith, l)) in
    let first = loop_there (part_of ten) p s at _ q ∙ loop_back ten long looped kept in
    let after = sym (drop-drop part_width at s) ∙ ap (drop part_width) q ∙ drop_at (part_bytes (part_of ten)) _ part_width (entry_length (part_of ten) p rest) in
    let others = loops_back n (drop loop_fields fs) s (at + part_width) rest (length-drop loop_fields fs ∙ omega (arith, l)) (and_right (is_loop loop ten) _ e) (sound_drop loop_fields fs k) after in
    ap₂ (λ (x y : List Optional). x ++ y) first others ∙ take-append-drop loop_fields fs

-- the parts that stand in a room are those that their fields say, where these are kept
pub lent_back : (n : ℕ) (s : List ℕ) (at : ℕ) → at + n * part_width ≤ length s → AllSound (lent_fields n s at) → parts_of n (lent_fields n s at) ≡ lent_parts n s at
unfolding parts_of lent_fields lent_parts lent_loop
lent_back zero s at h k = refl
lent_back (suc n) s at h k =
    let ys = lent_fields n s (at + part_width) in
    let t = take_at (lent_loop s at) ys loop_fields (loop_length s at) in
    let d = drop_at (lent_loop s at) ys loop_fields (loop_length s at) in
    let first = part_back (is_medium (get_or s (at + medium_at) 0)) (lent_part s at) (lent_shaped s at (omega arith)) (rw t at (sound_take loop_fields (lent_loop s at ++ ys) k)) in
    let others = lent_back n s (at + part_width) (omega arith) (rw d at (sound_drop loop_fields (lent_loop s at ++ ys) k)) in
    rw (t, d) (ap₂ (λ (x : Part) (xs : List Part). x ∷ xs) first others)
