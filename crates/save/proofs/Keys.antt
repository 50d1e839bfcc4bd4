-- The keys and articles of saved entries, each field judged where it stands.
use mathlib.Core.Path.{◌≡◌, ◌∙◌, ap, sym, refl}
use mathlib.Core.Bool.{Bool, true, false, not, ◌&&◌, false≢true}
use mathlib.Core.List.{List, [], ◌∷◌}
use Prim.Native.Nat.{ℕ, suc, ◌+◌, ◌≤◌, ◌<◌}
use native.Mathlib.Omega.{arith}
use borrow.Author.Tests.{ltb-true}
use lib.Dec.{eqb, ltb}
use lib.ListN.{take}
use lib.Seq.{slice, drop-drop, take-take}
use Rattle.cells.specs.Bytes.{pick, among, within, same}
use Rattle.cells.proofs.Bools.{and_left, and_right}
use Rattle.cells.proofs.Lists.{same_true}
use Rattle.cells.proofs.Parts.{take_from, slice_drop}
use Rattle.cells.proofs.Searches.{all_at}
use Rattle.cells.proofs.Within.{part_within}
use Rattle.rules.specs.Article.{article}
use Rattle.signs.specs.Class.{all_of, of_class, padded, named}
use Rattle.rules.specs.Day.{is_day}
use Rattle.rules.specs.Rule.{texts, keeps}
use Rattle.signs.specs.declared.Class.TheVariants.{Any, Allowed, Digit, Account, Blank}
use Rattle.rules.specs.declared.rule.Texts.TheVariants.{Party, Numbering}
use Rattle.record.specs.Layout.{layout, first_broken}
use Rattle.book.specs.Booking.{key_fields, article_fields, slip_fields}
use Rattle.entry.specs.Stored.{key_width, ordered_at, slip_key_width, most_copies}
use Rattle.save.specs.Entries.{reference_at, slip_number_at, line_fields, goods_fields, fields_kept, line_kept, parties_agree, line_index, slip_copies, slip_kept, slip_named, is_first, lines_kept}

-- the first test that fails of four is none of them: all hold
four : (a b c d : Bool) → eqb (pick a (suc (pick b (suc (pick c (suc (pick d 1 0)) 0)) 0)) 0) 4 ≡ (a && b) && (c && d)
four false b c d = refl
four true false c d = refl
four true true false d = refl
four true true true false = refl
four true true true true = refl

-- so of seven
seven : (a b c d e f g : Bool)
    → eqb (pick a (suc (pick b (suc (pick c (suc (pick d (suc (pick e (suc (pick f (suc (pick g 1 0)) 0)) 0)) 0)) 0)) 0)) 0) 7
    ≡ ((a && b) && (c && d)) && (e && (f && g))
seven false b c d e f g = refl
seven true false c d e f g = refl
seven true true false d e f g = refl
seven true true true false e f g = refl
seven true true true true false f g = refl
seven true true true true true false g = refl
seven true true true true true true false = refl
seven true true true true true true true = refl

-- the field at a place keeps an address's rule
abbrev is_address : ℕ → List ℕ → Bool
is_address at s = padded Account 1 10 (slice at (at + 10) s)

-- and its qualifier's
abbrev is_qualifier : ℕ → List ℕ → Bool
is_qualifier at s = among (slice at (at + 2) s) (texts Party)

-- a key begins with two addresses and their qualifiers
abbrev pub parties_kept : List ℕ → Bool
parties_kept s = (is_address 0 s && is_qualifier 10 s) && (is_address 12 s && is_qualifier 22 s)

-- after them a line has reference, article and qualifier
abbrev line_rest : List ℕ → Bool
line_rest s = named Any (slice 24 34 s) && (article (slice 47 49 s) (slice 34 47 s) && among (slice 47 49 s) (texts Numbering))

-- and a slip's key date, slip number and position
abbrev slip_rest : List ℕ → Bool
slip_rest s = is_day (slice 24 32 s) && (named Any (slice 32 42 s) && of_class Digit 4 4 (slice 42 46 s))

-- no field of a key is broken
module _ (s : List ℕ) where
  pub parties_judged : eqb (first_broken (goods_fields (1 ∷ 2 ∷ 3 ∷ 4 ∷ [])) s) 4 ≡ parties_kept s
  unfolding goods_fields layout keeps first_broken
  parties_judged =
      rw (drop-drop 2 10 s, drop-drop 10 12 s, take_from 2 10 s, take_from 10 12 s, take_from 2 22 s)
      (four (is_address 0 s) (is_qualifier 10 s) (is_address 12 s) (is_qualifier 22 s))

  line_fields_law : eqb (first_broken (goods_fields line_fields) s) 7 ≡ parties_kept s && line_rest s
  unfolding goods_fields key_fields article_fields layout keeps first_broken
  line_fields_law =
      rw (
        drop-drop 2 10 s,
        drop-drop 10 12 s,
        drop-drop 2 22 s,
        drop-drop 10 24 s,
        drop-drop 13 34 s,
        slice_drop 13 15 34 s,
        take_from 2 10 s,
        take_from 10 12 s,
        take_from 2 22 s,
        take_from 10 24 s,
        take_from 13 34 s,
        take_from 2 47 s,
      )
      (seven (is_address 0 s) (is_qualifier 10 s) (is_address 12 s) (is_qualifier 22 s) (named Any (slice 24 34 s)) (article (slice 47 49 s) (slice 34 47 s)) (among (slice 47 49 s) (texts Numbering)))

  slip_fields_law : eqb (first_broken (goods_fields slip_fields) s) 7 ≡ parties_kept s && slip_rest s
  unfolding goods_fields layout keeps first_broken
  slip_fields_law =
      rw (
        drop-drop 2 10 s,
        drop-drop 10 12 s,
        drop-drop 2 22 s,
        drop-drop 8 24 s,
        drop-drop 10 32 s,
        take_from 2 10 s,
        take_from 10 12 s,
        take_from 2 22 s,
        take_from 8 24 s,
        take_from 10 32 s,
        take_from 4 42 s,
      )
      (seven (is_address 0 s) (is_qualifier 10 s) (is_address 12 s) (is_qualifier 22 s) (is_day (slice 24 32 s)) (named Any (slice 32 42 s)) (of_class Digit 4 4 (slice 42 46 s)))

  -- the fields of a line, and those of a slip's key, keep the rules
  pub line_judged : fields_kept line_fields reference_at s ≡ all_of Allowed s && ((parties_kept s && line_rest s) && not (all_of Blank (slice 24 34 s)))
  unfolding fields_kept key_fields article_fields
  line_judged = ap (λ (b : Bool). all_of Allowed s && (b && not (all_of Blank (slice 24 34 s)))) line_fields_law

  pub slip_judged_law : fields_kept slip_fields slip_number_at s ≡ all_of Allowed s && ((parties_kept s && slip_rest s) && not (all_of Blank (slice 32 42 s)))
  unfolding fields_kept
  slip_judged_law = ap (λ (b : Bool). all_of Allowed s && (b && not (all_of Blank (slice 32 42 s)))) slip_fields_law

-- a part of a party that stands at one place in a slip's key, and at another in its line's
party_part : (slip line : List ℕ) (p q x y : ℕ) → y ≤ 12 → p + 12 ≤ slip_key_width → q + 12 ≤ ordered_at → slice p (p + 12) slip ≡ slice q (q + 12) line
    → slice (p + x) (p + y) (take slip_key_width slip) ≡ slice (q + x) (q + y) (take ordered_at line)
party_part slip line p q x y h a b e =
    rw (take-take (p + y) slip_key_width slip (omega arith), take-take (q + y) ordered_at line (omega arith), ← part_within slip p (p + 12) x y (omega arith), ← part_within line q (q + 12) x y (omega arith), e) refl

and_swap : (a b c d : Bool) → (a && b) && (c && d) ≡ true → (c && d) && (a && b) ≡ true
and_swap a b c d e = rw (and_left (a && b) (c && d) e, and_right (a && b) (c && d) e) refl

-- the parties of a slip keep the rules where they are those of a line whose parties do
parties_met : (slip line : List ℕ) → parties_agree slip line ≡ true → parties_kept (take ordered_at line) ≡ true → parties_kept (take slip_key_width slip) ≡ true
unfolding parties_agree
parties_met slip line h k =
    let a : slice 0 12 slip ≡ slice 12 24 line = same_true (slice 0 12 slip) (slice 12 24 line) (and_left (same (slice 0 12 slip) (slice 12 24 line)) _ h) in
    let b : slice 12 24 slip ≡ slice 0 12 line = same_true (slice 12 24 slip) (slice 0 12 line) (and_right (same (slice 0 12 slip) (slice 12 24 line)) _ h) in
    let t : List ℕ = take ordered_at line in
    rw (
      party_part slip line 0 12 0 10 (omega arith) (omega arith) (omega arith) a,
      party_part slip line 0 12 10 12 (omega arith) (omega arith) (omega arith) a,
      party_part slip line 12 0 0 10 (omega arith) (omega arith) (omega arith) b,
      party_part slip line 12 0 10 12 (omega arith) (omega arith) (omega arith) b,
    )
    (and_swap (is_address 0 t) (is_qualifier 10 t) (is_address 12 t) (is_qualifier 22 t) k)

-- those of a line that is kept do
line_parties : (n : ℕ) (line : ℕ → List ℕ) (i : ℕ) → lines_kept n line ≡ true → i < n → parties_kept (take ordered_at (line i)) ≡ true
unfolding lines_kept line_kept
line_parties n line i h l =
    let named : List ℕ = take ordered_at (line i) in
    let k : line_kept (line i) && is_first key_width line i ≡ true = all_at (λ x. line_kept (line x) && is_first key_width line x) n 0 i h (omega arith) (omega arith) in
    let f : fields_kept line_fields reference_at named ≡ true = and_left (fields_kept line_fields reference_at named) _ (and_left (line_kept (line i)) _ k) in
    let j : all_of Allowed named && ((parties_kept named && line_rest named) && not (all_of Blank (slice 24 34 named))) ≡ true = sym (line_judged named) ∙ f in
    and_left (parties_kept named) (line_rest named) (and_left (parties_kept named && line_rest named) _ (and_right (all_of Allowed named) _ j))

-- where the last of some tests fails, so do they all together
all_fail : (a r b w : Bool) → (a && false) && (w && false) ≡ (a && (r && b)) && (w && false)
all_fail true true true true = refl
all_fail true true true false = refl
all_fail true true false w = refl
all_fail true false b w = refl
all_fail false r b w = refl

-- a test that holds wherever the last two hold may be left out
left_out : (a p r b w l g : Bool) → (l ≡ true → g ≡ true → p ≡ true) → (a && ((p && r) && b)) && (w && (l && g)) ≡ (a && (r && b)) && (w && (l && g))
left_out a true r b w l g h = refl
left_out a false r b w true true h = absurd (false≢true (h refl refl))
left_out a false r b w false g h = all_fail a r b w
left_out a false r b w true false h = all_fail a r b w

-- by lines that are kept a slip is kept without a look at the rules of its parties, which are those of its line
pub slip_kept_by : (n : ℕ) (line : ℕ → List ℕ) (body : List ℕ) → lines_kept n line ≡ true
    → slip_kept n line body ≡ slip_named (take slip_key_width body) && (within 1 most_copies (slip_copies body) && (ltb (line_index body) n && parties_agree body (line (line_index body))))
unfolding slip_kept slip_named
slip_kept_by n line body h =
    let key : List ℕ = take slip_key_width body in
    let i : ℕ = line_index body in
    rw (slip_judged_law key)
    (left_out (all_of Allowed key) (parties_kept key) (slip_rest key) (not (all_of Blank (slice 32 42 key))) (within 1 most_copies (slip_copies body)) (ltb i n) (parties_agree body (line i))
    (λ l g. parties_met body (line i) g (line_parties n line i h (ltb-true i n l))))
