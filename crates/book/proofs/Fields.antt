-- The fields of a record that fits: each keeps its rule and has its length; so keys have their widths, a quantity at most four digits, and what a report says goes together.
use mathlib.Core.Path.{◌≡◌, ◌∙◌, ap, sym, refl}
use mathlib.Core.Bool.{Bool, true}
use mathlib.Core.Logic.{◌≢◌}
use mathlib.Core.List.{List, [], ◌∷◌, ◌++◌, map, map-append}
use Prim.Native.Nat.{ℕ, ◌+◌, ◌^◌, ◌≤◌, ◌<◌}
use native.Mathlib.Nat.{pow-le-pow_right}
use native.Mathlib.Omega.{arith}
use borrow.Author.Tests.{eq-eqb, ltb-true}
use lib.Dec.{ltb, lit<}
use lib.ListN.{length, get_or, length-append}
use Rattle.cells.specs.Bytes.{all, bytes, same, within, joined}
use Rattle.cells.proofs.Bools.{split, and_left, and_right}
use Rattle.cells.proofs.Lists.{joined_append}
use Rattle.signs.specs.Class.{belongs, all_of, of_class}
use Rattle.rules.specs.Number.{number}
use Rattle.rules.specs.Day.{day_width}
use Rattle.rules.specs.Rule.{expected, keeps}
use Rattle.signs.specs.declared.Class.TheVariants.{Digit}
use Rattle.rules.proofs.Digits.{width}
use Rattle.signs.proofs.Fits.{at_most}
use Rattle.record.specs.Layout.{no_field, layout, fixed_width}
use Rattle.record.specs.Values.{field_bytes}
use Rattle.record.specs.declared.layout.Kind.{Kind}
use Rattle.record.specs.declared.layout.Kind.TheVariants.{Order, Goods, Report}
use Rattle.record.proofs.Kept.{each_kept, field_length}
use Rattle.reader.proofs.Fitting.{Fitting}
use Rattle.entry.specs.Line.{mark_byte}
use Rattle.entry.specs.Report.{most_message, message_of, message_number, report_sound}
use Rattle.entry.specs.Stored.{key_width, ordered_at, slip_key_width, most_copies}
use Rattle.entry.specs.declared.line.Mark.TheVariants.{Unmarked}
use Rattle.entry.proofs.Kept.{number_back}
use Rattle.entry.proofs.Sound.{numbered_sound}
use Rattle.book.specs.Asked.{are_wide}
use Rattle.book.specs.Booking.{key_fields, line_key, article_fields, article_in, slip_key, copies_in, mark_in, message_in, date_in, fields_in}

-- the lengths of the fields with some indexes, added up
abbrev pub widths : Kind → List ℕ → ℕ
widths k [] = 0
widths k (i ∷ is) = (get_or (layout k) i no_field).size + widths k is

-- fields one after the other are as long as all of them
pub fields_length : (k : Kind) (s : List ℕ) → fixed_width k ≤ length s → (is : List ℕ) → all (λ i. ltb i (length (layout k))) is ≡ true
    → length (joined (fields_in k is s)) ≡ widths k is
unfolding joined all
fields_length k s h [] w = refl
fields_length k s h (i ∷ is) w =
    let q : Bool = ltb i (length (layout k)) in
    let r : Bool = all (λ i. ltb i (length (layout k))) is in
    rw (length-append (field_bytes k i s) (joined (fields_in k is s)), field_length k s h i (ltb-true i (length (layout k)) (and_left q r w)), fields_length k s h is (and_right q r w))

-- each of them has its length
pub fields_wide : (k : Kind) (s : List ℕ) → fixed_width k ≤ length s → (is : List ℕ) → all (λ i. ltb i (length (layout k))) is ≡ true
    → are_wide (map (λ (i : ℕ). (get_or (layout k) i no_field).size) is) (fields_in k is s) ≡ true
unfolding are_wide all
fields_wide k s h [] w = refl
fields_wide k s h (i ∷ is) w =
    let q : Bool = ltb i (length (layout k)) in
    let r : Bool = all (λ i. ltb i (length (layout k))) is in
    rw (eq-eqb _ _ (field_length k s h i (ltb-true i (length (layout k)) (and_left q r w))), fields_wide k s h is (and_right q r w))

-- w digits spell a number below 10 ^ w
pub digits_below : (w : ℕ) (xs : List ℕ) → of_class Digit w w xs ≡ true → number xs < 10 ^ w
unfolding of_class all_of belongs
digits_below w xs e =
    let all_in = at_most Digit w w xs e in
    let most : 0 + length xs ≤ w = omega arith in
    let p : 10 ^ (0 + length xs) ≤ 10 ^ w = pow-le-pow_right (lit< tt) most in
    omega (arith, width 0 0 xs (omega arith) (and_right (within w w (length xs)) (all_of Digit xs) e))

-- keys in a record that is long enough
pub order_key_long : (s : List ℕ) → fixed_width Order ≤ length s → length (line_key Order s) ≡ key_width
unfolding line_key key_fields layout all
order_key_long s h = fields_length Order s h (1 ∷ 2 ∷ 3 ∷ 4 ∷ 6 ∷ []) refl

-- what a record's line is named by: the fields of its key and those of its article
pub named_fields : (k : Kind) (s : List ℕ) → line_key k s ++ article_in k s ≡ joined (fields_in k (key_fields k ++ article_fields k) s)
unfolding line_key article_in
named_fields k s = sym (ap joined (map-append _ (key_fields k) (article_fields k)) ∙ joined_append _ _)

pub order_named_long : (s : List ℕ) → fixed_width Order ≤ length s → length (line_key Order s ++ article_in Order s) ≡ ordered_at
unfolding key_fields article_fields layout all
order_named_long s h = ap length (named_fields Order s) ∙ fields_length Order s h (1 ∷ 2 ∷ 3 ∷ 4 ∷ 6 ∷ 7 ∷ 8 ∷ []) refl

pub slip_key_long : (s : List ℕ) → fixed_width Goods ≤ length s → length (slip_key s) ≡ slip_key_width
unfolding slip_key layout all
slip_key_long s h = fields_length Goods s h (1 ∷ 2 ∷ 3 ∷ 4 ∷ 5 ∷ 6 ∷ 7 ∷ []) refl

-- a report's mark is J or N
is_marked : (s : List ℕ) → mark_in s ≢ Unmarked
unfolding mark_in
is_marked s p =
    split (same (field_bytes Report 10 s) (bytes "J")) (λ e. let q = rw e at p in let z : ◌≡◌ {A = ℕ} 0 1 = cc in omega arith) (λ e. let q = rw e at p in let z : ◌≡◌ {A = ℕ} 0 1 = cc in omega arith)

-- the keys and the quantity of a record that fits
module _ (s : List ℕ) (n : ℕ) where
  pub order_key : Fitting Order s n → length (line_key Order s) ≡ key_width
  order_key f = order_key_long s (omega (arith, f.wide))

  pub order_named : Fitting Order s n → length (line_key Order s ++ article_in Order s) ≡ ordered_at
  order_named f = order_named_long s (omega (arith, f.wide))

  pub slip_key_width_law : Fitting Goods s n → length (slip_key s) ≡ slip_key_width
  slip_key_width_law f = slip_key_long s (omega (arith, f.wide))

  pub order_copies : Fitting Order s n → (copies_in Order s).0 ≤ most_copies
  unfolding copies_in layout keeps field_bytes
  order_copies f = omega (arith, digits_below 4 (field_bytes Order 9 s) (each_kept (layout Order) s 9 f.kept))

  pub goods_copies : Fitting Goods s n → (copies_in Goods s).0 ≤ most_copies
  unfolding copies_in layout keeps field_bytes
  goods_copies f = omega (arith, digits_below 4 (field_bytes Goods 11 s) (each_kept (layout Goods) s 11 f.kept))

  -- what a report that fits says of its line: a message of three digits, and an expected date in one of its forms
  message_most : Fitting Report s n → number (field_bytes Report 9 s) ≤ most_message
  unfolding layout keeps field_bytes
  message_most f = omega (arith, digits_below 3 (field_bytes Report 9 s) (each_kept (layout Report) s 9 f.kept))

  date_expected : Fitting Report s n → expected (date_in s) ≡ true
  unfolding date_in layout keeps field_bytes
  date_expected f = each_kept (layout Report) s 11 f.kept

  pub report_date : Fitting Report s n → length (date_in s) ≡ day_width
  unfolding date_in layout
  report_date f = field_length Report s (omega (arith, f.wide)) 11 (omega arith)

  pub report_small : Fitting Report s n → message_number (message_in s) < 65536
  unfolding message_in message_number
  report_small f = omega (arith, message_most f)

  pub report_number : Fitting Report s n → message_of (message_number (message_in s)) ≡ message_in s
  unfolding message_in
  report_number f = number_back (number (field_bytes Report 9 s)) (omega (arith, message_most f))

  -- so they go together
  pub report_goes : Fitting Report s n → report_sound (mark_byte (mark_in s)) (message_number (message_in s)) (date_in s) ≡ true
  unfolding message_in message_number
  report_goes f = numbered_sound (mark_in s) (number (field_bytes Report 9 s)) (date_in s) (is_marked s) (message_most f) (date_expected f)
