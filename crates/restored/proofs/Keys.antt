-- The keys and the article that a booked record gives keep the rules of a save.
use mathlib.Core.Path.{◌≡◌, ◌∙◌, refl}
use mathlib.Core.Bool.{Bool, true, false}
use mathlib.Core.List.{List, [], ◌∷◌, ◌++◌}
use Prim.Native.Nat.{ℕ, suc, ◌+◌, ◌<◌}
use native.Mathlib.Omega.{arith}
use borrow.Author.Tests.{eq-eqb}
use lib.Dec.{lit<}
use lib.ListN.{length, get_or, take, length-map}
use lib.Seq.{slice, take-append-add, drop-append_seam, take_at, drop_at}
use Rattle.cells.specs.Bytes.{all, among, joined}
use Rattle.cells.proofs.Bools.{and_right}
use Rattle.cells.proofs.Lists.{same_refl, all_take, all_drop, all_append}
use Rattle.signs.specs.Class.{belongs, all_of, of_class, padded, named}
use Rattle.rules.specs.Day.{is_day}
use Rattle.rules.specs.Article.{article}
use Rattle.rules.specs.Rule.{texts, keeps}
use Rattle.signs.specs.declared.Class.{Class}
use Rattle.signs.specs.declared.Class.TheVariants.{Any, Allowed, Digit, Account, Blank, Unbarred}
use Rattle.rules.specs.declared.rule.Texts.TheVariants.{Party, Numbering}
use Rattle.signs.proofs.Runs.{run_all}
use Rattle.record.specs.Layout.{no_field, address, address_qualifier, date, reference, slip_number, article as article_field, article_qualifier, digits, layout, total, start_of, first_broken}
use Rattle.record.specs.Values.{field_bytes}
use Rattle.record.specs.declared.layout.Field.{Field}
use Rattle.record.specs.declared.layout.Kind.{Kind}
use Rattle.record.specs.declared.layout.Kind.TheVariants.{Order, Goods}
use Rattle.reader.proofs.Fitting.{Fitting}
use Rattle.book.specs.Booking.{key_fields, line_key, article_fields, article_in, slip_fields, slip_key, nothing_to_book, no_reference, fields_in}
use Rattle.record.proofs.Kept.{each_kept, field_length}
use Rattle.book.proofs.Fields.{named_fields}
use Rattle.save.specs.Entries.{reference_at, slip_number_at, name_width, line_fields, goods_fields, fields_kept, parties_agree}
use Rattle.save.proofs.Fronts.{part_past}

-- a test that holds at each byte of a list holds at each byte of some of its fields
module _ (p : ℕ → Bool) where
  pub all_fields : (k : Kind) (is s : List ℕ) → all p s ≡ true → all p (joined (fields_in k is s)) ≡ true
  unfolding joined field_bytes all
  all_fields k [] s e = refl
  all_fields k (i ∷ is) s e =
      let from : ℕ = start_of (layout k) i in
      let to : ℕ = start_of (layout k) (suc i) in
      rw (all_append p (slice from to s) (joined (fields_in k is s)), all_drop p from (take to s) (all_take p to s e)) (all_fields k is s e)

-- every byte is of the class of any byte
all_any : (s : List ℕ) → all (belongs Any) s ≡ true
unfolding all belongs
all_any [] = refl
all_any (x ∷ xs) = all_any xs

-- what is named by bytes of a class is named by any bytes
any_named : (c : Class) (s : List ℕ) → named c s ≡ true → named Any s ≡ true
unfolding named all_of
any_named c s e = rw (all_any s) (and_right (all (belongs c) s) _ e)

-- each of these fields, which stand at the front of a list, keeps its rule
record Unbroken (fs : List Field) (s : List ℕ) : Type 0 where
  all_kept : first_broken fs s ≡ length fs

-- no fields are
no_fields : (s : List ℕ) → Unbroken [] s
unfolding first_broken
no_fields s = record { all_kept = refl }

-- a field put before others: it keeps its rule, and so do they
field_before : (f : Field) {fs : List Field} (xs : List ℕ) {ys : List ℕ} → length xs ≡ f.size → keeps f.rule (take 2 ys) xs ≡ true
    → Unbroken fs ys → Unbroken (f ∷ fs) (xs ++ ys)
unfolding first_broken
field_before f {fs} xs {ys} n e h =
    let next : slice f.size (f.size + 2) (xs ++ ys) ≡ take 2 ys =
    rw (← n, take-append-add xs ys 2) (drop-append_seam xs (take 2 ys)) in
    record { all_kept = rw (next, take_at xs ys f.size n, drop_at xs ys f.size n, e, h.all_kept) }

-- an address and its qualifier at the front
party : (xs ys zs : List ℕ) → length xs ≡ 10 → length ys ≡ 2 → slice 0 12 (xs ++ (ys ++ zs)) ≡ xs ++ ys
party xs ys zs n m =
    let e : take (length xs + 2) (xs ++ (ys ++ zs)) ≡ xs ++ take 2 (ys ++ zs) = take-append-add xs (ys ++ zs) 2 in
    rw n at e ∙ rw (take_at ys zs 2 m)

-- two parties at the front of a key: address, qualifier, address, qualifier
module _ (a b c d : List ℕ) (sa : length a ≡ 10) (sb : length b ≡ 2) (sc : length c ≡ 10) (sd : length d ≡ 2) where
  -- the field behind them
  fifth : (r ys : List ℕ) → length r ≡ 10 → slice 24 34 (a ++ (b ++ (c ++ (d ++ (r ++ ys))))) ≡ r
  fifth r ys sr =
      part_past a _ 10 sa 14 24 ∙ part_past b _ 2 sb 12 22 ∙ part_past c _ 10 sc 2 12 ∙ part_past d _ 2 sd 0 10 ∙ take_at r ys 10 sr

  -- the one behind a date too
  sixth : (t r ys : List ℕ) → length t ≡ 8 → length r ≡ 10 → slice 32 42 (a ++ (b ++ (c ++ (d ++ (t ++ (r ++ ys)))))) ≡ r
  sixth t r ys st sr =
      part_past a _ 10 sa 22 32 ∙ part_past b _ 2 sb 20 30 ∙ part_past c _ 10 sc 10 20 ∙ part_past d _ 2 sd 8 18 ∙ part_past t _ 8 st 0 10 ∙ take_at r ys 10 sr

  -- a slip's parties are its line's, the other way round
  parties : (xs ys : List ℕ) → parties_agree (a ++ (b ++ (c ++ (d ++ xs)))) (c ++ (d ++ (a ++ (b ++ ys)))) ≡ true
  unfolding parties_agree
  parties xs ys =
      let p : slice 0 12 (a ++ (b ++ (c ++ (d ++ xs)))) ≡ a ++ b = party a b _ sa sb in
      let q : slice 12 24 (c ++ (d ++ (a ++ (b ++ ys)))) ≡ a ++ b = part_past c _ 10 sc 2 14 ∙ part_past d _ 2 sd 0 12 ∙ party a b ys sa sb in
      let u : slice 12 24 (a ++ (b ++ (c ++ (d ++ xs)))) ≡ c ++ d = part_past a _ 10 sa 2 14 ∙ part_past b _ 2 sb 0 12 ∙ party c d xs sc sd in
      let v : slice 0 12 (c ++ (d ++ (a ++ (b ++ ys)))) ≡ c ++ d = party c d _ sc sd in
      rw (p, q, u, v, same_refl (a ++ b)) (same_refl (c ++ d))

  -- where both keep their rules, and so do the three fields behind them, a line's key and article do, and a slip's key
  module _ (ka : padded Account 1 10 a ≡ true) (kb : among b (texts Party) ≡ true) (kc : padded Account 1 10 c ≡ true) (kd : among d (texts Party) ≡ true) where
    line_fields_law : (r x q : List ℕ) → length r ≡ 10 → length x ≡ 13 → length q ≡ 2
        → named Any r ≡ true → article q x ≡ true → among q (texts Numbering) ≡ true
        → Unbroken (goods_fields line_fields) (a ++ (b ++ (c ++ (d ++ (r ++ (x ++ (q ++ [])))))))
    unfolding goods_fields key_fields article_fields layout keeps
    line_fields_law r x q sr sx sq kr kx kq =
        let e : take 2 (q ++ []) ≡ q = take_at q [] 2 sq in
        field_before address a sa ka
        (field_before address_qualifier b sb kb
        (field_before address c sc kc
        (field_before address_qualifier d sd kd
        (field_before reference r sr kr
        (field_before article_field x sx (rw e kx)
        (field_before article_qualifier q sq kq (no_fields [])))))))

    slip_fields_law : (t r x : List ℕ) → length t ≡ 8 → length r ≡ 10 → length x ≡ 4
        → is_day t ≡ true → named Any r ≡ true → of_class Digit 4 4 x ≡ true
        → Unbroken (goods_fields slip_fields) (a ++ (b ++ (c ++ (d ++ (t ++ (r ++ (x ++ [])))))))
    unfolding goods_fields layout keeps
    slip_fields_law t r x st sr sx kt kr kx =
        field_before address a sa ka
        (field_before address_qualifier b sb kb
        (field_before address c sc kc
        (field_before address_qualifier d sd kd
        (field_before date t st kt
        (field_before slip_number r sr kr
        (field_before (digits 4) x sx kx (no_fields [])))))))

-- fields of allowed bytes that are kept, with what must be named named
fields_kept_law : (fields : List ℕ) (at : ℕ) (key name : List ℕ) → all (belongs Allowed) key ≡ true → Unbroken (goods_fields fields) key
    → slice at (at + name_width) key ≡ name → all_of Blank name ≡ false → fields_kept fields at key ≡ true
unfolding fields_kept all_of goods_fields
fields_kept_law fields at key name e f g h =
    let n : first_broken (goods_fields fields) key ≡ length fields = f.all_kept ∙ length-map fields (λ i. get_or (layout Goods) i no_field) in
    rw (e, eq-eqb (first_broken (goods_fields fields) key) (length fields) n, g, h)

-- a record that fits
module _ (k : Kind) (s : List ℕ) (n : ℕ) (f : Fitting k s n) where
  -- each byte is allowed
  pub fit_allowed : all (belongs Allowed) s ≡ true
  fit_allowed = run_all (belongs Allowed) s f.allowed

  -- each field has its length
  fit_size : (i : ℕ) → i < length (layout k) → length (field_bytes k i s) ≡ (get_or (layout k) i no_field).size
  fit_size = field_length k s (omega (arith, f.wide))

  -- each field keeps its rule
  fit_rule : (i : ℕ) → keeps (get_or (layout k) i no_field).rule (slice (start_of (layout k) (suc i)) (start_of (layout k) (suc i) + 2) s) (field_bytes k i s) ≡ true
  unfolding field_bytes
  fit_rule i = each_kept (layout k) s i f.kept

-- an order's line key and article
module _ (s : List ℕ) (n : ℕ) (f : Fitting Order s n) where
  -- the article number keeps its rule
  order_article : article (field_bytes Order 8 s) (field_bytes Order 7 s) ≡ true
  unfolding keeps layout start_of total field_bytes
  order_article = fit_rule Order s n f 7

  -- they keep the rules
  pub order_named_kept : no_reference Order s ≡ false → fields_kept line_fields reference_at (line_key Order s ++ article_in Order s) ≡ true
  unfolding key_fields article_fields joined layout keeps no_reference
  order_named_kept e =
      let at : ℕ → List ℕ = λ i. field_bytes Order i s in
      let size = fit_size Order s n f in
      let kept = fit_rule Order s n f in
      let s1 = size 1 (lit< tt) in
      let s2 = size 2 (lit< tt) in
      let s3 = size 3 (lit< tt) in
      let s4 = size 4 (lit< tt) in
      let s6 = size 6 (lit< tt) in
      let fields = line_fields_law (at 1) (at 2) (at 3) (at 4) s1 s2 s3 s4 (kept 1) (kept 2) (kept 3) (kept 4)
      (at 6) (at 7) (at 8) s6 (size 7 (lit< tt)) (size 8 (lit< tt)) (any_named Unbarred (at 6) (kept 6)) order_article (kept 8) in
      rw (named_fields Order s)
      (fields_kept_law line_fields reference_at (joined (fields_in Order (key_fields Order ++ article_fields Order) s)) (at 6) (all_fields (belongs Allowed) Order (key_fields Order ++ article_fields Order) s (fit_allowed Order s n f)) fields
      (fifth (at 1) (at 2) (at 3) (at 4) s1 s2 s3 s4 (at 6) (at 7 ++ (at 8 ++ [])) s6) e)

-- a delivery's slip key, and its parties
module _ (s : List ℕ) (n : ℕ) (f : Fitting Goods s n) where
  -- the key keeps the rules
  pub slip_key_kept : nothing_to_book Goods s ≡ false → fields_kept slip_fields slip_number_at (slip_key s) ≡ true
  unfolding slip_key joined layout keeps nothing_to_book
  slip_key_kept e =
      let at : ℕ → List ℕ = λ i. field_bytes Goods i s in
      let size = fit_size Goods s n f in
      let kept = fit_rule Goods s n f in
      let s1 = size 1 (lit< tt) in
      let s2 = size 2 (lit< tt) in
      let s3 = size 3 (lit< tt) in
      let s4 = size 4 (lit< tt) in
      let s5 = size 5 (lit< tt) in
      let s6 = size 6 (lit< tt) in
      let fields = slip_fields_law (at 1) (at 2) (at 3) (at 4) s1 s2 s3 s4 (kept 1) (kept 2) (kept 3) (kept 4)
      (at 5) (at 6) (at 7) s5 s6 (size 7 (lit< tt)) (kept 5) (kept 6) (kept 7) in
      fields_kept_law slip_fields slip_number_at (slip_key s) (at 6) (all_fields (belongs Allowed) Goods slip_fields s (fit_allowed Goods s n f)) fields
      (sixth (at 1) (at 2) (at 3) (at 4) s1 s2 s3 s4 (at 5) (at 6) (at 7 ++ []) s5 s6) e

  -- its school and supplier are its line's
  pub goods_parties : parties_agree (slip_key s) (line_key Goods s) ≡ true
  unfolding slip_key line_key key_fields joined layout
  goods_parties =
      let at : ℕ → List ℕ = λ i. field_bytes Goods i s in
      let size = fit_size Goods s n f in
      parties (at 1) (at 2) (at 3) (at 4) (size 1 (lit< tt)) (size 2 (lit< tt)) (size 3 (lit< tt)) (size 4 (lit< tt))
      (at 5 ++ (at 6 ++ (at 7 ++ []))) (at 8 ++ [])
