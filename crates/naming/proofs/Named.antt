-- The keys, the school, the article and the slip number that a record names are parts of its bytes.
use mathlib.Core.Path.{◌≡◌, ◌∙◌, ap, ap₂, sym, refl}
use mathlib.Core.List.{List, ◌++◌, append_assoc, append-nil}
use Prim.Native.Nat.{ℕ, ◌+◌}
use lib.Seq.{slice}
use Rattle.cells.specs.Bytes.{joined}
use Rattle.cells.proofs.Parts.{parts_join}
use Rattle.record.specs.Layout.{layout, total, start_of}
use Rattle.record.specs.Values.{field_bytes}
use Rattle.record.specs.declared.layout.Kind.TheVariants.{Order, Goods, Report}
use Rattle.book.specs.Booking.{key_fields, line_key, article_fields, article_in, slip_key, school_in, nothing_to_book}
use Rattle.signs.specs.Class.{all_of}
use Rattle.signs.specs.declared.Class.TheVariants.{Blank}

-- a part and the part after it, before a rest
join : (at n m : ℕ) (s rest : List ℕ) → slice at (at + n) s ++ (slice (at + n) (at + n + m) s ++ rest) ≡ slice at (at + (n + m)) s ++ rest
join at n m s rest = sym (append_assoc (slice at (at + n) s) _ rest) ∙ ap (λ (p : List ℕ). p ++ rest) (parts_join at n m s)

module _ (s : List ℕ) where
  -- the article, with its qualifier
  pub order_article_is : article_in Order s ≡ slice 46 61 s
  unfolding article_in article_fields joined field_bytes start_of total layout
  order_article_is = join 46 13 2 s _ ∙ append-nil _

  pub goods_article_is : article_in Goods s ≡ slice 60 75 s
  unfolding article_in article_fields joined field_bytes start_of total layout
  goods_article_is = join 60 13 2 s _ ∙ append-nil _

  pub report_article_is : article_in Report s ≡ slice 48 63 s
  unfolding article_in article_fields joined field_bytes start_of total layout
  report_article_is = join 48 13 2 s _ ∙ append-nil _

  -- an order's key and article stand in it in two parts
  order_key_parts : line_key Order s ≡ slice 4 28 s ++ slice 36 46 s
  unfolding line_key key_fields joined field_bytes start_of total layout
  order_key_parts = join 4 10 2 s _ ∙ join 4 12 10 s _ ∙ join 4 22 2 s _ ∙ ap (λ (r : List ℕ). slice 4 28 s ++ r) (append-nil _)

  pub order_parts : slice 4 28 s ++ slice 36 61 s ≡ line_key Order s ++ article_in Order s
  order_parts =
      ap (λ (r : List ℕ). slice 4 28 s ++ r) (sym (parts_join 36 10 15 s))
      ∙ sym (ap₂ (λ (p q : List ℕ). p ++ q) order_key_parts order_article_is ∙ append_assoc (slice 4 28 s) (slice 36 46 s) (slice 46 61 s))

  -- the school heads the key
  pub order_school_is : school_in Order s ≡ slice 4 16 s
  unfolding school_in key_fields joined field_bytes start_of total layout
  order_school_is = join 4 10 2 s _ ∙ append-nil _

  pub goods_school_is : school_in Goods s ≡ slice 16 28 s
  unfolding school_in key_fields joined field_bytes start_of total layout
  goods_school_is = join 16 10 2 s _ ∙ append-nil _

  pub report_school_is : school_in Report s ≡ slice 16 28 s
  unfolding school_in key_fields joined field_bytes start_of total layout
  report_school_is = join 16 10 2 s _ ∙ append-nil _

  pub slip_key_is : slip_key s ≡ slice 4 50 s
  unfolding slip_key joined field_bytes start_of total layout
  slip_key_is =
      join 4 10 2 s _ ∙ join 4 12 10 s _ ∙ join 4 22 2 s _ ∙ join 4 24 8 s _ ∙ join 4 32 10 s _ ∙ join 4 42 4 s _ ∙ append-nil _

  -- whether the slip number is blank
  pub slip_blank_is : nothing_to_book Goods s ≡ all_of Blank (slice 36 46 s)
  unfolding nothing_to_book field_bytes start_of total layout
  slip_blank_is = refl

pub ruleset named = (order_school_is, goods_school_is, report_school_is, order_article_is, goods_article_is, report_article_is)
