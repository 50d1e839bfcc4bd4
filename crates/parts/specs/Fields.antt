-- The optional fields of a part as it is written (RULES 2.5, 5.4). A value that its field cannot hold becomes bytes that break it.
use Rattle.std.specs.Prelude.{ℕ, zero, suc, ◌+◌, Bool, List, [], ◌∷◌, ◌++◌, leb, take, get_or}
use Rattle.cells.specs.Bytes.{pick, bytes}
use Rattle.record.specs.Fields.{Optional}
use Rattle.writing.specs.Digits.{unwritable, number_bytes}
use Rattle.parts.specs.Loops.{Member, loop}
use Rattle.parts.specs.Part.{most_digits, article_width, part_width, medium_at, is_medium, lent_part}
use Rattle.parts.specs.declared.part.Medium.{Medium}
use Rattle.parts.specs.declared.part.Medium.TheVariants.{Physical, Digital}
use Rattle.parts.specs.declared.part.PartPrice.{PartPrice}
use Rattle.parts.specs.declared.part.PartArticle.{PartArticle}
use Rattle.parts.specs.declared.part.Part.{Part}

-- an amount in as many digits as it is written with
unfoldable pub amount_text : PartPrice → List ℕ
amount_text p = pick (leb p.digits most_digits) (number_bytes p.digits p.amount.0) (unwritable 1)

-- an article without the zeros behind it
unfoldable pub article_text : PartArticle → List ℕ
article_text a = pick (leb a.length article_width) (take a.length a.bytes) (unwritable 1)

-- a medium, where one is named
abbrev pub medium_name : Medium → List ℕ
medium_name Physical = bytes "PHY"
medium_name Digital = bytes "DIG"

unfoldable pub medium_text : Bool → Medium → List ℕ
medium_text named m = pick named (medium_name m) (unwritable 3)

-- the ten contents of a part's loop, in its order; named is whether a medium is
unfoldable pub part_texts : Bool → Part → List (List ℕ)
part_texts named p =
    (p.tax ∷ [])
    ∷ amount_text p.net
    ∷ p.net.qualifier
    ∷ p.net.currency
    ∷ amount_text p.list
    ∷ p.list.qualifier
    ∷ p.list.currency
    ∷ article_text p.article
    ∷ p.article.qualifier
    ∷ medium_text named p.medium
    ∷ []

-- contents with the IDs of a loop's members
unfoldable pub with_ids : List Member → List (List ℕ) → List Optional
with_ids [] cs = []
with_ids (m ∷ ms) [] = []
with_ids (m ∷ ms) (c ∷ cs) = record { id = m.id; content = c } ∷ with_ids ms cs

-- the fields of a part
unfoldable pub part_fields : Bool → Part → List Optional
part_fields named p = with_ids loop (part_texts named p)

-- the fields of the part that stands lent at a place
unfoldable pub lent_loop : List ℕ → ℕ → List Optional
lent_loop s at = part_fields (is_medium (get_or s (at + medium_at) 0)) (lent_part s at)

-- the fields of the first n lent parts, from a place on
unfoldable pub lent_fields : ℕ → List ℕ → ℕ → List Optional
lent_fields zero s at = []
lent_fields (suc n) s at = lent_loop s at ++ lent_fields n s (at + part_width)
