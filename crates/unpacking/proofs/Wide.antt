-- How wide the values of a part are: as the arrays that hold them.
use mathlib.Core.Path.{◌≡◌, sym}
use mathlib.Core.List.{List}
use Prim.Native.Nat.{ℕ}
use native.Mathlib.Nat.{add-zero}
use lib.ListN.{length, length-append}
use lib.Seq.{sets}
use mir.Val.{Val}
use denote.Laws.{Is}
use denote.Struct.Declared.{row}
use Rattle.cells.specs.Bytes.{joined}
use Rattle.cells.specs.Little.{le_bytes}
use Rattle.cells.proofs.Filled.{Filled}
use Rattle.parts.specs.Part.{price_width, price_bytes}
use Rattle.parts.specs.declared.part.PartPrice.{PartPrice}
use Rattle.parts.specs.declared.part.PartArticle.{PartArticle}
use Rattle.parts.specs.declared.part.Part.{Part}
use Rattle.parts.specs.contracts.part.PartPrice as price
use Rattle.parts.specs.contracts.part.PartArticle as article
use Rattle.parts.specs.contracts.part.Part as part

pub record PriceWide (p : PartPrice) : Type 0 where
  pub qualifier : length p.qualifier ≡ 2
  pub currency : length p.currency ≡ 3

pub record ArticleWide (a : PartArticle) : Type 0 where
  pub bytes : length a.bytes ≡ 35
  pub qualifier : length a.qualifier ≡ 2

pub record PartWide (p : Part) : Type 0 where
  pub net : PriceWide p.net
  pub list : PriceWide p.list
  pub article : ArticleWide p.article

-- what owning a value tells of its parts, which stand in the order of its fields
pub price_wide : (p : PartPrice) (vs : List Val) → Is (row price.the_type) p vs → PriceWide p
price_wide p vs g =
    let qualifier = g.1.1.1.1 in
    record {
      qualifier = qualifier.0.1.0.1;
      currency = qualifier.1.0.1.0.1;
    }

pub article_wide : (a : PartArticle) (vs : List Val) → Is (row article.the_type) a vs → ArticleWide a
article_wide a vs g =
    let bytes = g.1.1.1 in
    record {
      bytes = bytes.0.1.0.1;
      qualifier = bytes.1.0.1.0.1;
    }

pub part_wide : (p : Part) (vs : List Val) → Is (row part.the_type) p vs → PartWide p
part_wide p vs g =
    let net = g.1.1.1.1 in
    record {
      net = price_wide p.net _ net.0;
      list = price_wide p.list _ net.1.0;
      article = article_wide p.article _ net.1.1.0;
    }

-- a price fills its bytes
pub price_length : {p : PartPrice} → PriceWide p → length (price_bytes p) ≡ price_width
unfolding price_bytes joined le_bytes
price_length w = simp (length-append, w.qualifier, w.currency)

-- values stored one behind the other are all of them stored
pub stored : {n base : ℕ} {ps : List (List ℕ)} {d out : List ℕ} → Filled n base 0 ps d out → out ≡ sets d base (joined ps)
stored f = sym (rw add-zero at f.made)
