-- What is asked of the fields of lent parts before they are written, and their text.
use Rattle.std.specs.Prelude.{ℕ, suc, ◌+◌, Bool, ◌&&◌, List, [], ◌∷◌, ◌++◌, get_or}
use Rattle.cells.specs.Bytes.{pick, all}
use Rattle.rules.specs.Rule.{keeps}
use Rattle.record.specs.Contents.{content_rule}
use Rattle.record.specs.Fields.{Optional}
use Rattle.writing.specs.Write.{content_byte, field_text}
use Rattle.parts.specs.Part.{medium_at, medium_in, is_medium, lent_article}
use Rattle.parts.specs.Fields.{amount_text, article_text, medium_text}
use Rattle.parts.specs.declared.part.PartPrice.{PartPrice}

-- a content of bytes that may stand there, as the table of contents has it
unfoldable pub is_kept : ℕ → List ℕ → Bool
is_kept id content = all content_byte content && keeps (content_rule id) [] content

-- the index of the first field that cannot be written, or the number of fields where there is none
unfoldable pub first_fault : List Optional → ℕ
first_fault [] = 0
first_fault (f ∷ fs) = pick (is_kept f.id f.content) (suc (first_fault fs)) 0

-- the three fields of a price
abbrev pub price_loop : PartPrice → List Optional
price_loop p = record { id = 1029; content = amount_text p } ∷ record { id = 1030; content = p.qualifier } ∷ record { id = 1032; content = p.currency } ∷ []

-- and the three behind the prices, of the part that stands lent at a place
abbrev pub article_loop : List ℕ → ℕ → List Optional
article_loop s at =
    record { id = 1101; content = article_text (lent_article s at) }
    ∷ record { id = 1102; content = (lent_article s at).qualifier }
    ∷ record { id = 1151; content = medium_text (is_medium (get_or s (at + medium_at) 0)) (medium_in (get_or s (at + medium_at) 0)) }
    ∷ []

-- fields as they are written, without the last one
unfoldable pub fields_text : List Optional → List ℕ
fields_text [] = []
fields_text (f ∷ fs) = field_text f ++ fields_text fs
