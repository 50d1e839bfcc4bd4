-- The optional fields of a record: their shape, and the two walks over them (RULES 2.1, 4.2).
use Rattle.std.specs.Prelude.{ℕ, zero, suc, ◌+◌, Bool, not, ◌&&◌, List, [], ◌∷◌, eqb, length, take, drop, get_or, Err, None, Ok, Option, Some}
use Rattle.std.proofs.Math.Seq.{slice}
use Rattle.cells.specs.Bytes.{pick, run}
use Rattle.signs.specs.Class.{star, of_class}
use Rattle.rules.specs.Number.{number}
use Rattle.signs.specs.declared.Class.TheVariants.{Digit}
use Rattle.record.specs.Contents.{content_kept, group_kept}
use Rattle.record.specs.declared.answer.Refusal.TheVariants.{NoField, LastField, TooManyFields, Content, Group}
use Rattle.record.specs.Verdicts.{Verdict}
use Rattle.record.specs.declared.layout.Kind.{Kind}

-- the ID of the last field
abbrev pub last_id : ℕ
last_id = 9999

-- a star and four digits
abbrev pub head_width : ℕ
head_width = 5

-- what stands at the front of t, where an optional field should start
unfoldable pub head_of : List ℕ → Option ℕ
head_of t = pick (star (get_or t 0 0) && of_class Digit 4 4 (slice 1 head_width t)) (Some (number (slice 1 head_width t))) None

-- its ID, 0 where no field stands there
unfoldable pub id_in : Option ℕ → ℕ
id_in None = 0
id_in (Some id) = id

unfoldable pub id_of : List ℕ → ℕ
id_of t = id_in (head_of t)

abbrev pub not_star : ℕ → Bool
not_star b = not (star b)

-- its content: the bytes up to the next star
unfoldable pub content_width : List ℕ → ℕ
content_width t = run not_star (drop head_width t)

unfoldable pub content_of : List ℕ → List ℕ
content_of t = take (content_width t) (drop head_width t)

-- the whole field, and what comes after it
unfoldable pub field_width : List ℕ → ℕ
field_width t = head_width + content_width t

unfoldable pub after_field : List ℕ → List ℕ
after_field t = drop (field_width t) t

-- 6 to 8: where a field should start at place p, with t left of the record after n fields; more is said by the fields from this one on
unfoldable pub on_head : Option ℕ → ℕ → ℕ → List ℕ → Verdict → Verdict
on_head None n p t more = Err (NoField p)
on_head (Some id) n p t more = pick (eqb id last_id) (pick (eqb (length t) head_width) (Ok n) (Err (LastField p))) more

unfoldable pub at_field : ℕ → ℕ → List ℕ → Verdict → Verdict
at_field n p t more = pick (eqb (length t) 0) (Err (LastField p)) (on_head (head_of t) n p t more)

-- the first walk: 6, 7 and 8; room is how many more fields there may be
unfoldable pub walk : ℕ → ℕ → ℕ → List ℕ → Verdict
walk zero n p t = at_field n p t (Err (TooManyFields p))
walk (suc room) n p t = at_field n p t (walk room (n + 1) (p + field_width t) (after_field t))

-- the second walk: 9 and then 10 at each of n fields; before is the ID of the field before the first, where there is one
unfoldable pub judge : Kind → ℕ → Option ℕ → ℕ → List ℕ → Verdict
judge k zero before p t = Ok 0
judge k (suc n) before p t =
    pick (content_kept k (id_of t) (content_of t))
    (pick (group_kept before (id_of t) (id_of (after_field t)))
    (judge k n (Some (id_of t)) (p + field_width t) (after_field t))
    (Err (Group p)))
    (Err (Content p))

-- an optional field by its ID and content
pub record Optional : Type 0 where
  pub id : ℕ
  pub content : List ℕ

-- the first n fields of t
unfoldable pub fields_of : ℕ → List ℕ → List Optional
fields_of zero t = []
fields_of (suc n) t = record { id = id_of t; content = content_of t } ∷ fields_of n (after_field t)

-- their entries in a table, three numbers each: ID, place of the content, length of the content; t stands at place p
unfoldable pub entries_of : ℕ → ℕ → List ℕ → List ℕ
entries_of zero p t = []
entries_of (suc n) p t = id_of t ∷ (p + head_width) ∷ content_width t ∷ entries_of n (p + field_width t) (after_field t)
