-- Writing a record: its refusals in their order, and the bytes that it writes (RULES 5).
use Rattle.std.specs.Prelude.{ℕ, zero, suc, ◌+◌, ◌-◌, ◌*◌, min, Bool, not, ◌&&◌, List, [], ◌∷◌, ◌++◌, eqb, leb, ltb, length, drop, get_or, Err, None, Ok, Option, Some}
use Rattle.std.proofs.Math.Seq.{slice}
use Rattle.cells.specs.Bytes.{pick, bytes, all, run}
use Rattle.signs.specs.Class.{star, allowed, belongs}
use Rattle.signs.specs.declared.Class.TheVariants.{Allowed}
use Rattle.record.specs.Layout.{most_bytes, most_fields, layout, fixed_width, kind_of, first_broken}
use Rattle.record.specs.Contents.{content_kept, group_kept}
use Rattle.record.specs.Fields.{last_id, Optional}
use Rattle.record.specs.Read.{entry_width}
use Rattle.record.specs.declared.layout.Field.{Field}
use Rattle.record.specs.declared.layout.Kind.{Kind}
use Rattle.writing.specs.Digits.{digits_of}
use Rattle.writing.specs.declared.answer.Refusal.{Refusal}
use Rattle.writing.specs.declared.answer.Refusal.TheVariants.{FixedField, TooManyFields, SmallTable, Content, Group, TooLong, SmallOutput}
use Rattle.writing.specs.Verdicts.{Verdict}
use Rattle.writing.specs.declared.answer.Written.{Written}
use Rattle.writing.specs.declared.entries.Entry.{Entry}

-- the answer number of each refusal
unfoldable pub refusal_number : Refusal → ℕ
refusal_number (FixedField i) = 5
refusal_number TooManyFields = 8
refusal_number SmallTable = 23
refusal_number (Content i) = 9
refusal_number (Group i) = 10
refusal_number TooLong = 1
refusal_number SmallOutput = 23

-- the place of a refusal: in writing an index, not a byte (RULES 5.1)
unfoldable pub refusal_place : Refusal → ℕ
refusal_place (FixedField i) = i
refusal_place TooManyFields = most_fields
refusal_place SmallTable = 0
refusal_place (Content i) = i
refusal_place (Group i) = i
refusal_place TooLong = 0
refusal_place SmallOutput = 0

-- a refusal gives its number and place and zeros; 0 is done, with the number of bytes written
unfoldable pub written_of : Verdict → Written
written_of (Err r) = record { answer = refusal_number r; place = refusal_place r; length = 0 }
written_of (Ok n) = record { answer = 0; place = 0; length = n }

-- the first refusal of two stages of writing
infixr 20 ◌next◌
unfoldable pub ◌next◌ : Verdict → Verdict → Verdict
Err r next b = Err r
Ok n next b = b

-- the index of the field that the byte at a place stands in, or the number of fields where it stands past them
unfoldable pub field_holding : List Field → ℕ → ℕ
field_holding [] p = 0
field_holding (f ∷ fs) p = pick (ltb p f.size) 0 (suc (field_holding fs (p - f.size)))

-- the index of the first fixed field with a fault, in its rule or in one of its bytes
unfoldable pub first_faulty : Kind → List ℕ → ℕ
first_faulty k fixed = min (first_broken (layout k) fixed) (field_holding (layout k) (run (belongs Allowed) fixed))

-- 5: a first field that names no kind, or a length that is not the kind's, breaks field 0
unfoldable pub fixed_judged : Option Kind → List ℕ → Verdict
fixed_judged None fixed = Err (FixedField 0)
fixed_judged (Some k) fixed =
    pick (eqb (length fixed) (fixed_width k))
    (pick (eqb (first_faulty k fixed) (length (layout k))) (Ok 0) (Err (FixedField (first_faulty k fixed))))
    (Err (FixedField 0))

-- the entry that a table begins with: the ID, and where in the lent contents its content stands
unfoldable pub entry_of : List ℕ → Entry
entry_of table = record { id = get_or table 0 0; place = get_or table 1 0; width = get_or table 2 0 }

-- the first n entries of a table
unfoldable pub entries : ℕ → List ℕ → List Entry
entries zero table = []
entries (suc n) table = entry_of table ∷ entries n (drop entry_width table)

unfoldable pub content_in : List ℕ → Entry → List ℕ
content_in contents e = slice e.place (e.place + e.width) contents

-- the optional field that an entry names, and those that entries name
unfoldable pub optional_in : List ℕ → Entry → Optional
optional_in contents e = record { id = e.id; content = content_in contents e }

unfoldable pub optional_of : List ℕ → List Entry → List Optional
optional_of contents [] = []
optional_of contents (e ∷ es) = optional_in contents e ∷ optional_of contents es

-- a byte of a content: allowed, and no star
abbrev pub content_byte : ℕ → Bool
content_byte b = allowed b && not (star b)

-- a content stands inside the lent bytes
unfoldable pub inside : List ℕ → Entry → Bool
inside contents e = leb (e.place + e.width) (length contents)

-- an ID below 9999, a content inside the lent bytes, and bytes that may stand there
unfoldable pub writable : List ℕ → Entry → Bool
writable contents e =
    ltb e.id last_id && (inside contents e && all content_byte (content_in contents e))

-- the ID that follows a field: of the next entry, or of the last field
unfoldable pub next_id : List Entry → ℕ
next_id [] = last_id
next_id (e ∷ es) = e.id

-- an entry can be written as a field of a record of a kind
unfoldable pub entry_kept : Kind → List ℕ → Entry → Bool
entry_kept k contents e = writable contents e && content_kept k e.id (content_in contents e)

-- 9 and 10 per field, the first of the entries having index i; before is the ID of the field before it, where there is one
unfoldable pub fields_judged : Kind → List ℕ → Option ℕ → ℕ → List Entry → Verdict
fields_judged k contents before i [] = Ok 0
fields_judged k contents before i (e ∷ es) =
    pick (entry_kept k contents e)
    (pick (group_kept before e.id (next_id es)) (fields_judged k contents (Some e.id) (i + 1) es) (Err (Group i)))
    (Err (Content i))

-- a field as it is written: a star, four digits of ID, the content
unfoldable pub field_text : Optional → List ℕ
field_text f = 42 ∷ digits_of 4 f.id ++ f.content

-- the optional part: its fields, then `*9999`
unfoldable pub optional_text : List Optional → List ℕ
optional_text [] = bytes "*9999"
optional_text (f ∷ fs) = field_text f ++ optional_text fs

-- the whole record
unfoldable pub record_text : List ℕ → List Optional → List ℕ
record_text fixed fs = fixed ++ optional_text fs

-- 1, then 23
unfoldable pub length_judged : ℕ → List ℕ → Verdict
length_judged n out = pick (ltb most_bytes n) (Err TooLong) (pick (ltb (length out) n) (Err SmallOutput) (Ok n))

-- 8, then 23: so many entries of a table, where a record may have at most so many and the table has them all
unfoldable pub lent_judged : ℕ → List ℕ → ℕ → Verdict
lent_judged most table count = pick (ltb most count) (Err TooManyFields) (pick (ltb (length table) (count * entry_width)) (Err SmallTable) (Ok count))

-- 8, 23, then 9 and 10, then 1 and 23, of a record whose fixed part keeps its rules
unfoldable pub rest_judged : Option Kind → List ℕ → List ℕ → ℕ → List ℕ → List ℕ → Verdict
rest_judged None fixed table count contents out = Err (FixedField 0)
rest_judged (Some k) fixed table count contents out =
    pick (ltb most_fields count) (Err TooManyFields)
    (pick (ltb (length table) (count * entry_width)) (Err SmallTable)
    (fields_judged k contents None 0 (entries count table)
    next length_judged (length (record_text fixed (optional_of contents (entries count table)))) out))

unfoldable pub write_judged : List ℕ → List ℕ → ℕ → List ℕ → List ℕ → Verdict
write_judged fixed table count contents out = fixed_judged (kind_of fixed) fixed next rest_judged (kind_of fixed) fixed table count contents out

-- what writing says, and the lent output afterwards: the record in front on success, else as it was
pub record Outcome : Type 0 where
  pub said : Written
  pub out : List ℕ

abbrev pub outcome : Written → List ℕ → Outcome
outcome w o = record { said = w; out = o }

unfoldable pub output_after : Verdict → List ℕ → List ℕ → List ℕ
output_after (Err r) text out = out
output_after (Ok n) text out = text ++ drop n out

unfoldable pub write : List ℕ → List ℕ → ℕ → List ℕ → List ℕ → Outcome
write fixed table count contents out =
    outcome (written_of (write_judged fixed table count contents out))
    (output_after (write_judged fixed table count contents out) (record_text fixed (optional_of contents (entries count table))) out)
