-- What the entries of a save hold, in either form (RULES 9.1). The front of a line and the body of a slip are given by their index.
use Rattle.std.specs.Prelude.{ℕ, ◌+◌, Bool, not, ◌&&◌, List, ◌++◌, map, eqb, leb, ltb, length, get_or, take}
use Rattle.std.proofs.Math.Seq.{slice}
use Rattle.cells.specs.Bytes.{pick, within, same}
use Rattle.cells.specs.Little.{le_at}
use Rattle.cells.specs.Search.{all_from, sum_from}
use Rattle.signs.specs.Class.{all_of, of_class, named}
use Rattle.signs.specs.declared.Class.TheVariants.{Any, Allowed, Digit, Blank}
use Rattle.rules.specs.Day.{is_day}
use Rattle.record.specs.Layout.{no_field, layout, first_broken}
use Rattle.record.specs.declared.layout.Field.{Field}
use Rattle.record.specs.declared.layout.Kind.TheVariants.{Goods}
use Rattle.entry.specs.Report.{report_sound}
use Rattle.entry.specs.Stored.{key_width, ordered_at, mark_at, message_at, expected_at, slip_key_width, slip_copies_place, most_copies, most_arrived}
use Rattle.book.specs.Booking.{key_fields, article_fields, slip_fields}
use Rattle.save.specs.Form.{front_width}

-- an address and its qualifier
abbrev pub party_width : ℕ
party_width = 12

-- where the reference stands in a line's key, and the slip number in a slip's key; both are of one width
abbrev pub reference_at : ℕ
reference_at = 24

abbrev pub slip_number_at : ℕ
slip_number_at = 32

abbrev pub name_width : ℕ
name_width = 10

-- the fields of a goods record that a line keeps: its key, then its article
abbrev pub line_fields : List ℕ
line_fields = key_fields Goods ++ article_fields Goods

-- the fields of a goods record with these indexes
unfoldable pub goods_fields : List ℕ → List Field
goods_fields is = map (λ i. get_or (layout Goods) i no_field) is

-- a line's key and article, or a slip's key, are as a goods record could have them (RULES 9.1): allowed bytes, each field by its rule, and something in the name that stands at a place
unfoldable pub fields_kept : List ℕ → ℕ → List ℕ → Bool
fields_kept fields at s =
    all_of Allowed s && (eqb (first_broken (goods_fields fields) s) (length fields) && not (all_of Blank (slice at (at + name_width) s)))

-- mark, message and expected date of a line, by its front, go together
unfoldable pub report_kept : List ℕ → Bool
report_kept front = report_sound (get_or front mark_at 0) (le_at front message_at 2) (slice expected_at front_width front)

-- a line, by its front: its key and article, Q from 1 to 9,999, and what it says of its last report
unfoldable pub line_kept : List ℕ → Bool
line_kept front =
    fields_kept line_fields reference_at (take ordered_at front) && (within 1 most_copies (le_at front ordered_at 2) && report_kept front)

-- a slip and its line are of one school and one supplier; a slip's key begins with the supplier, a line's with the school
unfoldable pub parties_agree : List ℕ → List ℕ → Bool
parties_agree slip line =
    same (slice 0 party_width slip) (slice party_width (party_width + party_width) line)
    && same (slice party_width (party_width + party_width) slip) (slice 0 party_width line)

-- the index of a slip's line, and its quantity
unfoldable pub line_index : List ℕ → ℕ
line_index body = le_at body slip_key_width 2

unfoldable pub slip_copies : List ℕ → ℕ
slip_copies body = le_at body slip_copies_place 2

-- a slip: its key, one of the n lines, quantity from 1 to 9,999
unfoldable pub slip_kept : ℕ → (ℕ → List ℕ) → List ℕ → Bool
slip_kept n line body =
    fields_kept slip_fields slip_number_at (take slip_key_width body)
    && (within 1 most_copies (slip_copies body)
    && (ltb (line_index body) n && parties_agree body (line (line_index body))))

-- what a slip's key has besides its parties, which are those of its line: allowed bytes, a date, a slip number, which is not blank, and a position
unfoldable pub slip_named : List ℕ → Bool
slip_named key =
    all_of Allowed key
    && ((is_day (slice (party_width + party_width) slip_number_at key)
    && (named Any (slice slip_number_at (slip_number_at + name_width) key) && of_class Digit 4 4 (slice (slip_number_at + name_width) slip_key_width key)))
    && not (all_of Blank (slice slip_number_at (slip_number_at + name_width) key)))

-- none of the first n entries has a key
unfoldable pub is_new : ℕ → (ℕ → List ℕ) → List ℕ → ℕ → Bool
is_new width body key n = all_from (λ e. not (same (take width (body e)) key)) n 0

-- no earlier entry has the key of the entry at i; a key is so many bytes at the front of a body
unfoldable pub is_first : ℕ → (ℕ → List ℕ) → ℕ → Bool
is_first width body i = all_from (λ e. not (same (take width (body e)) (take width (body i)))) i 0

-- the copies of the slip at j where it names the line at i, else none
unfoldable pub copies_on : (ℕ → List ℕ) → ℕ → ℕ → ℕ
copies_on slip i j = pick (eqb (line_index (slip j)) i) (slip_copies (slip j)) 0

-- A of the line at i: the sum of the m slips that name it
unfoldable pub arrived_on : (ℕ → List ℕ) → ℕ → ℕ → ℕ
arrived_on slip m i = sum_from (copies_on slip i) m 0

-- each of n lines keeps the rules, and no two share a key
unfoldable pub lines_kept : ℕ → (ℕ → List ℕ) → Bool
lines_kept n line = all_from (λ i. line_kept (line i) && is_first key_width line i) n 0

-- each of m slips keeps the rules, and no two share a key
unfoldable pub slips_kept : ℕ → ℕ → (ℕ → List ℕ) → (ℕ → List ℕ) → Bool
slips_kept n m line slip = all_from (λ j. slip_kept n line (slip j) && is_first slip_key_width slip j) m 0

-- no line's sum is over the limit
unfoldable pub sums_kept : ℕ → ℕ → (ℕ → List ℕ) → Bool
sums_kept n m slip = all_from (λ i. leb (arrived_on slip m i) most_arrived) n 0

-- n lines and m slips that a book can hold
unfoldable pub entries_kept : ℕ → ℕ → (ℕ → List ℕ) → (ℕ → List ℕ) → Bool
entries_kept n m line slip = lines_kept n line && (slips_kept n m line slip && sums_kept n m slip)
