-- Cases of booking on bytes: the desk's eight records, the whole table of cases marked P, unsound books, and calls by key. Each record meets one roster, `schools`.
use Rattle.std.specs.Prelude.{ℕ, ◌*◌, List, [], ◌∷◌, ◌++◌, replicate, take}
use Rattle.std.proofs.Math.Seq.{slice}
use Rattle.std.proofs.lemmas.List.Edits.{sets}
use Rattle.cells.specs.Bytes.{bytes}
use Rattle.roster.specs.Cases.{entry}
use Rattle.record.specs.Read.{check}
use Rattle.record.specs.Samples.{X, Y, Z, put, Call, reads, books}
use Rattle.record.specs.Edges.{C, full_table}
use Rattle.record.specs.declared.answer.Checked.{Checked}
use Rattle.record.specs.declared.layout.Kind.TheVariants.{Order, Goods}
use Rattle.entry.specs.Report.{no_report}
use Rattle.entry.specs.Stored.{line_width, slip_width, ordered_at, arrived_at, slip_key_width}
use Rattle.book.specs.Lent.{Lent}
use Rattle.book.specs.Booking.{told_in, lent_after, book}
use Rattle.book.specs.Asked.{line_asked}
use Rattle.book.specs.declared.answer.Told.{Told}

-- an empty book whose rooms held something else before
abbrev pub roomy : ℕ → ℕ → Lent
roomy lines slips = record { lines = replicate (lines * line_width) 7; slips = replicate (slips * slip_width) 7; used = 0 ∷ 0 ∷ [] }

-- a roster of three schools, X's own among them, with room for all that the cases order
abbrev pub schools : List ℕ
schools = entry "43211     VD" 500 ++ (entry "43210     VD" 500 ++ entry "43212     VD" 500)

-- what the calls give the desk to print of a record: answer, ordered, filled, open, let go, extra, the last message
abbrev pub printed : Told → List ℕ
printed t =
    t.answer ∷ t.figures.ordered.0 ∷ t.figures.filled.0 ∷ t.figures.still_open.0 ∷ t.figures.let_go.0 ∷ t.figures.extra.0 ∷ t.reported.message ∷ []

unfoldable pub desk : Lent → List (List ℕ) → List (List ℕ)
desk b [] = []
desk b (s ∷ ss) = printed (told_in (book s schools b).said) ∷ desk (book s schools b).lent ss

-- the desk's eight records (RULES 12)
unfoldable pub sample : List (List ℕ)
sample =
    X
    ∷ Y
    ∷ Y
    ∷ Z
    ∷ put 46 "0002" (put 75 "0003" Y)
    ∷ put 63 "015J" Z
    ∷ put 46 "0003" (put 75 "0005" Y)
    ∷ put 75 "0005" Y
    ∷ []

unfoldable pub sample_says : List (List ℕ)
sample_says =
    (0 ∷ 10 ∷ 0 ∷ 10 ∷ 0 ∷ 0 ∷ no_report ∷ [])
    ∷ (0 ∷ 10 ∷ 4 ∷ 6 ∷ 0 ∷ 0 ∷ no_report ∷ [])
    ∷ (17 ∷ 0 ∷ 0 ∷ 0 ∷ 0 ∷ 0 ∷ 0 ∷ [])
    ∷ (0 ∷ 10 ∷ 4 ∷ 0 ∷ 6 ∷ 0 ∷ 10 ∷ [])
    ∷ (0 ∷ 10 ∷ 7 ∷ 0 ∷ 3 ∷ 0 ∷ 10 ∷ [])
    ∷ (0 ∷ 10 ∷ 7 ∷ 3 ∷ 0 ∷ 0 ∷ 15 ∷ [])
    ∷ (0 ∷ 10 ∷ 10 ∷ 0 ∷ 0 ∷ 2 ∷ 15 ∷ [])
    ∷ (18 ∷ 0 ∷ 0 ∷ 0 ∷ 0 ∷ 0 ∷ 0 ∷ [])
    ∷ []

-- an advance notice, then the goods: only the goods are booked; another school with reference A-17; quantity 0; blank references; a closing record
unfoldable pub others : List (List ℕ)
others =
    X
    ∷ put 36 "          " Y
    ∷ Y
    ∷ put 4 "43211     " X
    ∷ put 16 "43211     " Y
    ∷ put 16 "43211     " (put 46 "0009" Y)
    ∷ put 16 "43212     " (put 46 "0010" Y)
    ∷ X
    ∷ put 61 "0000" X
    ∷ put 75 "0000" Y
    ∷ put 36 "          " (put 75 "0000" Y)
    ∷ put 36 "          " X
    ∷ put 50 "          " Y
    ∷ put 38 "          " Z
    ∷ C
    ∷ []

unfoldable pub others_say : List (List ℕ)
others_say =
    (0 ∷ 10 ∷ 0 ∷ 10 ∷ 0 ∷ 0 ∷ no_report ∷ [])
    ∷ (13 ∷ 0 ∷ 0 ∷ 0 ∷ 0 ∷ 0 ∷ 0 ∷ [])
    ∷ (0 ∷ 10 ∷ 4 ∷ 6 ∷ 0 ∷ 0 ∷ no_report ∷ [])
    ∷ (0 ∷ 10 ∷ 0 ∷ 10 ∷ 0 ∷ 0 ∷ no_report ∷ [])
    ∷ (0 ∷ 10 ∷ 4 ∷ 6 ∷ 0 ∷ 0 ∷ no_report ∷ [])
    ∷ (0 ∷ 10 ∷ 8 ∷ 2 ∷ 0 ∷ 0 ∷ no_report ∷ [])
    ∷ (16 ∷ 0 ∷ 0 ∷ 0 ∷ 0 ∷ 0 ∷ 0 ∷ [])
    ∷ (14 ∷ 0 ∷ 0 ∷ 0 ∷ 0 ∷ 0 ∷ 0 ∷ [])
    ∷ (11 ∷ 0 ∷ 0 ∷ 0 ∷ 0 ∷ 0 ∷ 0 ∷ [])
    ∷ (11 ∷ 0 ∷ 0 ∷ 0 ∷ 0 ∷ 0 ∷ 0 ∷ [])
    ∷ (13 ∷ 0 ∷ 0 ∷ 0 ∷ 0 ∷ 0 ∷ 0 ∷ [])
    ∷ (12 ∷ 0 ∷ 0 ∷ 0 ∷ 0 ∷ 0 ∷ 0 ∷ [])
    ∷ (12 ∷ 0 ∷ 0 ∷ 0 ∷ 0 ∷ 0 ∷ 0 ∷ [])
    ∷ (12 ∷ 0 ∷ 0 ∷ 0 ∷ 0 ∷ 0 ∷ 0 ∷ [])
    ∷ (13 ∷ 0 ∷ 0 ∷ 0 ∷ 0 ∷ 0 ∷ 0 ∷ [])
    ∷ []

-- what the calls say of a record of the table of cases marked P
abbrev pub says : Call → List ℕ → Checked
says reads s = (check s full_table).said
says books s = record { answer = (book s schools (roomy 1 1)).said.answer; place = (book s schools (roomy 1 1)).said.place; fields = 0 }

-- rooms for so many lines and slips with X entered, and with X and Y
abbrev pub with_x : ℕ → ℕ → Lent
with_x lines slips = lent_after Order X (roomy lines slips) 0

abbrev pub with_both : ℕ → ℕ → Lent
with_both lines slips = lent_after Goods Y (with_x lines slips) 0

-- the book after X and Y, and books with one thing broken
abbrev pub two : Lent
two = with_both 2 2

abbrev with_lines : (List ℕ → List ℕ) → Lent
with_lines f = record { lines = f two.lines; slips = two.slips; used = two.used }

abbrev with_slips : (List ℕ → List ℕ) → Lent
with_slips f = record { lines = two.lines; slips = f two.slips; used = two.used }

abbrev with_used : List ℕ → Lent
with_used u = record { lines = two.lines; slips = two.slips; used = u }

-- the answer of each to the report Z
unfoldable pub unsound : List Lent
unsound =
    two
    ∷ with_lines (λ l. take 131 l)
    ∷ with_lines (λ l. [])
    ∷ with_lines (λ l. l ++ replicate (511 * line_width) 0)
    ∷ with_lines (λ l. l ++ replicate (510 * line_width) 0)
    ∷ with_slips (λ l. take 99 l)
    ∷ with_slips (λ l. [])
    ∷ with_used (3 ∷ 1 ∷ [])
    ∷ with_used (1 ∷ 3 ∷ [])
    ∷ with_used (0 ∷ 1 ∷ [])
    ∷ with_used (2 ∷ 1 ∷ [])  -- the second line's bytes are no line
    ∷ with_lines (λ l. sets l ordered_at (0 ∷ 0 ∷ []))
    ∷ with_lines (λ l. sets l ordered_at (15 ∷ 39 ∷ []))
    ∷ with_lines (λ l. sets l ordered_at (16 ∷ 39 ∷ []))
    ∷ with_lines (λ l. sets l arrived_at (127 ∷ 150 ∷ 152 ∷ 0 ∷ []))
    ∷ with_lines (λ l. sets l arrived_at (128 ∷ 150 ∷ 152 ∷ 0 ∷ []))
    ∷ with_slips (λ l. sets l slip_key_width (1 ∷ 0 ∷ []))
    ∷ []

unfoldable pub answers_to : List ℕ → List Lent → List ℕ
answers_to s [] = []
answers_to s (b ∷ bs) = (book s schools b).said.answer ∷ answers_to s bs

unfoldable pub unsound_says : List ℕ
unsound_says = 0 ∷ 20 ∷ 20 ∷ 20 ∷ 0 ∷ 20 ∷ 20 ∷ 20 ∷ 20 ∷ 20 ∷ 20 ∷ 20 ∷ 0 ∷ 20 ∷ 0 ∷ 20 ∷ 20 ∷ []

-- the fields of the key of the line that X adds, from a school and its qualifier on
abbrev pub key_from : List ℕ → List ℕ → List (List ℕ)
key_from school qualifier =
    school ∷ qualifier ∷ slice 16 26 X ∷ slice 26 28 X ∷ slice 36 46 X ∷ []

-- calls by key on the book after X: X's own; the school's last blank moved to the qualifier; another school; X's own with one line more than there is room for
unfoldable pub asked : Lent → List (List ℕ)
asked b =
    printed (line_asked (key_from (slice 4 14 X) (slice 14 16 X)) b)
    ∷ printed (line_asked (key_from (slice 4 13 X) (slice 13 16 X)) b)
    ∷ printed (line_asked (key_from (bytes "43211     ") (slice 14 16 X)) b)
    ∷ printed (line_asked (key_from (slice 4 14 X) (slice 14 16 X)) (record { lines = b.lines; slips = b.slips; used = 2 ∷ 0 ∷ [] }))
    ∷ []

unfoldable pub asked_say : List (List ℕ)
asked_say =
    (0 ∷ 10 ∷ 0 ∷ 10 ∷ 0 ∷ 0 ∷ no_report ∷ [])
    ∷ (16 ∷ 0 ∷ 0 ∷ 0 ∷ 0 ∷ 0 ∷ 0 ∷ [])
    ∷ (16 ∷ 0 ∷ 0 ∷ 0 ∷ 0 ∷ 0 ∷ 0 ∷ [])
    ∷ (20 ∷ 0 ∷ 0 ∷ 0 ∷ 0 ∷ 0 ∷ 0 ∷ [])
    ∷ []
