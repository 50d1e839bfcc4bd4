-- Cases of saving, loading and moving: the empty book, two schools' lines with their slips in both forms, each reason of 22, 23, 28, and the limit of a sum from both sides.
use Rattle.std.specs.Prelude.{ℕ, ◌+◌, ◌&&◌, List, [], ◌∷◌, ◌++◌, map, eqb, ltb, take, replicate, set}
use Prim.Native.String.{String}
use Rattle.std.proofs.lemmas.List.Edits.{sets}
use Rattle.cells.specs.Bytes.{pick, bytes}
use Rattle.cells.specs.Little.{le_bytes}
use Rattle.rules.specs.Cases.{refused_bytes, taken_bytes}
use Rattle.record.specs.Samples.{X, Y, Z, put}
use Rattle.book.specs.Lent.{Lent}
use Rattle.book.specs.Booking.{book}
use Rattle.entry.specs.Report.{message_unknown, blank_date}
use Rattle.entry.specs.Stored.{mark_at}
use Rattle.book.specs.Asked.{line_asked}
use Rattle.book.specs.Cases.{roomy, schools, with_both}
use Rattle.book.specs.Reports.{report_on, reporting, later, own_key}
use Rattle.save.specs.Saved.{Written}
use Rattle.save.specs.Load.{load}
use Rattle.save.specs.declared.answer.Saved.{Saved}

-- a saved line of the old form and a saved slip from texts and numbers, and the end
abbrev pub line_of : String → ℕ → ℕ → List ℕ
line_of key copies mark = 1 ∷ (bytes key ++ (le_bytes 2 copies ++ (mark ∷ [])))

-- a line of the old form in the new one, with a message and an expected date
abbrev pub renewed : List ℕ → ℕ → String → List ℕ
renewed line message date = set line 0 3 ++ (le_bytes 2 message ++ bytes date)

abbrev pub slip_of : String → ℕ → ℕ → List ℕ
slip_of key line copies = 2 ∷ (bytes key ++ (le_bytes 2 line ++ le_bytes 2 copies))

abbrev pub end_of : ℕ → ℕ → List ℕ
end_of lines slips = 0 ∷ (le_bytes 2 lines ++ le_bytes 2 slips)

-- two schools with reference A-17 at one supplier, and a slip of each
abbrev pub ours : List ℕ
ours = line_of "43210     VD24000     VDA-17      9783442756841EN" 10 1

abbrev pub theirs : List ℕ
theirs = line_of "43211     VD24000     VDA-17      9783442756841EN" 10 0

abbrev pub our_slip : List ℕ
our_slip = slip_of "24000     VD43210     VD2024022670012345  0001" 0 4

abbrev pub their_slip : List ℕ
their_slip = slip_of "24000     VD43211     VD2024022670012345  0001" 1 5

abbrev pub whole : List ℕ
whole = ours ++ (theirs ++ (our_slip ++ (their_slip ++ end_of 2 2)))

-- the same in the new form: ours has a message and a day, theirs no report
abbrev pub new_ours : List ℕ
new_ours = renewed ours 15 "20240315"

abbrev pub new_theirs : List ℕ
new_theirs = renewed theirs 65535 "        "

abbrev pub new_whole : List ℕ
new_whole = new_ours ++ (new_theirs ++ (our_slip ++ (their_slip ++ end_of 2 2)))

-- one line of ours with a text in place of what its entry has at a place, and one slip of ours
abbrev pub line_with : ℕ → String → List ℕ
line_with at text = put at text ours ++ end_of 1 0

abbrev pub slip_with : ℕ → String → List ℕ
slip_with at text = ours ++ (put at text our_slip ++ end_of 1 1)

-- bytes, and what loading them answers
pub record Case : Type 0 where
  pub saved : List ℕ
  pub answer : ℕ

infix 70 ◌gives◌
abbrev pub ◌gives◌ : List ℕ → ℕ → Case
s gives n = record { saved = s; answer = n }

-- into rooms for 2 lines and 2 slips
unfoldable pub loads : List Case
loads =
    whole gives 0
    ∷ end_of 0 0 gives 0  -- the empty book
    ∷ [] gives 22
    ∷ (0 ∷ 0 ∷ 0 ∷ 0 ∷ []) gives 22
    ∷ (ours ++ end_of 1 0) gives 0
    -- kinds out of order, unknown, missing
    ∷ (ours ++ (our_slip ++ (theirs ++ end_of 2 1))) gives 22
    ∷ (set ours 0 2 ++ end_of 1 0) gives 22
    ∷ (set ours 0 3 ++ end_of 1 0) gives 22
    ∷ (ours ++ (theirs ++ (set our_slip 0 1 ++ end_of 2 1))) gives 22
    ∷ (ours ++ set (end_of 1 0) 0 1) gives 22
    ∷ ours gives 22
    -- bodies cut, and bytes after the end
    ∷ (take 52 ours ++ end_of 1 0) gives 22
    ∷ (ours ++ (take 50 our_slip ++ end_of 1 1)) gives 22
    ∷ take 4 (end_of 0 0) gives 22
    ∷ (whole ++ (0 ∷ [])) gives 22
    ∷ (whole ++ end_of 2 2) gives 22
    -- counts that are not the number of entries
    ∷ (ours ++ end_of 0 0) gives 22
    ∷ (ours ++ end_of 2 0) gives 22
    ∷ (ours ++ (our_slip ++ end_of 1 0)) gives 22
    ∷ (ours ++ (our_slip ++ end_of 1 2)) gives 22
    -- a line's key by the rules of goods records
    ∷ line_with 1 "          " gives 22
    ∷ line_with 1 "43210x    " gives 22
    ∷ line_with 11 "XX" gives 22
    ∷ line_with 13 "2400 0    " gives 22
    ∷ line_with 23 "ST" gives 22
    ∷ line_with 25 "          " gives 22
    ∷ line_with 25 " -17      " gives 22
    ∷ line_with 25 "*+:?'     " gives 0  -- barred in an order, not in goods
    ∷ line_with 35 "9783442756842" gives 22
    ∷ line_with 48 "XX" gives 22
    ∷ (set ours 26 31 ++ end_of 1 0) gives 22
    ∷ (set ours 26 160 ++ end_of 1 0) gives 0
    -- Q from 1 to 9,999, the mark one of the three
    ∷ (line_of "43210     VD24000     VDA-17      9783442756841EN" 0 0 ++ end_of 1 0) gives 22
    ∷ (line_of "43210     VD24000     VDA-17      9783442756841EN" 9999 2 ++ end_of 1 0) gives 0
    ∷ (line_of "43210     VD24000     VDA-17      9783442756841EN" 10000 0 ++ end_of 1 0) gives 22
    ∷ (line_of "43210     VD24000     VDA-17      9783442756841EN" 1 3 ++ end_of 1 0) gives 22
    -- a slip's key
    ∷ slip_with 1 "24000     VD" gives 0
    ∷ slip_with 25 "20240230" gives 22
    ∷ slip_with 25 "00000000" gives 22
    ∷ slip_with 33 "          " gives 22
    ∷ slip_with 43 "000A" gives 22
    ∷ slip_with 43 "    " gives 22
    -- another school or supplier than its line's
    ∷ slip_with 1 "24001     VD" gives 22
    ∷ slip_with 1 "24000     IB" gives 22
    ∷ slip_with 13 "43211     VD" gives 22
    ∷ (ours ++ (theirs ++ (slip_of "24000     VD43210     VD2024022670012345  0001" 1 4 ++ end_of 2 1))) gives 22
    -- an index past the lines, quantity from 1 to 9,999
    ∷ (ours ++ (slip_of "24000     VD43210     VD2024022670012345  0001" 1 4 ++ end_of 1 1)) gives 22
    ∷ (ours ++ (slip_of "24000     VD43210     VD2024022670012345  0001" 0 0 ++ end_of 1 1)) gives 22
    ∷ (ours ++ (slip_of "24000     VD43210     VD2024022670012345  0001" 0 9999 ++ end_of 1 1)) gives 0
    ∷ (ours ++ (slip_of "24000     VD43210     VD2024022670012345  0001" 0 10000 ++ end_of 1 1)) gives 22
    -- repeated keys, also under another article or another qualifier alone
    ∷ (ours ++ (ours ++ end_of 2 0)) gives 22
    ∷ (ours ++ (put 35 "9783442756858" ours ++ end_of 2 0)) gives 22
    ∷ (ours ++ (put 48 "UM" ours ++ end_of 2 0)) gives 22
    ∷ (ours ++ (put 25 "A-18" ours ++ end_of 2 0)) gives 0
    ∷ (ours ++ (our_slip ++ (our_slip ++ end_of 1 2))) gives 22
    -- more than the rooms hold
    ∷ (ours ++ (theirs ++ (put 1 "43212" ours ++ end_of 3 0))) gives 23
    ∷ (ours ++ (our_slip ++ (put 43 "0002" our_slip ++ (put 43 "0003" our_slip ++ end_of 1 3)))) gives 23
    ∷ []

-- one line of ours, or of theirs, which has no mark, in the new form with a message and an expected date
abbrev pub our_report : ℕ → String → List ℕ
our_report message date = renewed ours message date ++ end_of 1 0

abbrev pub their_report : ℕ → String → List ℕ
their_report message date = renewed theirs message date ++ end_of 1 0

-- in the new form: the same rules, one form for all lines, and a mark, a message and a date that go together
unfoldable pub new_loads : List Case
new_loads =
    new_whole gives 0
    ∷ (ours ++ (new_theirs ++ end_of 2 0)) gives 22
    ∷ (new_ours ++ (theirs ++ end_of 2 0)) gives 22
    ∷ (new_ours ++ (new_ours ++ end_of 2 0)) gives 22
    ∷ (new_ours ++ (ours ++ end_of 2 0)) gives 22
    ∷ (take 62 new_ours ++ end_of 1 0) gives 22
    ∷ (set new_ours 0 1 ++ end_of 1 0) gives 22
    ∷ (new_ours ++ (0 ∷ end_of 1 0)) gives 22
    ∷ (new_ours ++ (put 13 "43211" our_slip ++ end_of 1 1)) gives 22
    ∷ (put 35 "9783442756842" new_ours ++ end_of 1 0) gives 22
    ∷ (new_ours ++ (new_theirs ++ (put 1 "43212" new_ours ++ end_of 3 0))) gives 23
    -- a number with a mark, in each form of the date
    ∷ our_report 0 "20240229" gives 0
    ∷ our_report 999 "00000000" gives 0
    ∷ our_report 999 "        " gives 0
    ∷ our_report 999 "20230229" gives 22
    ∷ our_report 999 "0000000 " gives 22
    ∷ our_report 999 "2024031x" gives 22
    ∷ our_report 1000 "20240315" gives 22
    ∷ our_report 65533 "        " gives 22
    -- unknown with a mark, none without, both with blanks, and nothing else
    ∷ our_report 65534 "        " gives 0
    ∷ our_report 65534 "00000000" gives 22
    ∷ our_report 65535 "        " gives 22
    ∷ their_report 65535 "        " gives 0
    ∷ their_report 65535 "20240315" gives 22
    ∷ their_report 65534 "        " gives 22
    ∷ their_report 0 "20240315" gives 22
    ∷ (set new_ours 52 3 ++ end_of 1 0) gives 22
    ∷ []

-- a saved book with each byte at the ends of what is allowed
abbrev at_ends : (ℕ → List ℕ) → List Case
at_ends s = map (λ b. s b gives 22) refused_bytes ++ map (λ b. s b gives 0) taken_bytes

-- in a line's reference and in a slip number
unfoldable pub byte_loads : List Case
byte_loads = at_ends (λ b. set ours 26 b ++ end_of 1 0) ++ at_ends (λ b. ours ++ (set our_slip 34 b ++ end_of 1 1))

-- the number, from 1, of the first case that loading answers otherwise, or 0
unfoldable pub first_wrong : ℕ → List Case → ℕ
first_wrong n [] = 0
first_wrong n (c ∷ cs) = pick (eqb (load c.saved (roomy 2 2)).said.answer c.answer) (first_wrong (1 + n) cs) n

-- the book after X, Y and the report Z with J
abbrev pub day : Lent
day = (book (put 63 "015J" Z) schools (book Y schools (book X schools (roomy 2 2)).lent).lent).lent

-- the book after X and Y with a report J of a message and eight blanks; day has message 15
unfoldable pub day_with : ℕ → Lent
day_with message = record { lines = sets (with_both 2 2).lines mark_at (1 ∷ (le_bytes 2 message ++ blank_date)); slips = (with_both 2 2).slips; used = (with_both 2 2).used }

abbrev pub day_whole : Lent
day_whole = day_with 15

-- the same rooms with other used counts: three lines, where there is room for two
abbrev pub overused : Lent
overused = record { lines = day_whole.lines; slips = day_whole.slips; used = 3 ∷ 1 ∷ [] }

-- a room that is no whole number of lines
abbrev pub odd_room : Lent
odd_room = record { lines = take 131 day_whole.lines; slips = day_whole.slips; used = 0 ∷ 0 ∷ [] }

-- it saves to these bytes, with what stood behind them left as it was
unfoldable pub day_saved : List ℕ
day_saved = renewed ours 15 "        " ++ (our_slip ++ end_of 1 1)

-- these bytes in the old form; the book that they load to has an unknown message
unfoldable pub day_old : List ℕ
day_old = ours ++ (our_slip ++ end_of 1 1)

unfoldable pub day_loaded : Lent
day_loaded = day_with message_unknown

-- the book after X and Y, to which no report has come, and the bytes that it saves to in each form
abbrev pub unreported : Lent
unreported = with_both 2 2

unfoldable pub unreported_saved : List ℕ
unreported_saved = renewed (set ours 52 0) 65535 "        " ++ (our_slip ++ end_of 1 1)

unfoldable pub unreported_old : List ℕ
unreported_old = set ours 52 0 ++ (our_slip ++ end_of 1 1)

-- what is told of the loaded line, of a delivery after it, and of a report after that
unfoldable pub told_after : Lent → List (List ℕ)
told_after b =
    report_on (line_asked own_key b).reported
    ∷ report_on (book later schools b).said.reported
    ∷ report_on (book (reporting "000N" "00000000") schools (book later schools b).lent).said.reported
    ∷ []

-- 1,001 slips on one line: 1,000 of 9,999 copies, and one more slip
abbrev pub many_slips : ℕ → ℕ → List ℕ
many_slips last j = replicate 46 0 ++ (le_bytes 2 0 ++ le_bytes 2 (pick (ltb j 1000) 9999 last))

-- both schools in the new form as they come from the old one: unknown where there is a mark, else none
abbrev pub whole_renewed : List ℕ
whole_renewed = renewed ours 65534 "        " ++ (new_theirs ++ (our_slip ++ (their_slip ++ end_of 2 2)))

-- bytes, the room of the output, what a move answers and how much it writes
pub record Move : Type 0 where
  pub saved : List ℕ
  pub room : ℕ
  pub answer : ℕ
  pub length : ℕ

abbrev pub moving : List ℕ → ℕ → ℕ → ℕ → Move
moving s room answer length = record { saved = s; room = room; answer = answer; length = length }

-- from the old form to the new one: 22, then 23
unfoldable pub moves_to_new : List Move
moves_to_new =
    moving whole 233 0 233
    ∷ moving whole 300 0 233
    ∷ moving whole 232 23 0
    ∷ moving (end_of 0 0) 5 0 5  -- the empty book is of both forms
    ∷ moving (end_of 0 0) 4 23 0
    ∷ moving new_whole 300 22 0
    ∷ moving new_whole 0 22 0
    ∷ moving (ours ++ (new_theirs ++ end_of 2 0)) 300 22 0
    ∷ moving (new_ours ++ (theirs ++ end_of 2 0)) 300 22 0
    ∷ moving (whole ++ (0 ∷ [])) 300 22 0
    ∷ moving (line_with 25 "          ") 300 22 0
    ∷ moving [] 300 22 0
    ∷ []

-- and back: 22, then 28, then 23
unfoldable pub moves_to_old : List Move
moves_to_old =
    moving whole_renewed 213 0 213
    ∷ moving whole_renewed 300 0 213
    ∷ moving whole_renewed 212 23 0
    ∷ moving (end_of 0 0) 5 0 5
    ∷ moving (end_of 0 0) 4 23 0
    ∷ moving new_whole 300 28 0
    ∷ moving new_whole 0 28 0  -- before 23
    ∷ moving (new_theirs ++ (new_ours ++ end_of 2 0)) 300 28 0
    ∷ moving (our_report 0 "        ") 300 28 0
    ∷ moving (our_report 999 "00000000") 300 28 0
    ∷ moving (our_report 65534 "        ") 300 0 58
    ∷ moving (their_report 65535 "        ") 300 0 58
    ∷ moving (our_report 1000 "20240315") 300 22 0
    ∷ moving (new_ours ++ end_of 2 0) 300 22 0  -- before 28
    ∷ moving (new_ours ++ (theirs ++ end_of 2 0)) 300 22 0
    ∷ moving whole 300 22 0
    ∷ moving [] 300 22 0
    ∷ []

-- the number, from 1, of the first case that a move answers otherwise, or 0; the place is always 0
unfoldable pub first_moved_wrong : (List ℕ → List ℕ → Written) → ℕ → List Move → ℕ
first_moved_wrong move n [] = 0
first_moved_wrong move n (c ∷ cs) =
    let said : Saved = (move c.saved (replicate c.room 7)).said in
    pick (eqb said.answer c.answer && (eqb said.place 0 && eqb said.length c.length)) (first_moved_wrong move (1 + n) cs) n
