-- Where a line and a slip stand in the lent bytes, and what their bytes say. Numbers are little-endian.
use Rattle.std.specs.Prelude.{ℕ, ◌+◌, ◌*◌, Bool, ◌&&◌, List, ◌∷◌, ◌++◌, leb, ltb, get_or}
use Rattle.std.proofs.Math.Seq.{slice}
use Rattle.std.proofs.lemmas.List.Edits.{sets}
use Rattle.cells.specs.Bytes.{pick, within, same}
use Rattle.cells.specs.Little.{le_at, le_bytes}
use Rattle.rules.specs.Values.{copies, expected_of}
use Rattle.rules.specs.declared.amount.Copies.{Copies}
use Rattle.entry.specs.Report.{blank_date, message_of, message_number, report_sound}
use Rattle.entry.specs.Line.{mark_of, mark_byte, figures_of}
use Rattle.entry.specs.declared.report.Message.{Message}
use Rattle.entry.specs.declared.report.Message.TheVariants.{NoReport}
use Rattle.entry.specs.declared.line.Mark.{Mark}
use Rattle.entry.specs.declared.line.Mark.TheVariants.{Unmarked}
use Rattle.entry.specs.declared.line.Line.{Line}

-- a line is 66 bytes: key 34, the article of its order with its qualifier 15, Q 2, mark 1, message 2, expected date 8, A 4
abbrev pub line_width : ℕ
line_width = 66

abbrev pub key_width : ℕ
key_width = 34

abbrev pub ordered_at : ℕ
ordered_at = 49

-- the fields of a key: a party's address and its qualifier, and the reference (RULES 6.1)
abbrev pub address_width : ℕ
address_width = 10

abbrev pub qualifier_width : ℕ
qualifier_width = 2

abbrev pub reference_width : ℕ
reference_width = 10

-- school address and qualifier head the key
abbrev pub school_width : ℕ
school_width = 12

abbrev pub mark_at : ℕ
mark_at = 51

abbrev pub message_at : ℕ
message_at = 52

abbrev pub expected_at : ℕ
expected_at = 54

abbrev pub arrived_at : ℕ
arrived_at = 62

-- a slip is 50 bytes: key 46, line index 2, quantity 2
abbrev pub slip_width : ℕ
slip_width = 50

abbrev pub slip_key_width : ℕ
slip_key_width = 46

abbrev pub slip_copies_place : ℕ
slip_copies_place = 48

-- the limits of Q and of A (RULES 6.2)
abbrev pub most_copies : ℕ
most_copies = 9999

abbrev pub most_arrived : ℕ
most_arrived = 9999999

-- the expected date of the line at i, in its bytes
unfoldable pub date_at : List ℕ → ℕ → List ℕ
date_at lines i = slice (line_width * i + expected_at) (line_width * i + arrived_at) lines

unfoldable pub line_at : List ℕ → ℕ → Line
line_at lines i = record {
  ordered = copies (le_at lines (line_width * i + ordered_at) 2);
  arrived = copies (le_at lines (line_width * i + arrived_at) 4);
  mark = mark_of (get_or lines (line_width * i + mark_at) 0);
  message = message_of (le_at lines (line_width * i + message_at) 2);
  expected = expected_of (date_at lines i);
}

-- bytes put into the line at i, from a place of its entry on
unfoldable pub put_in : List ℕ → ℕ → ℕ → List ℕ → List ℕ
put_in lines i at s = sets lines (line_width * i + at) s

-- A, where copies arrived
unfoldable pub put_arrived : List ℕ → ℕ → Copies → List ℕ
put_arrived lines i n = put_in lines i arrived_at (le_bytes 4 n.0)

-- mark, message and expected date, where a report came; the date stands as in the record
unfoldable pub report_bytes : Mark → Message → List ℕ → List ℕ
report_bytes m n date = mark_byte m ∷ (le_bytes 2 (message_number n) ++ date)

unfoldable pub put_report : List ℕ → ℕ → Mark → Message → List ℕ → List ℕ
put_report lines i m n date = put_in lines i mark_at (report_bytes m n date)

-- a new line: what it is named by, its key and then its article; so many copies are ordered, no report has come and nothing has arrived
unfoldable pub new_bytes : Copies → List ℕ
new_bytes n = le_bytes 2 n.0 ++ (report_bytes Unmarked NoReport blank_date ++ le_bytes 4 0)

unfoldable pub add_line : List ℕ → ℕ → List ℕ → Copies → List ℕ
add_line lines i named n = sets lines (line_width * i) (named ++ new_bytes n)

unfoldable pub key_at : List ℕ → ℕ → List ℕ
key_at lines i = slice (line_width * i) (line_width * i + key_width) lines

unfoldable pub key_is : List ℕ → List ℕ → ℕ → Bool
key_is lines key i = same (key_at lines i) key

-- the article that was ordered, with its qualifier
unfoldable pub article_at : List ℕ → ℕ → List ℕ
article_at lines i = slice (line_width * i + key_width) (line_width * i + ordered_at) lines

unfoldable pub article_is : List ℕ → List ℕ → ℕ → Bool
article_is lines article i = same (article_at lines i) article

-- the line is a school's
unfoldable pub school_at : List ℕ → ℕ → List ℕ
school_at lines i = slice (line_width * i) (line_width * i + school_width) lines

unfoldable pub school_is : List ℕ → List ℕ → ℕ → Bool
school_is lines school i = same (school_at lines i) school

-- its open copies where it is, else none
unfoldable pub open_at : List ℕ → List ℕ → ℕ → ℕ
open_at lines school i = pick (school_is lines school i) (figures_of (line_at lines i)).still_open.0 0

-- Q and A are within their limits, and mark, message and expected date go together (RULES 6.4)
unfoldable pub line_sound : List ℕ → ℕ → Bool
line_sound lines i =
    within 1 most_copies (le_at lines (line_width * i + ordered_at) 2)
    && (leb (le_at lines (line_width * i + arrived_at) 4) most_arrived
    && report_sound (get_or lines (line_width * i + mark_at) 0) (le_at lines (line_width * i + message_at) 2) (date_at lines i))

unfoldable pub slip_key_at : List ℕ → ℕ → List ℕ
slip_key_at slips j = slice (slip_width * j) (slip_width * j + slip_key_width) slips

unfoldable pub slip_is : List ℕ → List ℕ → ℕ → Bool
slip_is slips key j = same (slip_key_at slips j) key

unfoldable pub slip_line_at : List ℕ → ℕ → ℕ
slip_line_at slips j = le_at slips (slip_width * j + slip_key_width) 2

unfoldable pub slip_copies_at : List ℕ → ℕ → Copies
slip_copies_at slips j = copies (le_at slips (slip_width * j + slip_copies_place) 2)

unfoldable pub add_slip : List ℕ → ℕ → List ℕ → ℕ → Copies → List ℕ
add_slip slips j key line n = sets slips (slip_width * j) (key ++ (le_bytes 2 line ++ le_bytes 2 n.0))

-- the index in a slip is that of a line in use
unfoldable pub slip_sound : ℕ → List ℕ → ℕ → Bool
slip_sound lines slips j = ltb (slip_line_at slips j) lines
