-- Cases of the last report on a line: what bookings and the call by key tell of it, and which marks, messages and expected dates go together (RULES 6.2, 6.4, 7.2).
use Rattle.std.specs.Prelude.{ℕ, suc, ◌&&◌, List, [], ◌∷◌, ◌++◌, eqb}
use Prim.Native.String.{String}
use Rattle.std.proofs.Math.Seq.{slice}
use Rattle.std.proofs.lemmas.List.Edits.{sets}
use Rattle.cells.specs.Bytes.{pick, bytes, same}
use Rattle.cells.specs.Little.{le_bytes}
use Rattle.record.specs.Samples.{X, Y, Z, put}
use Rattle.entry.specs.Report.{no_report, message_unknown}
use Rattle.entry.specs.Stored.{mark_at}
use Rattle.entry.specs.declared.report.Reported.{Reported}
use Rattle.book.specs.Lent.{Lent}
use Rattle.book.specs.Booking.{book}
use Rattle.book.specs.Asked.{line_asked}
use Rattle.book.specs.Cases.{schools, with_x, with_both, key_from}

-- what is told of a last report: message, form of the expected date, year, month, day
abbrev pub report_on : Reported → List ℕ
report_on r = r.message ∷ r.expected ∷ r.year ∷ r.month ∷ r.day ∷ []

-- no report has come; one whose message is unknown; and what a refusal tells
abbrev pub none_yet : List ℕ
none_yet = no_report ∷ 3 ∷ 0 ∷ 0 ∷ 0 ∷ []

abbrev pub unknown_one : List ℕ
unknown_one = message_unknown ∷ 3 ∷ 0 ∷ 0 ∷ 0 ∷ []

abbrev pub nothing : List ℕ
nothing = 0 ∷ 0 ∷ 0 ∷ 0 ∷ 0 ∷ []

-- a report's message with its mark, and its expected date
abbrev pub reporting : String → String → List ℕ
reporting message date = put 67 date (put 63 message Z)

-- records given one after the other to the book after X and Y, with what each answers and tells
pub record Telling : Type 0 where
  pub given : List ℕ
  pub answer : ℕ
  pub told : List ℕ

abbrev pub tells : List ℕ → ℕ → List ℕ → Telling
tells s answer told = record { given = s; answer = answer; told = told }

-- a delivery at another position
abbrev pub later : List ℕ
later = put 46 "0002" Y

unfoldable pub tellings : List Telling
tellings =
    tells later 0 none_yet  -- a delivery is no report
    ∷ tells (reporting "000J" "20240315") 0 (0 ∷ 1 ∷ 2024 ∷ 3 ∷ 15 ∷ [])  -- message 000, with each form of the date
    ∷ tells (put 46 "0003" Y) 0 (0 ∷ 1 ∷ 2024 ∷ 3 ∷ 15 ∷ [])  -- a delivery keeps it
    ∷ tells (reporting "000N" "00000000") 0 (0 ∷ 2 ∷ 0 ∷ 0 ∷ 0 ∷ [])
    ∷ tells (reporting "000N" "        ") 0 (0 ∷ 3 ∷ 0 ∷ 0 ∷ 0 ∷ [])
    ∷ tells (reporting "999J" "20240229") 0 (999 ∷ 1 ∷ 2024 ∷ 2 ∷ 29 ∷ [])  -- the last one counts
    ∷ tells (reporting "999J" "20240229") 0 (999 ∷ 1 ∷ 2024 ∷ 2 ∷ 29 ∷ [])  -- also where it comes again
    ∷ tells (reporting "015N" "99991231") 0 (15 ∷ 1 ∷ 9999 ∷ 12 ∷ 31 ∷ [])
    ∷ tells (put 46 "0004" Y) 0 (15 ∷ 1 ∷ 9999 ∷ 12 ∷ 31 ∷ [])
    ∷ tells (reporting "015N" "20230229") 5 nothing  -- a refusal tells nothing, and changes nothing
    ∷ tells X 14 nothing
    ∷ tells Y 17 nothing
    ∷ tells (put 46 "0005" Y) 0 (15 ∷ 1 ∷ 9999 ∷ 12 ∷ 31 ∷ [])
    ∷ tells (reporting "001J" "00010101") 0 (1 ∷ 1 ∷ 1 ∷ 1 ∷ 1 ∷ [])
    ∷ []

-- the number, from n on, of the first that is told otherwise; 0 where all are told so
unfoldable pub first_untold : ℕ → Lent → List Telling → ℕ
first_untold n b [] = 0
first_untold n b (t ∷ ts) =
    pick (eqb (book t.given schools b).said.answer t.answer && same (report_on (book t.given schools b).said.reported) t.told)
    (first_untold (suc n) (book t.given schools b).lent ts)
    n

-- room for the deliveries among them
abbrev pub begun : Lent
begun = with_both 1 6

-- a mark, a message and an expected date that stand in X's line, with what the call by key answers and tells
pub record State : Type 0 where
  pub mark : ℕ
  pub message : ℕ
  pub date : String
  pub answer : ℕ
  pub told : List ℕ

abbrev pub sound : ℕ → ℕ → String → List ℕ → State
sound mark message date told = record { mark = mark; message = message; date = date; answer = 0; told = told }

abbrev pub unsound : ℕ → ℕ → String → State
unsound mark message date = record { mark = mark; message = message; date = date; answer = 20; told = nothing }

unfoldable pub states : List State
states =
    sound 0 no_report "        " none_yet
    -- no mark goes with no report, and with eight blanks, alone
    ∷ unsound 0 no_report "00000000"
    ∷ unsound 0 no_report "20240315"
    ∷ unsound 0 message_unknown "        "
    ∷ unsound 0 0 "        "
    ∷ unsound 0 15 "20240315"
    ∷ unsound 0 999 "00000000"
    -- a mark with an unknown message, and with eight blanks
    ∷ sound 1 message_unknown "        " unknown_one
    ∷ sound 2 message_unknown "        " unknown_one
    ∷ unsound 1 message_unknown "00000000"
    ∷ unsound 2 message_unknown "20240315"
    -- or with a number, and with each form of the date
    ∷ sound 1 0 "20240315" (0 ∷ 1 ∷ 2024 ∷ 3 ∷ 15 ∷ [])
    ∷ sound 2 0 "00000000" (0 ∷ 2 ∷ 0 ∷ 0 ∷ 0 ∷ [])
    ∷ sound 1 0 "        " (0 ∷ 3 ∷ 0 ∷ 0 ∷ 0 ∷ [])
    ∷ sound 2 999 "20241231" (999 ∷ 1 ∷ 2024 ∷ 12 ∷ 31 ∷ [])
    ∷ unsound 1 no_report "        "
    ∷ unsound 2 no_report "20240315"
    -- numbers that are no message
    ∷ unsound 1 1000 "        "
    ∷ unsound 2 1000 "20240315"
    ∷ unsound 1 1023 "        "
    ∷ unsound 1 32768 "        "
    ∷ unsound 2 65533 "        "
    -- dates that are none of the three
    ∷ unsound 1 15 "20230229"
    ∷ unsound 1 15 "20241301"
    ∷ unsound 2 15 "00000101"
    ∷ unsound 2 15 "20240100"
    ∷ unsound 1 15 "2024031 "
    ∷ unsound 1 15 "0000000 "
    ∷ unsound 1 15 "       0"
    ∷ unsound 1 15 "2024-3-1"
    -- bytes that are no mark
    ∷ unsound 3 no_report "        "
    ∷ unsound 3 message_unknown "        "
    ∷ unsound 3 15 "20240315"
    ∷ unsound 255 15 "        "
    ∷ []

-- the book after X with these in its line
abbrev pub stands : State → Lent
stands t =
    record { lines = sets (with_x 2 1).lines mark_at (t.mark ∷ (le_bytes 2 t.message ++ bytes t.date)); slips = (with_x 2 1).slips; used = (with_x 2 1).used }

abbrev pub own_key : List (List ℕ)
own_key = key_from (slice 4 14 X) (slice 14 16 X)

-- the number, from n on, of the first that the call by key, or a delivery, answers or tells otherwise; 0 where none is
unfoldable pub first_unsaid : ℕ → List State → ℕ
first_unsaid n [] = 0
first_unsaid n (t ∷ ts) =
    pick (eqb (line_asked own_key (stands t)).answer t.answer
    && (same (report_on (line_asked own_key (stands t)).reported) t.told
    && (eqb (book Y schools (stands t)).said.answer t.answer && same (report_on (book Y schools (stands t)).said.reported) t.told)))
    (first_unsaid (suc n) ts)
    n
