-- What a line keeps of its last report besides the mark: the message number and the expected date (RULES 6.2, 6.4).
use Rattle.std.specs.Prelude.{ℕ, Bool, ◌&&◌, List, eqb, leb, replicate}
use Rattle.cells.specs.Bytes.{pick, within, same}
use Rattle.rules.specs.Day.{day_width, no_day}
use Rattle.rules.specs.Rule.{expected}
use Rattle.rules.specs.declared.day.Day.{Day}
use Rattle.rules.specs.declared.expected.Expected.{Expected}
use Rattle.rules.specs.declared.expected.Expected.TheVariants.{On, Zeros, Blanks}
use Rattle.entry.specs.declared.report.Message.{Message}
use Rattle.entry.specs.declared.report.Message.TheVariants.{NoReport, Unknown, Numbered}
use Rattle.entry.specs.declared.report.Reported.{Reported}

-- a message's number in the book: 0 to 999, 65535 where no report has come, 65534 where it is unknown
abbrev pub no_report : ℕ
no_report = 65535

abbrev pub message_unknown : ℕ
message_unknown = 65534

abbrev pub most_message : ℕ
most_message = 999

-- the byte of no mark, and the least and the highest that are one
abbrev pub no_mark : ℕ
no_mark = 0

abbrev pub least_mark : ℕ
least_mark = 1

abbrev pub most_mark : ℕ
most_mark = 2

unfoldable pub message_of : ℕ → Message
message_of n = pick (eqb n no_report) NoReport (pick (eqb n message_unknown) Unknown (Numbered n))

unfoldable pub message_number : Message → ℕ
message_number NoReport = no_report
message_number Unknown = message_unknown
message_number (Numbered n) = n

-- an expected date as it is told: 1 a day, 2 eight zeros, 3 eight blanks; and the day, zeros where it is none
unfoldable pub form_of : Expected → ℕ
form_of (On d) = 1
form_of Zeros = 2
form_of Blanks = 3

unfoldable pub day_on : Expected → Day
day_on (On d) = d
day_on Zeros = no_day
day_on Blanks = no_day

unfoldable pub report_told : Message → Expected → Reported
report_told m e =
    record { message = message_number m; expected = form_of e; year = (day_on e).year; month = (day_on e).month; day = (day_on e).day }

-- the expected date of a line without a report, or whose message is unknown: eight blanks
abbrev pub blank_date : List ℕ
blank_date = replicate day_width 32

-- a mark's byte, a message's number and the bytes of an expected date go together: without a report there is no mark; with one there is, and the message is unknown or a number; the date is eight blanks but where the message is a number, and there one of the three forms
unfoldable pub report_sound : ℕ → ℕ → List ℕ → Bool
report_sound mark message date =
    pick (eqb message no_report) (eqb mark no_mark && same date blank_date)
    (within least_mark most_mark mark && pick (eqb message message_unknown) (same date blank_date) (leb message most_message && expected date))
