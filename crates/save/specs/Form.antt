-- The two forms of a save (RULES 9.1). They differ in what stands here alone: the kind of a line's entry, how much of the line its body is, and what that says of the line's front.
use Rattle.std.specs.Prelude.{ℕ, ◌+◌, ◌*◌, List, ◌++◌, eqb, get_or}
use Rattle.cells.specs.Bytes.{pick}
use Rattle.cells.specs.Little.{le_bytes}
use Rattle.entry.specs.Report.{no_report, message_unknown, no_mark, blank_date}
use Rattle.entry.specs.Stored.{mark_at, message_at, arrived_at}
use Rattle.save.specs.declared.form.Form.{Form}
use Rattle.save.specs.declared.form.Form.TheVariants.{Old, New}

-- the front of a line in the book: all but its A
abbrev pub front_width : ℕ
front_width = arrived_at

-- the byte of kind of a line
unfoldable pub line_kind : Form → ℕ
line_kind Old = 1
line_kind New = 3

-- the body of a line: in the old form its front up to its mark, so without message and expected date; in the new form its front
unfoldable pub line_body_width : Form → ℕ
line_body_width Old = message_at
line_body_width New = front_width

-- message 2 and expected date 8
abbrev pub unsaved_width : ℕ
unsaved_width = 10

-- what a line has for them where a save has none, by the mark: without a mark no report has come, with one its message is unknown; eight blanks
unfoldable pub unsaved_message : ℕ → ℕ
unsaved_message mark = pick (eqb mark no_mark) no_report message_unknown

unfoldable pub unsaved : ℕ → List ℕ
unsaved mark = le_bytes 2 (unsaved_message mark) ++ blank_date

-- the front of the line that a body says
unfoldable pub front_of : Form → List ℕ → List ℕ
front_of Old body = body ++ unsaved (get_or body mark_at 0)
front_of New body = body

-- a byte of kind stands before each body
abbrev pub kind_byte : ℕ
kind_byte = 1

unfoldable pub saved_line_width : Form → ℕ
saved_line_width form = kind_byte + line_body_width form

-- where the slips stand, behind n lines
unfoldable pub slips_at : Form → ℕ → ℕ
slips_at form n = saved_line_width form * n
