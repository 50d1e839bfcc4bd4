-- A line's mark, its changes, its figures and what is told of its last report (RULES 6.2).
use Rattle.std.specs.Prelude.{ℕ, ◌+◌, ◌-◌, List, ◌++◌, min, eqb}
use Rattle.std.specs.Fmt.{decimal}
use Rattle.cells.specs.Bytes.{pick, bytes}
use Rattle.rules.specs.Values.{copies}
use Rattle.rules.specs.declared.amount.Copies.{Copies}
use Rattle.rules.specs.declared.expected.Expected.{Expected}
use Rattle.rules.specs.declared.expected.Expected.TheVariants.{Blanks}
use Rattle.entry.specs.Report.{report_told}
use Rattle.entry.specs.declared.report.Message.{Message}
use Rattle.entry.specs.declared.report.Message.TheVariants.{NoReport}
use Rattle.entry.specs.declared.report.Reported.{Reported}
use Rattle.entry.specs.declared.line.Mark.{Mark}
use Rattle.entry.specs.declared.line.Mark.TheVariants.{Unmarked, Held, Dropped}
use Rattle.entry.specs.declared.line.Line.{Line}
use Rattle.entry.specs.declared.line.Figures.{Figures}

-- a mark's byte: 0 none, 1 J, 2 N
abbrev pub mark_of : ℕ → Mark
mark_of b = pick (eqb b 1) Held (pick (eqb b 2) Dropped Unmarked)

unfoldable pub mark_byte : Mark → ℕ
mark_byte Unmarked = 0
mark_byte Held = 1
mark_byte Dropped = 2

-- a new line: so many copies are ordered, nothing has arrived, and no report has come
unfoldable pub new_line : Copies → Line
new_line n = record { ordered = n; arrived = copies 0; mark = Unmarked; message = NoReport; expected = Blanks }

-- the line with what a report says, and with so many copies more
unfoldable pub with_report : Mark → Message → Expected → Line → Line
with_report m n e l = record { ordered = l.ordered; arrived = l.arrived; mark = m; message = n; expected = e }

unfoldable pub with_arrivals : Copies → Line → Line
with_arrivals n l =
    record { ordered = l.ordered; arrived = copies (l.arrived.0 + n.0); mark = l.mark; message = l.message; expected = l.expected }

-- what is missing of the order is still open, or after an N let go (RULES 6.2)
unfoldable pub open_of : Mark → Copies → Copies
open_of Unmarked n = n
open_of Held n = n
open_of Dropped n = copies 0

unfoldable pub let_go_of : Mark → Copies → Copies
let_go_of Unmarked n = copies 0
let_go_of Held n = copies 0
let_go_of Dropped n = n

-- what arrived fills the order first; the rest is extra
unfoldable pub filled_of : Line → Copies
filled_of l = copies (min l.ordered.0 l.arrived.0)

-- Q minus filled
abbrev pub missing : Copies → Copies → Copies
missing q a = copies (q.0 - min q.0 a.0)

abbrev pub not_filled : Line → Copies
not_filled l = missing l.ordered l.arrived

unfoldable pub figures_of : Line → Figures
figures_of l = record {
  ordered = l.ordered;
  filled = filled_of l;
  still_open = open_of l.mark (not_filled l);
  let_go = let_go_of l.mark (not_filled l);
  extra = copies (l.arrived.0 - (filled_of l).0);
}

-- figures as they are printed, with a blank between
unfoldable pub figures_text : Figures → List ℕ
figures_text f =
    decimal f.ordered.0 ++ (bytes " " ++ (decimal f.filled.0 ++ (bytes " " ++ (decimal f.still_open.0 ++ (bytes " " ++ (decimal f.let_go.0 ++ (bytes " " ++ decimal f.extra.0)))))))

-- what the last report said, as it is told
unfoldable pub reported_of : Line → Reported
reported_of l = report_told l.message l.expected
