-- The stores that write a line or a slip are one run.
use mathlib.Core.Path.{◌≡◌, ◌∙◌, ap, sym}
use mathlib.Core.List.{List, ◌++◌}
use Prim.Native.Nat.{ℕ, suc, ◌+◌, ◌*◌}
use native.Mathlib.Omega.{arith}
use lib.ListN.{length, set}
use lib.Seq.{sets}
use Rattle.cells.specs.Little.{le_bytes}
use Rattle.cells.proofs.Stores.{sets_append}
use Rattle.rules.specs.Values.{copies}
use Rattle.rules.specs.declared.amount.Copies.{Copies}
use Rattle.entry.specs.Report.{blank_date, message_number}
use Rattle.entry.specs.Line.{mark_byte}
use Rattle.entry.specs.Stored.{line_width, ordered_at, mark_at, message_at, expected_at, arrived_at, slip_width, slip_key_width, slip_copies_place, report_bytes, new_bytes, put_in, put_arrived, put_report, add_line, add_slip}
use Rattle.entry.specs.declared.line.Mark.{Mark}
use Rattle.entry.specs.declared.line.Mark.TheVariants.{Unmarked}
use Rattle.entry.specs.declared.report.Message.{Message}
use Rattle.entry.specs.declared.report.Message.TheVariants.{NoReport}

-- mark, message and expected date
pub put_report_law : (ls : List ℕ) (i : ℕ) (m : Mark) (n : Message) (date : List ℕ)
    → sets (sets (set ls (line_width * i + mark_at) (mark_byte m)) (line_width * i + message_at) (le_bytes 2 (message_number n))) (line_width * i + expected_at) date ≡ put_report ls i m n date
unfolding put_report put_in report_bytes le_bytes
put_report_law ls i m n date =
    let p : line_width * i + message_at ≡ suc (line_width * i + mark_at) = omega arith in
    let q : line_width * i + expected_at ≡ suc (suc (suc (line_width * i + mark_at))) = omega arith in
    rw (p, q)

-- a new line: the key and article, Q, no report, and no copies
pub add_line_law : (ls : List ℕ) (i : ℕ) (named : List ℕ) (n : Copies) → length named ≡ ordered_at
    → put_arrived (put_report (put_in (sets ls (line_width * i) named) i ordered_at (le_bytes 2 n.0)) i Unmarked NoReport blank_date) i (copies 0) ≡ add_line ls i named n
unfolding put_arrived put_report put_in add_line new_bytes report_bytes mark_byte message_number le_bytes
add_line_law ls i named n e =
    let p : line_width * i + mark_at ≡ suc (suc (line_width * i + ordered_at)) = omega arith in
    let q : line_width * i + arrived_at ≡ suc (suc (suc (suc (suc (suc (suc (suc (suc (suc (suc (suc (suc (line_width * i + ordered_at))))))))))))) = omega arith in
    rw (sets_append ls (line_width * i) named (new_bytes n), e, p, q)

-- the key and article stored in two parts
pub add_line_parts : (ls : List ℕ) (i : ℕ) (front back : List ℕ) (n : Copies) → length (front ++ back) ≡ ordered_at
    → put_arrived (put_report (put_in (sets (sets ls (line_width * i) front) (line_width * i + length front) back) i ordered_at (le_bytes 2 n.0)) i Unmarked NoReport blank_date) i (copies 0)
    ≡ add_line ls i (front ++ back) n
add_line_parts ls i front back n e =
    ap (λ (d : List ℕ). put_arrived (put_report (put_in d i ordered_at (le_bytes 2 n.0)) i Unmarked NoReport blank_date) i (copies 0)) (sym (sets_append ls (line_width * i) front back))
    ∙ add_line_law ls i (front ++ back) n e

-- the key, and after it the index and the quantity
pub add_slip_law : (ss : List ℕ) (j : ℕ) (key : List ℕ) (line : ℕ) (n : Copies) → length key ≡ slip_key_width
    → sets (sets ss (slip_width * j) key) (slip_width * j + slip_key_width) (le_bytes 2 line ++ le_bytes 2 n.0) ≡ add_slip ss j key line n
unfolding add_slip
add_slip_law ss j key line n e = rw (sets_append ss (slip_width * j) key (le_bytes 2 line ++ le_bytes 2 n.0), e)

pub put_slip : (ss : List ℕ) (j : ℕ) (key : List ℕ) (line : ℕ) (n : Copies) → length key ≡ slip_key_width
    → sets (sets (sets ss (slip_width * j) key) (slip_width * j + slip_key_width) (le_bytes 2 line)) (slip_width * j + slip_copies_place) (le_bytes 2 n.0) ≡ add_slip ss j key line n
unfolding le_bytes
put_slip ss j key line n e =
    let p : slip_width * j + slip_copies_place ≡ suc (suc (slip_width * j + slip_key_width)) = omega arith in
    rw p (add_slip_law ss j key line n e)
