-- Reading a record: its refusals in their order, the table of its optional fields, and typed records (RULES 4).
use Rattle.std.specs.Prelude.{ℕ, ◌+◌, ◌*◌, List, ◌++◌, eqb, ltb, length, drop, Err, None, Ok, Option, Some}
use Rattle.std.proofs.Math.Seq.{slice}
use Rattle.cells.specs.Bytes.{pick, bytes, run, same}
use Rattle.signs.specs.Class.{belongs}
use Rattle.signs.specs.declared.Class.TheVariants.{Allowed}
use Rattle.record.specs.Layout.{most_bytes, most_fields, kind_width, layout, fixed_width, start_of, kind_of, first_broken}
use Rattle.record.specs.Answers.{checked_of, ◌then◌}
use Rattle.record.specs.Fields.{head_width, walk, judge, entries_of, Optional, fields_of}
use Rattle.record.specs.Values.{order_of, delivery_of, report_of, no_order, no_delivery, no_report}
use Rattle.record.specs.declared.answer.Refusal.TheVariants.{TooLong, UnknownKind, TooShort, Byte, FixedField, SmallTable}
use Rattle.record.specs.Verdicts.{Verdict}
use Rattle.record.specs.declared.layout.Kind.{Kind}
use Rattle.record.specs.declared.answer.Checked.{Checked}
use Rattle.record.specs.declared.answer.ReadAs.{ReadAs}
use Rattle.record.specs.declared.values.Order.{Order}
use Rattle.record.specs.declared.values.Delivery.{Delivery}
use Rattle.record.specs.declared.values.Report.{Report}

-- 4, at the byte
unfoldable pub bytes_judged : List ℕ → Verdict
bytes_judged s = pick (eqb (run (belongs Allowed) s) (length s)) (Ok 0) (Err (Byte (run (belongs Allowed) s)))

-- 5, where the field starts
unfoldable pub fixed_judged : Kind → List ℕ → Verdict
fixed_judged k s =
    pick (eqb (first_broken (layout k) s) (length (layout k))) (Ok 0)
    (Err (FixedField (start_of (layout k) (first_broken (layout k) s))))

-- 6 to 8, then 9 and 10 at each of the fields walked
unfoldable pub after_walk : Kind → ℕ → List ℕ → Verdict → Verdict
after_walk k p t (Err r) = Err r
after_walk k p t (Ok n) = judge k n None p t then Ok n

unfoldable pub optional_judged : Kind → ℕ → List ℕ → Verdict
optional_judged k p t = after_walk k p t (walk most_fields 0 p t)

-- 3, then 4 and 5, then 6 to 10
unfoldable pub kind_judged : Option Kind → List ℕ → Verdict
kind_judged None s = Err UnknownKind
kind_judged (Some k) s =
    pick (ltb (length s) (fixed_width k + head_width)) (Err (TooShort (length s)))
    (bytes_judged s then (fixed_judged k s then optional_judged k (fixed_width k) (drop (fixed_width k) s)))

-- 1 and 2, then the rest by the kind
unfoldable pub judged : List ℕ → Verdict
judged s = pick (ltb most_bytes (length s)) (Err TooLong) (kind_judged (kind_of s) s)

-- a table has three numbers an entry
abbrev pub entry_width : ℕ
entry_width = 3

-- what a check says, and the table afterwards
pub record Outcome : Type 0 where
  pub said : Checked
  pub table : List ℕ

abbrev pub outcome : Checked → List ℕ → Outcome
outcome c t = record { said = c; table = t }

-- where the optional part of a record starts
unfoldable pub optional_start : Option Kind → ℕ
optional_start None = 0
optional_start (Some k) = fixed_width k

-- the optional fields of a record that has n of them
unfoldable pub optional_fields : ℕ → List ℕ → List Optional
optional_fields n s = fields_of n (drop (optional_start (kind_of s)) s)

unfoldable pub table_after : Verdict → List ℕ → List ℕ → List ℕ
table_after (Err r) s table = table
table_after (Ok n) s table =
    entries_of n (optional_start (kind_of s)) (drop (optional_start (kind_of s)) s) ++ drop (n * entry_width) table

-- a check of a record with a lent table
unfoldable pub check : List ℕ → List ℕ → Outcome
check s table =
    pick (ltb (length table) (most_fields * entry_width)) (outcome (checked_of (Err SmallTable)) table)
    (outcome (checked_of (judged s)) (table_after (judged s) s table))

-- a record wanted of one kind: another kind is not known
unfoldable pub judged_as : List ℕ → List ℕ → Verdict
judged_as name s =
    pick (ltb most_bytes (length s)) (Err TooLong)
    (pick (same (slice 0 kind_width s) name) (judged s) (Err UnknownKind))

-- a record read into typed values: the values of its bytes, or zeros on a refusal
unfoldable pub typed_from : {T : Type 0} → T → (List ℕ → T) → Verdict → List ℕ → ReadAs T
typed_from zeros values (Err r) s = record { checked = checked_of (Err r); value = zeros }
typed_from zeros values (Ok n) s = record { checked = checked_of (Ok n); value = values s }

unfoldable pub read_order : List ℕ → ReadAs Order
read_order s = typed_from no_order order_of (judged_as (bytes "B101") s) s

unfoldable pub read_delivery : List ℕ → ReadAs Delivery
read_delivery s = typed_from no_delivery delivery_of (judged_as (bytes "L101") s) s

unfoldable pub read_report : List ℕ → ReadAs Report
read_report s = typed_from no_report report_of (judged_as (bytes "M101") s) s
