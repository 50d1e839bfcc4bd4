-- What the promises of reading give: two results that satisfy one are equal, and a refusal changes no lent table.
use mathlib.Core.Path.{◌≡◌, ◌∙◌, ap, sym, refl}
use mathlib.Core.Bool.{Bool, true, false}
use mathlib.Core.List.{List}
use Prim.Native.Nat.{ℕ, ◌*◌}
use lib.Dec.{ltb}
use lib.ListN.{length}
use Rattle.cells.specs.Bytes.{pick}
use Rattle.record.specs.Layout.{most_fields}
use Rattle.record.specs.Answers.{checked_of}
use Rattle.record.specs.Read.{judged, entry_width, Outcome, outcome, table_after, check, read_order, read_delivery, read_report}
use Rattle.record.specs.declared.answer.Refusal.TheVariants.{SmallTable}
use Rattle.record.specs.Verdicts.{Verdict}
use Rattle.std.specs.Prelude.{Err, Ok}
use Rattle.record.specs.declared.answer.Checked.{Checked}
use Rattle.record.specs.declared.answer.ReadAs.{ReadAs}
use Rattle.record.specs.declared.values.Order.{Order}
use Rattle.record.specs.declared.values.Delivery.{Delivery}
use Rattle.record.specs.declared.values.Report.{Report}

-- `check`: the answer, place and number of fields, and the table at exit, are fixed by the record and the table at entry
pub check_unique : (s table : List ℕ) (said said' : Checked) (exit exit' : List ℕ)
    → outcome said exit ≡ check s table → outcome said' exit' ≡ check s table → (said ≡ said') × (exit ≡ exit')
check_unique s table said said' exit exit' p q =
    let e = p ∙ sym q in
    (ap (λ (o : Outcome). o.said) e, ap (λ (o : Outcome). o.table) e)

-- `judge_record`
pub judged_unique : (s : List ℕ) (v v' : Verdict) → v ≡ judged s → v' ≡ judged s → v ≡ v'
judged_unique s v v' p q = p ∙ sym q

-- `read_order`, `read_delivery` and `read_report`
pub order_unique : (s : List ℕ) (r r' : ReadAs Order) → r ≡ read_order s → r' ≡ read_order s → r ≡ r'
order_unique s r r' p q = p ∙ sym q

pub delivery_unique : (s : List ℕ) (r r' : ReadAs Delivery) → r ≡ read_delivery s → r' ≡ read_delivery s → r ≡ r'
delivery_unique s r r' p q = p ∙ sym q

pub report_unique : (s : List ℕ) (r r' : ReadAs Report) → r ≡ read_report s → r' ≡ read_report s → r ≡ r'
report_unique s r r' p q = p ∙ sym q

-- a verdict that is not answered 0 leaves a table as it was
verdict_keeps : (v : Verdict) (s table : List ℕ) → ((checked_of v).answer ≡ 0 → ⊥) → table_after v s table ≡ table
unfolding checked_of table_after
verdict_keeps (Err r) s table h = refl
verdict_keeps (Ok n) s table h = absurd (h refl)

-- a check that does not answer 0 leaves the lent table as it was
pub refusal_keeps : (s table : List ℕ) → ((check s table).said.answer ≡ 0 → ⊥) → (check s table).table ≡ table
unfolding check
refusal_keeps s table = go (ltb (length table) (most_fields * entry_width))
  where
    go : (small : Bool)
        → ((pick small (outcome (checked_of (Err SmallTable)) table) (outcome (checked_of (judged s)) (table_after (judged s) s table))).said.answer ≡ 0 → ⊥)
        → (pick small (outcome (checked_of (Err SmallTable)) table) (outcome (checked_of (judged s)) (table_after (judged s) s table))).table ≡ table
    go true h = refl
    go false h = verdict_keeps (judged s) s table h
