-- All of it, and beside it the two halves of the round trip for the typed records of all three kinds.
use mathlib.Core.Path.{◌≡◌, ◌∙◌, ap, sym, refl, subst}
use mathlib.Core.Bool.{Bool, true, false}
use mathlib.Core.List.{List, ◌++◌}
use Prim.Native.Nat.{ℕ, ◌+◌, ◌*◌, ◌≤◌}
use native.Mathlib.Omega.{arith}
use lib.ListN.{length, take, drop, replicate, take-append-drop}
use lib.Seq.{slice}
use Rattle.cells.specs.Bytes.{pick, bytes, all, same, joined}
use Rattle.cells.proofs.Lists.{same_refl, all_take}
use Rattle.signs.specs.Class.{belongs, of_class}
use Rattle.rules.specs.Day.{day_width}
use Rattle.signs.specs.declared.Class.TheVariants.{Allowed, Zero}
use Rattle.signs.proofs.Runs.{run_all}
use Rattle.record.specs.Layout.{most_fields, date_start, layout, total, fixed_width, kind_of}
use Rattle.record.specs.Answers.{checked_of}
use Rattle.record.specs.Values.{order_of, delivery_of, report_of, no_order, no_delivery, no_report}
use Rattle.record.specs.Fields.{Optional}
use Rattle.record.specs.Read.{judged, entry_width, check, judged_as, typed_from, read_order, read_delivery, read_report}
use Rattle.record.specs.Verdicts.{Verdict}
use Rattle.std.specs.Prelude.{Err, Ok}
use Rattle.record.specs.declared.answer.Checked.{Checked}
use Rattle.record.specs.declared.answer.ReadAs.{ReadAs}
use Rattle.record.specs.declared.layout.Kind.TheVariants.{Order as order, Goods as goods, Closing as closing, Report as report}
use Rattle.record.specs.declared.values.Order.{Order}
use Rattle.record.specs.declared.values.Delivery.{Delivery}
use Rattle.record.specs.declared.values.Report.{Report}
use Rattle.reader.proofs.Stages.{as_named}
use Rattle.reader.proofs.Fitting.{fitting, name_of, fits_known, fits_long}
use Rattle.writing.specs.Write.{entries, optional_of}
use Rattle.writing.specs.Typed.{order_fields, delivery_fields, report_fields, order_bytes, delivery_bytes, report_bytes}
use Rattle.roundtrip.specs.Demand2.{read_call, write_call, Tabled, ReadsBack, WritesBack, Demand2, OrderShaped, DeliveryShaped, ReportShaped, OrderReadsBack, DeliveryReadsBack, ReportReadsBack, TypedBack}
use Rattle.roundtrip.proofs.Typed.{order_values, delivery_values, report_values, order_bytes_of, delivery_bytes_of, report_bytes_of}
use Rattle.roundtrip.proofs.ReadExactly.{verdict_fits, reads_parts, read_exactly}
use Rattle.roundtrip.proofs.WriteExactly.{write_exactly}
use Rattle.roundtrip.proofs.ReadAfterWrite.{read_after_write}
use Rattle.roundtrip.proofs.WriteAfterRead.{write_after_read}

-- exactly the records that `Record` lays down are read and written; read after write gives the fields, write after read the bytes
pub demand2 : Demand2
demand2 = record {
  read_exactly = read_exactly;
  reads_parts = reads_parts;
  write_exactly = write_exactly;
  read_after_write = read_after_write;
  write_after_read = write_after_read;
}

-- a verdict that is answered as one that fits is that one
checked_same : (v : Verdict) (n : ℕ) → checked_of v ≡ checked_of (Ok n) → v ≡ Ok n
unfolding checked_of
checked_same v n e =
    let d = verdict_fits v (ap (λ (c : Checked). c.answer) e) in
    d.1 ∙ ap (λ (c : Checked). Ok c.fields) (ap checked_of (sym d.1) ∙ e)

-- so a text in which a check with any large table finds some fields fits with as many
pub tabled_fits : (s : List ℕ) (fields : List Optional) → Tabled s fields → judged s ≡ Ok (length fields)
unfolding check
tabled_fits s fields t =
    let lent : List ℕ = replicate (most_fields * entry_width) 0 in
    checked_same (judged s) (length fields) (t.reads lent (omega arith))

-- a text that fits and begins with a kind's name is read as that kind
named : (name text : List ℕ) (n : ℕ) → judged text ≡ Ok n → slice 0 4 text ≡ name → judged_as name text ≡ Ok n
named name text n e h = as_named name text (fits_long text n e) (rw h (same_refl name)) ∙ e

-- what reads back, with its fixed part in front: the rest of it, and that each byte of the fixed part is allowed
module _ (fixed table : List ℕ) (count : ℕ) (contents text : List ℕ) (b : ReadsBack fixed table count contents text) where
  behind : List ℕ
  behind = drop (length fixed) text

  in_front : text ≡ fixed ++ behind
  unfolding behind
  in_front = sym (take-append-drop (length fixed) text) ∙ ap (λ (l : List ℕ). l ++ drop (length fixed) text) b.same_fixed

  -- it fits with as many optional fields as were given
  fits : judged text ≡ Ok count
  fits = tabled_fits text (optional_of contents (entries count table)) b.fields_are_same ∙ ap Ok b.as_many

  fixed_allowed : all (belongs Allowed) fixed ≡ true
  fixed_allowed =
      let k = fits_known text count fits in
      let a = run_all (belongs Allowed) text (fitting k.0 text count k.1 fits).allowed in
      ap (all (belongs Allowed)) (sym b.same_fixed) ∙ all_take (belongs Allowed) (length fixed) text a

-- the typed record that is read where a record fits
order_read : (s : List ℕ) (n : ℕ) → judged_as (bytes "B101") s ≡ Ok n → read_order s ≡ record { checked = checked_of (Ok n); value = order_of s }
unfolding read_order typed_from
order_read s n e = rw e

delivery_read : (s : List ℕ) (n : ℕ) → judged_as (bytes "L101") s ≡ Ok n → read_delivery s ≡ record { checked = checked_of (Ok n); value = delivery_of s }
unfolding read_delivery typed_from
delivery_read s n e = rw e

report_read : (s : List ℕ) (n : ℕ) → judged_as (bytes "M101") s ≡ Ok n → read_report s ≡ record { checked = checked_of (Ok n); value = report_of s }
unfolding read_report typed_from
report_read s n e = rw e

-- READ AFTER WRITE: what is written of a typed record answers 0 and gives the same typed record, the same number of optional fields, and the same IDs and contents in the same order
module _ (table : List ℕ) (count : ℕ) (contents out : List ℕ) where
  pub order_reads_back : (o : Order) → OrderShaped o → (write_call (order_bytes o) table count contents out).said.answer ≡ 0 → OrderReadsBack o table count contents out
  unfolding order_bytes order_fields joined
  order_reads_back o h e =
      let b = read_after_write (order_bytes o) table count contents out e in
      let f = in_front (order_bytes o) table count contents _ b in
      let a = named (bytes "B101") _ count (fits (order_bytes o) table count contents _ b) (ap (slice 0 4) f) in
      let v = ap order_of f ∙ order_values o _ h (fixed_allowed (order_bytes o) table count contents _ b) in
      record { reads = order_read _ count a ∙ ap (λ (x : Order). record { checked = checked_of (Ok count); value = x }) v; fields = b.fields_are_same }

  pub delivery_reads_back : (d : Delivery) → DeliveryShaped d → (write_call (delivery_bytes d) table count contents out).said.answer ≡ 0 → DeliveryReadsBack d table count contents out
  unfolding delivery_bytes delivery_fields joined
  delivery_reads_back d h e =
      let b = read_after_write (delivery_bytes d) table count contents out e in
      let f = in_front (delivery_bytes d) table count contents _ b in
      let a = named (bytes "L101") _ count (fits (delivery_bytes d) table count contents _ b) (ap (slice 0 4) f) in
      let v = ap delivery_of f ∙ delivery_values d _ h (fixed_allowed (delivery_bytes d) table count contents _ b) in
      record { reads = delivery_read _ count a ∙ ap (λ (x : Delivery). record { checked = checked_of (Ok count); value = x }) v; fields = b.fields_are_same }

  pub report_reads_back : (m : Report) → ReportShaped m → (write_call (report_bytes m) table count contents out).said.answer ≡ 0 → ReportReadsBack m table count contents out
  unfolding report_bytes report_fields joined
  report_reads_back m h e =
      let b = read_after_write (report_bytes m) table count contents out e in
      let f = in_front (report_bytes m) table count contents _ b in
      let a = named (bytes "M101") _ count (fits (report_bytes m) table count contents _ b) (ap (slice 0 4) f) in
      let v = ap report_of f ∙ report_values m _ h (fixed_allowed (report_bytes m) table count contents _ b) in
      record { reads = report_read _ count a ∙ ap (λ (x : Report). record { checked = checked_of (Ok count); value = x }) v; fields = b.fields_are_same }

-- a typed record is read with what its verdict says
typed_checked : {T : Type 0} (zeros : T) (values : List ℕ → T) (v : Verdict) (s : List ℕ) → (typed_from zeros values v s).checked ≡ checked_of v
unfolding typed_from
typed_checked zeros values (Err r) s = refl
typed_checked zeros values (Ok n) s = refl

-- WRITE AFTER READ: what was read of a record, written with the table that the check filled and the record itself as lent contents, answers 0 and gives the same bytes
module _ (s table out : List ℕ) (c : (read_call s table).said.answer ≡ 0) (room : length s ≤ length out) where
  pub order_writes_back : (read_order s).checked.answer ≡ 0 → WritesBack (order_bytes (read_order s).value) (read_call s table).table (read_call s table).said.fields s out
  unfolding read_order kind_of same
  order_writes_back e =
      let v = verdict_fits (judged_as (bytes "B101") s) (ap (λ (x : Checked). x.answer) (sym (typed_checked no_order order_of (judged_as (bytes "B101") s) s)) ∙ e) in
      let r = ap (λ (x : ReadAs Order). x.value) (order_read s v.0 v.1) in
      let f = ap order_bytes r ∙ order_bytes_of s v.0 v.1 in
      subst (λ (x : List ℕ). WritesBack x (read_call s table).table (read_call s table).said.fields s out) (sym f)
      (write_after_read order s table out (rw (name_of (bytes "B101") s v.0 v.1)) c room)

  pub report_writes_back : (read_report s).checked.answer ≡ 0 → WritesBack (report_bytes (read_report s).value) (read_call s table).table (read_call s table).said.fields s out
  unfolding read_report kind_of same
  report_writes_back e =
      let v = verdict_fits (judged_as (bytes "M101") s) (ap (λ (x : Checked). x.answer) (sym (typed_checked no_report report_of (judged_as (bytes "M101") s) s)) ∙ e) in
      let r = ap (λ (x : ReadAs Report). x.value) (report_read s v.0 v.1) in
      let f = ap report_bytes r ∙ report_bytes_of s v.0 v.1 in
      subst (λ (x : List ℕ). WritesBack x (read_call s table).table (read_call s table).said.fields s out) (sym f)
      (write_after_read report s table out (rw (name_of (bytes "M101") s v.0 v.1)) c room)

  -- a closing record's fixed part is as long as a goods record's
  either_way : (b : Bool) → fixed_width (pick b closing goods) ≡ fixed_width goods
  unfolding fixed_width layout total
  either_way true = refl
  either_way false = refl

  pub delivery_writes_back : (read_delivery s).checked.answer ≡ 0 → WritesBack (delivery_bytes (read_delivery s).value) (read_call s table).table (read_call s table).said.fields s out
  unfolding read_delivery kind_of same
  delivery_writes_back e =
      let v = verdict_fits (judged_as (bytes "L101") s) (ap (λ (x : Checked). x.answer) (sym (typed_checked no_delivery delivery_of (judged_as (bytes "L101") s) s)) ∙ e) in
      let r = ap (λ (x : ReadAs Delivery). x.value) (delivery_read s v.0 v.1) in
      let b = of_class Zero day_width day_width (slice date_start (date_start + day_width) s) in
      let f = ap delivery_bytes r ∙ delivery_bytes_of s v.0 v.1 ∙ ap (λ (w : ℕ). take w s) (sym (either_way b)) in
      subst (λ (x : List ℕ). WritesBack x (read_call s table).table (read_call s table).said.fields s out) (sym f)
      (write_after_read (pick b closing goods) s table out (rw (name_of (bytes "L101") s v.0 v.1)) c room)

pub typed_back : TypedBack
typed_back = record {
  order_reads_back = order_reads_back;
  delivery_reads_back = delivery_reads_back;
  report_reads_back = report_reads_back;
  order_writes_back = order_writes_back;
  delivery_writes_back = delivery_writes_back;
  report_writes_back = report_writes_back;
}
