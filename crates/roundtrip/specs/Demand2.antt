-- The statements: exactly the records that `Record` lays down are read and written; read after write gives the fields, write after read the bytes.
use Rattle.std.specs.Prelude.{ℕ, ◌*◌, ◌≤◌, ◌≡◌, List, ◌++◌, length, take, drop, Ok, Some}
use Rattle.record.specs.Layout.{most_fields, fixed_width, kind_of}
use Rattle.record.specs.Answers.{checked_of}
use Rattle.record.specs.Fields.{Optional}
use Rattle.record.specs.Read.{entry_width, Outcome as Read, check, read_order, read_delivery, read_report}
use Rattle.record.specs.declared.layout.Kind.{Kind}
use Rattle.record.specs.declared.values.Party.{Party}
use Rattle.record.specs.declared.values.Article.{Article}
use Rattle.record.specs.declared.values.Order.{Order}
use Rattle.record.specs.declared.values.Delivery.{Delivery}
use Rattle.record.specs.declared.values.Report.{Report}
use Rattle.writing.specs.Write.{Outcome, outcome, entries, optional_of, record_text, write}
use Rattle.writing.specs.Typed.{order_bytes, delivery_bytes, report_bytes}
use Rattle.roundtrip.specs.Record.{Parts, fixed_part, text_of, MakesRecord, IsRecord, CanWrite}

-- the record that a writing put at the front of its output
abbrev pub written : Outcome → List ℕ
written o = take o.said.length o.out

-- the two calls that they speak of, as their contracts fix them: `reader::check` and `writer::write`
abbrev pub read_call : List ℕ → List ℕ → Read
read_call s lent = check s lent

abbrev pub write_call : List ℕ → List ℕ → ℕ → List ℕ → List ℕ → Outcome
write_call fixed table count contents out = write fixed table count contents out

-- a lent table is large enough for every record
abbrev pub LargeTable : List ℕ → Type 0
LargeTable lent = most_fields * entry_width ≤ length lent

-- a check of a text with any large table is done, and fills the table so that the IDs and contents it names in the text are these, in order
pub record Tabled (text : List ℕ) (fields : List Optional) : Type 0 where
  pub reads : (lent : List ℕ) → LargeTable lent → (read_call text lent).said ≡ checked_of (Ok (length fields))
  pub fields_are_same : (lent : List ℕ) → LargeTable lent → optional_of text (entries (length fields) (read_call text lent).table) ≡ fields

-- READ EXACTLY: the check answers 0 for the texts of records, where the table is large, and for nothing else
pub record ReadExactly (s lent : List ℕ) : Type 0 where
  pub only_records : (read_call s lent).said.answer ≡ 0 → LargeTable lent × IsRecord s
  pub all_records : LargeTable lent → IsRecord s → (read_call s lent).said.answer ≡ 0

-- with what stands in them: of parts that make a record the check finds the kind, the fixed part and the optional fields
pub record ReadsParts (r : Parts) : Type 0 where
  pub same_kind : kind_of (text_of r) ≡ Some r.kind
  pub same_fixed : take (length (fixed_part r)) (text_of r) ≡ fixed_part r
  pub same_optional : Tabled (text_of r) r.optional

-- WRITE EXACTLY: writing answers 0 where its parts make a record and the output has room for it, and nowhere else; and then the record stands at the front of the output
pub record WriteExactly (fixed table : List ℕ) (count : ℕ) (contents out : List ℕ) : Type 0 where
  pub only_records : (write_call fixed table count contents out).said.answer ≡ 0 → CanWrite fixed table count contents out
  pub all_records : CanWrite fixed table count contents out
      → write_call fixed table count contents out
      ≡ outcome (record { answer = 0; place = 0; length = length (record_text fixed (optional_of contents (entries count table))) })
      (record_text fixed (optional_of contents (entries count table)) ++ drop (length (record_text fixed (optional_of contents (entries count table)))) out)

-- READ AFTER WRITE: a text that was written begins with the fixed part, and a check of it finds the IDs and contents that were given, in order
pub record ReadsBack (fixed table : List ℕ) (count : ℕ) (contents text : List ℕ) : Type 0 where
  pub same_fixed : take (length fixed) text ≡ fixed
  pub fields_are_same : Tabled text (optional_of contents (entries count table))
  pub as_many : length (optional_of contents (entries count table)) ≡ count

-- WRITE AFTER READ: what writing says of a record s that was read, with the table that the check filled and the record itself as lent contents: done, and the same bytes stand at the front of the output
abbrev pub WritesBack : List ℕ → List ℕ → ℕ → List ℕ → List ℕ → Type 0
WritesBack fixed table n s out =
    write_call fixed table n s out ≡ outcome (record { answer = 0; place = 0; length = length s }) (s ++ drop (length s) out)

-- ALL OF IT, for all inputs
pub record Demand2 : Type 0 where
  -- reading answers 0 for the texts of records, where the table is large, and for nothing else
  pub read_exactly : (s lent : List ℕ) → ReadExactly s lent
  -- and finds in the text of a record the parts that it was made of
  pub reads_parts : (r : Parts) → MakesRecord r → ReadsParts r
  -- writing answers 0 where its parts make a record and the output has room for it, and nowhere else, and puts that record at the front of the output
  pub write_exactly : (fixed table : List ℕ) (count : ℕ) (contents out : List ℕ) → WriteExactly fixed table count contents out
  -- read after write gives the fields
  pub read_after_write : (fixed table : List ℕ) (count : ℕ) (contents out : List ℕ) → (write_call fixed table count contents out).said.answer ≡ 0
      → ReadsBack fixed table count contents (written (write_call fixed table count contents out))
  -- write after read gives the bytes
  pub write_after_read : (k : Kind) (s lent out : List ℕ) → kind_of s ≡ Some k → (read_call s lent).said.answer ≡ 0 → length s ≤ length out
      → WritesBack (take (fixed_width k) s) (read_call s lent).table (read_call s lent).said.fields s out

-- the arrays of a typed record have their widths, as those of every value of its type in the code do
pub record PartyShaped (p : Party) : Type 0 where
  pub address : length p.address ≡ 10
  pub qualifier : length p.qualifier ≡ 2

pub record ArticleShaped (a : Article) : Type 0 where
  pub number : length a.number ≡ 13
  pub qualifier : length a.qualifier ≡ 2

pub record OrderShaped (o : Order) : Type 0 where
  pub sender : PartyShaped o.sender
  pub recipient : PartyShaped o.recipient
  pub reference : length o.reference ≡ 10
  pub article : ArticleShaped o.article
  pub measure : length o.measure ≡ 2

pub record DeliveryShaped (d : Delivery) : Type 0 where
  pub sender : PartyShaped d.sender
  pub recipient : PartyShaped d.recipient
  pub slip : length d.slip ≡ 10
  pub position : length d.position ≡ 4
  pub reference : length d.reference ≡ 10
  pub article : ArticleShaped d.article
  pub pricing : length d.pricing ≡ 2
  pub currency : length d.currency ≡ 3

pub record ReportShaped (m : Report) : Type 0 where
  pub sender : PartyShaped m.sender
  pub recipient : PartyShaped m.recipient
  pub slip : length m.slip ≡ 10
  pub reference : length m.reference ≡ 10
  pub article : ArticleShaped m.article

-- what is written of a typed order reads back as it, with its optional fields
pub record OrderReadsBack (o : Order) (table : List ℕ) (count : ℕ) (contents out : List ℕ) : Type 0 where
  pub reads : read_order (written (write_call (order_bytes o) table count contents out)) ≡ record { checked = checked_of (Ok count); value = o }
  pub fields : Tabled (written (write_call (order_bytes o) table count contents out)) (optional_of contents (entries count table))

-- what is written of a typed delivery reads back as it, with its optional fields
pub record DeliveryReadsBack (d : Delivery) (table : List ℕ) (count : ℕ) (contents out : List ℕ) : Type 0 where
  pub reads : read_delivery (written (write_call (delivery_bytes d) table count contents out)) ≡ record { checked = checked_of (Ok count); value = d }
  pub fields : Tabled (written (write_call (delivery_bytes d) table count contents out)) (optional_of contents (entries count table))

-- what is written of a typed report reads back as it, with its optional fields
pub record ReportReadsBack (m : Report) (table : List ℕ) (count : ℕ) (contents out : List ℕ) : Type 0 where
  pub reads : read_report (written (write_call (report_bytes m) table count contents out)) ≡ record { checked = checked_of (Ok count); value = m }
  pub fields : Tabled (written (write_call (report_bytes m) table count contents out)) (optional_of contents (entries count table))

-- THE TYPED RECORDS, for all inputs: read after write gives the typed record, write after read of one gives the bytes
pub record TypedBack : Type 0 where
  pub order_reads_back : (table : List ℕ) (count : ℕ) (contents out : List ℕ) (o : Order) → OrderShaped o
      → (write_call (order_bytes o) table count contents out).said.answer ≡ 0 → OrderReadsBack o table count contents out
  pub delivery_reads_back : (table : List ℕ) (count : ℕ) (contents out : List ℕ) (d : Delivery) → DeliveryShaped d
      → (write_call (delivery_bytes d) table count contents out).said.answer ≡ 0 → DeliveryReadsBack d table count contents out
  pub report_reads_back : (table : List ℕ) (count : ℕ) (contents out : List ℕ) (m : Report) → ReportShaped m
      → (write_call (report_bytes m) table count contents out).said.answer ≡ 0 → ReportReadsBack m table count contents out
  pub order_writes_back : (s table out : List ℕ) → (read_call s table).said.answer ≡ 0 → length s ≤ length out → (read_order s).checked.answer ≡ 0
      → WritesBack (order_bytes (read_order s).value) (read_call s table).table (read_call s table).said.fields s out
  pub delivery_writes_back : (s table out : List ℕ) → (read_call s table).said.answer ≡ 0 → length s ≤ length out → (read_delivery s).checked.answer ≡ 0
      → WritesBack (delivery_bytes (read_delivery s).value) (read_call s table).table (read_call s table).said.fields s out
  pub report_writes_back : (s table out : List ℕ) → (read_call s table).said.answer ≡ 0 → length s ≤ length out → (read_report s).checked.answer ≡ 0
      → WritesBack (report_bytes (read_report s).value) (read_call s table).table (read_call s table).said.fields s out
