-- Read after write: a check of a record that was written finds the fields that it was written from.
use mathlib.Core.Path.{◌≡◌, sym, refl, subst}
use mathlib.Core.List.{List}
use Prim.Native.Nat.{ℕ}
use lib.ListN.{length, drop}
use lib.Seq.{take_at, take-append_seam}
use Rattle.writing.specs.Write.{entries, optional_of, optional_text, record_text}
use Rattle.roundtrip.specs.Record.{CanWrite}
use Rattle.roundtrip.specs.Demand2.{written, write_call, ReadsBack}
use Rattle.roundtrip.proofs.Whole.{made_whole}
use Rattle.roundtrip.proofs.ReadExactly.{whole_tabled}
use Rattle.roundtrip.proofs.WriteExactly.{as_many, write_exactly}

module _ (fixed table : List ℕ) (count : ℕ) (contents out : List ℕ) (e : (write_call fixed table count contents out).said.answer ≡ 0) where
  abbrev text : List ℕ
  text = record_text fixed (optional_of contents (entries count table))

  -- what writing needs was there
  can : CanWrite fixed table count contents out
  can = (write_exactly fixed table count contents out).only_records e

  -- so the text stands at the front of the output
  front : written (write_call fixed table count contents out) ≡ text
  front = rw ((write_exactly fixed table count contents out).all_records can) (take_at text (drop (length text) out) (length text) refl)

  -- it reads back
  text_back : ReadsBack fixed table count contents text
  unfolding record_text
  text_back = record {
    same_fixed = take-append_seam fixed (optional_text (optional_of contents (entries count table)));
    fields_are_same = whole_tabled can.makes.parts.kind fixed (optional_of contents (entries count table)) (made_whole fixed (optional_of contents (entries count table)) can.makes);
    as_many = as_many fixed table count contents out;
  }

  -- a writing that answers 0 has put a record at the front of its output that reads back
  pub read_after_write : ReadsBack fixed table count contents (written (write_call fixed table count contents out))
  read_after_write = subst (ReadsBack fixed table count contents) (sym front) text_back
