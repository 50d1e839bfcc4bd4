-- Write after read: a record that was read, written with its own fixed part, the table that the check filled and itself as lent contents, gives the same bytes.
use mathlib.Core.Path.{◌≡◌}
use mathlib.Core.List.{List, ◌++◌}
use Prim.Native.Nat.{ℕ, ◌*◌, ◌≤◌}
use native.Mathlib.Omega.{arith}
use lib.ListN.{length, take, drop, length-append}
use Rattle.record.specs.Layout.{fixed_width, kind_of}
use Rattle.record.specs.Answers.{checked_of}
use Rattle.record.specs.Fields.{entries_of, fields_of}
use Rattle.record.specs.Read.{judged, entry_width, optional_start}
use Rattle.std.specs.Prelude.{Ok, Some}
use Rattle.record.specs.declared.layout.Kind.{Kind}
use Rattle.walks.proofs.Tables.{entries_length}
use Rattle.reader.proofs.Stages.{check_fits}
use Rattle.writing.specs.Write.{entries, optional_of, record_text}
use Rattle.roundtrip.specs.Record.{CanWrite}
use Rattle.roundtrip.specs.Demand2.{read_call, WritesBack}
use Rattle.roundtrip.proofs.EntriesBack.{fields_back, stored_inside}
use Rattle.roundtrip.proofs.Whole.{whole_made}
use Rattle.roundtrip.proofs.ReadExactly.{table_large, check_done, fixed_of, optional_from, fits_fields, fits_text, fits_whole}
use Rattle.roundtrip.proofs.WriteExactly.{write_exactly}

-- a table that begins with the entries of n fields of a record of a kind
abbrev pub stored_of : Kind → List ℕ → ℕ → List ℕ → List ℕ
stored_of k s n rest = entries_of n (fixed_width k) (optional_from k s) ++ rest

-- a record of a kind that fits with n optional fields, and its entries
module _ (k : Kind) (s : List ℕ) (n : ℕ) (g : kind_of s ≡ Some k) (e : judged s ≡ Ok n) (rest : List ℕ) where
  -- its fixed part and the fields that the entries name are the record again
  text_same : record_text (fixed_of k s) (optional_of s (entries n (stored_of k s n rest))) ≡ s
  text_same = rw (fields_back s n (fixed_width k) rest) (fits_text k s n g e)

  -- the table has them all
  stored_wide : n * entry_width ≤ length (stored_of k s n rest)
  stored_wide =
      rw (length-append (entries_of n (fixed_width k) (optional_from k s)) rest, entries_length n (fixed_width k) (optional_from k s))
      (omega arith)

  module _ (out : List ℕ) (room : length s ≤ length out) where
    -- so it can be written
    can : CanWrite (fixed_of k s) (stored_of k s n rest) n s out
    can = record {
      listed = stored_wide;
      lent = stored_inside s n (fixed_width k) rest (fits_fields k s n g e);
      makes = rw (fields_back s n (fixed_width k) rest) (whole_made (fixed_of k s) (fields_of n (optional_from k s)) k (fits_whole k s n g e));
      room = rw text_same room;
    }

    -- as it was
    fit_back : WritesBack (fixed_of k s) (stored_of k s n rest) n s out
    fit_back = rw text_same at ((write_exactly (fixed_of k s) (stored_of k s n rest) n s out).all_records can)

-- what is written from what a check of a record gave is the record
pub write_after_read : (k : Kind) (s lent out : List ℕ) → kind_of s ≡ Some k → (read_call s lent).said.answer ≡ 0 → length s ≤ length out
    → WritesBack (take (fixed_width k) s) (read_call s lent).table (read_call s lent).said.fields s out
unfolding checked_of optional_start
write_after_read k s lent out g a room =
    let d = check_done s lent a in
    rw (check_fits s lent (table_large s lent a) d.0 d.1, g)
    (fit_back k s d.0 g d.1 (drop (d.0 * entry_width) lent) out room)
