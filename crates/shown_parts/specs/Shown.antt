-- What is printed of a record that was written again.
use Rattle.std.specs.Prelude.{ℕ, List, ◌++◌, eqb}
use Rattle.std.proofs.Math.Seq.{slice}
use Rattle.cells.specs.Bytes.{pick, bytes, same}
use Rattle.writing.specs.declared.answer.Written.{Written}

-- refused where the answer is not 0, written back where the bytes written are the record's, else written otherwise
unfoldable pub how_written : Written → List ℕ → List ℕ → List ℕ
how_written w copy s =
    pick (eqb w.answer 0)
    (pick (same (slice 0 w.length copy) s) (bytes "written back") (bytes "written otherwise"))
    (bytes "refused")

-- two blanks, what was written, a blank, how it was written, and a line feed
unfoldable pub written_line : List ℕ → List ℕ → List ℕ
written_line what how = bytes "  " ++ (what ++ (bytes " " ++ (how ++ bytes "\n")))
