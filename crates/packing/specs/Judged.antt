-- What is refused of a record with all fields, those of the table and then more, as the one table that `write_with` writes.
use Rattle.std.specs.Prelude.{ℕ, ◌+◌, List, length, Some}
use Rattle.record.specs.Fields.{Optional}
use Rattle.record.specs.declared.layout.Kind.{Kind}
use Rattle.writing.specs.Write.{rest_judged, write_judged}
use Rattle.writing.specs.Verdicts.{Verdict}
use Rattle.parts.specs.Write.{table_with, contents_with}

-- 8, 23, 9 and 10, 1, 23
unfoldable pub rest_with : List Optional → Kind → List ℕ → List ℕ → ℕ → List ℕ → List ℕ → Verdict
rest_with more k fixed table count contents out =
    rest_judged (Some k) fixed (table_with more table count) (count + length more) (contents_with more contents) out

-- 5 before them
unfoldable pub judged_with : List Optional → List ℕ → List ℕ → ℕ → List ℕ → List ℕ → Verdict
judged_with more fixed table count contents out =
    write_judged fixed (table_with more table count) (count + length more) (contents_with more contents) out
