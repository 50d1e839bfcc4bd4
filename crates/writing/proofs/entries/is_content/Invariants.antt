-- `writing::entries::is_content` meets its contract. The invariant: what is left is judged as the whole is.
use mathlib.Core.Path.{◌≡◌}
use lib.ListN.{drop}
use Rattle.cells.specs.Bytes.{all}
use Rattle.writing.specs.Write.{content_byte}
use Rattle.writing.proofs.entries.is_content.Given as goal

abbrev pub invariant-loop-b : goal.invariant-loop-b
invariant-loop-b l = all content_byte l.s ≡ all content_byte (drop l.b-index l.s)
