-- `cells::little::put` meets its contract: the lowest bytes of the number, copied into a part.
use Rattle.std.proofs.Common.{◌∙◌, ap, take, arith}
use Rattle.cells.proofs.Widths.{write_low}
use Rattle.cells.proofs.little.put.Goals as goal

pub returns : goal.returns
returns g c =
    write_low c.args.s.now _ c.args.at g.row.W c.args.n _ c.requires.0 c.requires.1 (omega arith) (c.copy_from_slice.ensures.after ∙ ap (take g.row.W) c.to_le_bytes.ensures)
