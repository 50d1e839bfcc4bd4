-- `cells::little::get` meets its contract: the bytes at the place, and zeros behind them.
use Rattle.std.proofs.Common.{◌<◌, ◌^◌, ℕ, get_or, arith}
use Rattle.cells.specs.Little.{Little}
use Rattle.cells.proofs.Widths.{read_low, bytes_read}
use Rattle.cells.proofs.little.get.Goals as goal

pub returns : goal.returns
returns g c =
    let s = c.args.s.now in
    let small : (i : ℕ) → get_or s i 0 < 256 = λ i. let h = c.type_inv.s i in omega arith in
    let read : Little s c.args.at g.row.W (256 ^ g.row.W) c.from_le_bytes.result
    = read_low s c.copy_from_slice.new.self c.args.at g.row.W _ _ c.requires.0 c.requires.1 (omega arith) c.copy_from_slice.ensures.after small c.from_le_bytes.ensures in
    record { number = read; bytes = rw read.is (bytes_read s c.args.at g.row.W c.requires.0 small) }
