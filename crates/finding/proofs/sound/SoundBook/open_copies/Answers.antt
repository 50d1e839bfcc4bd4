-- `SoundBook::open_copies` meets its contract.
use Rattle.finding.proofs.Stands.{lines_in, lines_few, each_sound}
use Rattle.finding.proofs.sound.SoundBook.open_copies.Goals as goal

pub open_copies-requires : goal.open_copies-requires
open_copies-requires c =
    let h = c.args.self.is_sound in
    rw c.used_lines.ensures (lines_in _ h, lines_few _ h, each_sound _ h)
