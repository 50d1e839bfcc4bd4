-- `SoundBook::line` meets its contract.
use Rattle.finding.proofs.Stands.{line_in}
use Rattle.finding.proofs.sound.SoundBook.line.Goals as goal

pub invariant_of-read : goal.invariant_of-read
invariant_of-read c = record { inside = line_in c.args.self c.args.i c.requires }
