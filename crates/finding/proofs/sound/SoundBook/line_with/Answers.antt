-- `SoundBook::line_with` meets its contract.
use Rattle.book.specs.Lent.{find_line}
use Rattle.entry.specs.Keyed.{keyed}
use Rattle.finding.specs.Seen.{seen}
use Rattle.finding.proofs.Stands.{line_used}
use Rattle.finding.proofs.sound.SoundBook.line_with.Goals as goal

pub returns-clause-used : goal.returns-clause-used
unfolding find_line
returns-clause-used c = rw (c.find_line.ensures, c.used_lines.ensures) (line_used (seen c.args.self.lent) (keyed c.args.key))
