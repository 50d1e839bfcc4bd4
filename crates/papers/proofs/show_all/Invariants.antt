-- `papers::show_all` ends: what is left gets shorter with each line.
use Rattle.std.proofs.Common.{length}
use Rattle.papers.proofs.show_all.Given as goal

abbrev pub decreases-loop-rest : goal.decreases-loop-rest
decreases-loop-rest g l = length l.rest
