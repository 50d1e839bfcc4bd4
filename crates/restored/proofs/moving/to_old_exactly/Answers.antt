-- The promise of `to_old_exactly` is the theorem.
use Rattle.restored.proofs.Moves.{to_old_exactly}
use Rattle.restored.proofs.moving.to_old_exactly.Goals as goal

pub returns : goal.returns
returns c = to_old_exactly
