-- The promise of `stays_orderly` is the theorem.
use Rattle.restored.proofs.Bookings.{stays_orderly}
use Rattle.restored.proofs.books.stays_orderly.Goals as goal

pub returns : goal.returns
returns c = stays_orderly
