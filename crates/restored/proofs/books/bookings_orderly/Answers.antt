-- The promise of `bookings_orderly` is the theorem.
use Rattle.restored.proofs.Bookings.{bookings_orderly}
use Rattle.restored.proofs.books.bookings_orderly.Goals as goal

pub returns : goal.returns
returns c = bookings_orderly
