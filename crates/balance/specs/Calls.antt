-- The two calls that the promises speak of, as their contracts fix them.
use Rattle.std.specs.Prelude.{ℕ, List}
use Rattle.book.specs.Lent.{Lent}
use Rattle.book.specs.Booking.{Outcome, book}
use Rattle.book.specs.Asked.{line_asked}
use Rattle.book.specs.declared.answer.Told.{Told}
use Rattle.balance.specs.Met.{Met}

-- `booking::book`: a record that meets a roster, given to a lent book; what it says, and the lent book afterwards
abbrev pub book_call : Met → Lent → Outcome
book_call s b = book s.given s.roster b

-- `asking::line`: the five fields of a key asked of a lent book
abbrev pub ask_call : List (List ℕ) → Lent → Told
ask_call fields b = line_asked fields b
