-- What is printed of each record (RULES 11).
use Rattle.std.specs.Prelude.{ℕ, ◌+◌, ◌/◌, ◌%◌, Bool, ◌&&◌, ◌||◌, List, [], ◌∷◌, eqb, leb, get_or}
use Rattle.cells.specs.Bytes.{pick, bytes}
use Rattle.entry.specs.Report.{most_message}
use Rattle.book.specs.Lent.{Lent}
use Rattle.book.specs.Booking.{Outcome}
use Rattle.own.specs.Own.{book_own}

-- the byte `?`
abbrev pub unknown_letter : ℕ
unknown_letter = 63

-- `?` for answers 1 and 2, else the record's first byte
unfoldable pub kind_letter : ℕ → List ℕ → ℕ
kind_letter answer s = pick (eqb answer 1 || eqb answer 2) unknown_letter (get_or s 0 unknown_letter)

-- there is a message to print where the record was booked and its line's last report has one
unfoldable pub is_message : ℕ → ℕ → Bool
is_message answer message = eqb answer 0 && leb message most_message

-- a message's three digits
unfoldable pub message_digits : ℕ → List ℕ
message_digits n = (48 + n / 100) ∷ (48 + n / 10 % 10) ∷ (48 + n % 10) ∷ []

-- what is printed of it: the three digits, or a hyphen where there is none
unfoldable pub message_field : ℕ → ℕ → List ℕ
message_field answer message = pick (is_message answer message) (message_digits message) (bytes "-")

-- records booked one after another, each into the book that the one before it left
unfoldable pub book_each : List (List ℕ) → Lent → List Outcome
book_each [] b = []
book_each (s ∷ ss) b = book_own s b ∷ book_each ss (book_own s b).lent
