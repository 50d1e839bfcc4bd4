-- A record that meets a roster of its own entry alone (RULES 11).
use Rattle.std.specs.Prelude.{ℕ, ◌≡◌, List, [], ◌++◌, ltb, length, None, Option, Some}
use Rattle.std.proofs.Math.Seq.{slice}
use Rattle.cells.specs.Bytes.{pick}
use Rattle.cells.specs.Little.{le_bytes}
use Rattle.roster.specs.Roster.{ceiling_width, highest_ceiling}
use Rattle.record.specs.Layout.{kind_of}
use Rattle.record.specs.declared.layout.Kind.TheVariants.{Order, Goods, Closing, Report}
use Rattle.book.specs.Lent.{Lent}
use Rattle.book.specs.Booking.{Outcome, book}
use Rattle.record.specs.declared.layout.Kind.{Kind}

-- where a record's sender and recipient stand, each with its qualifier
abbrev pub sender_at : ℕ
sender_at = 4

abbrev pub recipient_at : ℕ
recipient_at = 16

abbrev pub parties_end : ℕ
parties_end = 28

-- a record's own account: the sender's of an order, else the recipient's
unfoldable pub account_by : Option Kind → List ℕ → List ℕ
account_by (Some Order) s = slice sender_at recipient_at s
account_by (Some Goods) s = slice recipient_at parties_end s
account_by (Some Closing) s = slice recipient_at parties_end s
account_by (Some Report) s = slice recipient_at parties_end s
account_by None s = slice recipient_at parties_end s

-- one entry: its own account with the highest ceiling
unfoldable pub own_entry : List ℕ → List ℕ
own_entry s = account_by (kind_of s) s ++ le_bytes ceiling_width highest_ceiling

-- the roster that a record meets: its own entry, or none where it is too short to have its two parties
unfoldable pub own_roster : List ℕ → List ℕ
own_roster s = pick (ltb (length s) parties_end) [] (own_entry s)

unfoldable pub book_own : List ℕ → Lent → Outcome
book_own s b = book s (own_roster s) b

-- the roster that each record meets is never in its way: no record is answered 24 or 25
abbrev pub NeverInTheWay : Type 0
NeverInTheWay = (s : List ℕ) (b : Lent) → ((book_own s b).said.answer ≡ 24 → ⊥) × ((book_own s b).said.answer ≡ 25 → ⊥)
