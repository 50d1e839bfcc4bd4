-- A book made by bookings from empty can be saved and loaded, the statements.
use Rattle.std.specs.Prelude.{◌≡◌, true, List, ℕ, ◌≤◌, length}
use Rattle.book.specs.Lent.{Lent, used_lines, used_slips, sound}
use Rattle.balance.specs.Met.{Met}
use Rattle.balance.specs.Demand3.{Given, fresh, give_all}
use Rattle.save.specs.Saved.{saved_width, save}
use Rattle.save.specs.Load.{load}
use Rattle.save.specs.declared.form.Form.TheVariants.{New}
use Rattle.restored.specs.Restored.{Bytes, Orderly, SameBook, Holds, saved_bytes}

-- the book after any records, each with the roster that it met, one after the other, given to the booking call, from rooms with no used entries
abbrev pub book_of : List ℕ → List ℕ → List Met → Lent
book_of lines slips records = (give_all (fresh lines slips) records).book

-- every such book is orderly, whatever came down the line
abbrev pub BookingsOrderly : Type 0
BookingsOrderly = (lines slips : List ℕ) (records : List Met) → sound (fresh lines slips).book ≡ true → Orderly (book_of lines slips records)

-- so its save, where the output is large enough, always loads where the room is large enough, and gives the same book
abbrev pub BookSurvives : Type 0
BookSurvives =
    (lines slips : List ℕ) (records : List Met) (c : Lent) (out : List ℕ) → sound (fresh lines slips).book ≡ true → Bytes lines
    → Holds c (book_of lines slips records) → saved_width New (used_lines (book_of lines slips records)) (used_slips (book_of lines slips records)) ≤ length out
    → ((load (saved_bytes (save (book_of lines slips records) out)) c).said.answer ≡ 0)
    × SameBook (book_of lines slips records) (load (saved_bytes (save (book_of lines slips records) out)) c).lent

-- bookings keep a book so, also one that was loaded
abbrev pub StaysOrderly : Type 0
StaysOrderly =
    (g : Given) (records : List Met) → Orderly g.book → length g.book.used ≡ 2
    → Orderly (give_all g records).book × (length (give_all g records).book.used ≡ 2)

-- and its lines bytes
abbrev pub StaysBytes : Type 0
StaysBytes = (g : Given) (records : List Met) → Bytes g.book.lines → Bytes (give_all g records).book.lines
