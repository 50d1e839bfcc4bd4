-- The lent book, as the code writes it, as the record of its lists; and that it stays in the same rooms.
use Rattle.std.specs.Prelude.{ℕ, ◌≡◌, ◌+◌, List, get_or, set}
use Rattle.book.specs.Lent.{Lent, lent}
use Rattle.entering.specs.declared.held.Book.{Book}

abbrev pub held : Book → Lent
held b = lent b.lines.now b.slips.now b.used.now

-- the used counts after a new line
abbrev pub one_line_more : List ℕ → List ℕ
one_line_more used = set used 0 (get_or used 0 0 + 1)

-- the three references are those that they were
pub record SameRooms (old new : Book) : Type 0 where
  pub lines : new.lines.ghost_name ≡ old.lines.ghost_name
  pub slips : new.slips.ghost_name ≡ old.slips.ghost_name
  pub used : new.used.ghost_name ≡ old.used.ghost_name
