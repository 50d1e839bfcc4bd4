-- A lent book, as the code reads it, as the record of its lists.
use Rattle.book.specs.Lent.{Lent, lent}
use Rattle.finding.specs.declared.lent.LentBook.{LentBook}

abbrev pub seen : LentBook → Lent
seen b = lent b.lines.now b.slips.now b.used.now
