-- A record of a kind fits a sound book at the line with an index, under some ceiling.
use Rattle.std.specs.Prelude.{ℕ, ◌≡◌, true, List, Ok}
use Rattle.record.specs.declared.layout.Kind.{Kind}
use Rattle.book.specs.Lent.{Lent, sound}
use Rattle.book.specs.Booking.{book_judged}

pub record Fits (k : Kind) (s : List ℕ) (b : Lent) (i : ℕ) : Type 0 where
  pub is_sound : sound b ≡ true
  pub ceiling : ℕ
  pub fits : book_judged k s ceiling b ≡ Ok i
