-- What is given to the booking call besides the lent book: a record, and the roster that it meets.
use Rattle.std.specs.Prelude.{ℕ, List}

pub record Met : Type 0 where
  pub given : List ℕ
  pub roster : List ℕ
