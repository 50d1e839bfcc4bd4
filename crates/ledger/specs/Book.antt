-- Lines and slips, and a line's figures (RULES 6.1, 6.2).
use Rattle.std.specs.Prelude.{ℕ, ◌-◌, min, Bool, true, false, List, take}
use Rattle.std.proofs.Math.Option.{Option, none, some}
use Rattle.cells.specs.Bytes.{pick, same}

-- a key: fields of a record one after the other, as bytes; RULES 6.1 says which they are for a line and for a slip
abbrev pub Key : Type 0
Key = List ℕ

-- school address and qualifier head a line's key
abbrev pub school_width : ℕ
school_width = 12

unfoldable pub school_of : Key → Key
school_of k = take school_width k

-- the line with a key is a school's
unfoldable pub of_school : Key → Key → Bool
of_school school k = same school (school_of k)

-- what an order, a delivery and a report say besides the key of their line
pub data Hold : Type 0 where
  J N : Hold

-- an order's article, with its qualifier, is kept in its line, and nothing else hangs on it
pub record Order : Type 0 where
  pub copies : ℕ
  pub article : List ℕ

pub record Goods : Type 0 where
  pub slip : Key
  pub copies : ℕ

-- a report's message number, if it is known, and its expected date, as bytes, are kept in its line, and nothing else hangs on them
pub record Report : Type 0 where
  pub hold : Hold
  pub message : Option ℕ
  pub date : List ℕ

-- a line: its key, its order with the quantity Q and the article, the sum A of its slips, and its last report if any
pub record Line : Type 0 where
  pub key : Key
  pub asked : Order
  pub arrived : ℕ
  pub last : Option Report

-- a slip: the key of its line, and what the delivery said
pub record Slip : Type 0 where
  pub line : Key
  pub says : Goods

pub record Book : Type 0 where
  pub lines : List Line
  pub slips : List Slip

-- the caller lends room for so many lines and slips
pub record Rooms : Type 0 where
  pub for_lines : ℕ
  pub for_slips : ℕ

-- a line's figures

unfoldable pub ordered : Line → ℕ
ordered l = l.asked.copies

-- ordered copies that have arrived
unfoldable pub filled : Line → ℕ
filled l = min (ordered l) l.arrived

-- copies that arrived beyond the order
unfoldable pub extra : Line → ℕ
extra l = l.arrived - filled l

-- the last report, if there is one, let the rest go
unfoldable pub is_n : Option Report → Bool
is_n none = false
is_n (some r) = elim r.hold [ J ↦ false | N ↦ true ]

-- ordered copies that have not arrived: let go after an N, else still open
unfoldable pub let_go : Line → ℕ
let_go l = pick (is_n l.last) (ordered l - filled l) 0

unfoldable pub still_open : Line → ℕ
still_open l = pick (is_n l.last) 0 (ordered l - filled l)
