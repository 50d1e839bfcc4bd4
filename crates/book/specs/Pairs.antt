-- Cases for the order of booking's answers: each pair of neighbours where both hold at once, and 15, 19 and 21 by themselves, in rooms of one line and one slip.
use Rattle.std.specs.Prelude.{ℕ, suc, ◌*◌, Bool, ◌&&◌, List, [], ◌∷◌, ◌++◌, eqb, replicate, take}
use Rattle.std.proofs.lemmas.List.Edits.{sets}
use Rattle.cells.specs.Bytes.{pick, bytes}
use Rattle.cells.specs.Little.{le_bytes}
use Rattle.roster.specs.Roster.{entry_width}
use Rattle.roster.specs.Cases.{entry}
use Rattle.record.specs.Samples.{X, Y, Z, put, with_bytes}
use Rattle.record.specs.Edges.{times}
use Rattle.entry.specs.Report.{message_unknown}
use Rattle.entry.specs.Stored.{most_arrived, mark_at, arrived_at}
use Rattle.book.specs.Lent.{Lent}
use Rattle.book.specs.Booking.{book}
use Rattle.book.specs.Cases.{roomy, schools, with_x, with_both}
use Rattle.book.specs.declared.answer.Booked.{Booked}

-- a record that meets a roster, given to a lent book, with the answer and place that it must give
pub record Trial : Type 0 where
  pub given : List ℕ
  pub roster : List ℕ
  pub lent : Lent
  pub answer : ℕ
  pub place : ℕ

-- before the roster of the cases, and before another, where the place is 0
abbrev pub trial : List ℕ → Lent → ℕ → ℕ → Trial
trial s b a p = record { given = s; roster = schools; lent = b; answer = a; place = p }

abbrev pub meets : List ℕ → List ℕ → Lent → ℕ → Trial
meets s roster b a = record { given = s; roster = roster; lent = b; answer = a; place = 0 }

-- X and Y in room for so many slips, beside one line
abbrev pub booked : ℕ → Lent
booked slips = with_both 1 slips

-- all of its room is used
abbrev pub full : Lent
full = booked 1

-- with bytes of its line set from a place on
abbrev pub line_set : ℕ → List ℕ → Lent → Lent
line_set at bs b = record { lines = sets b.lines at bs; slips = b.slips; used = b.used }

-- with so many copies arrived on its line
abbrev pub arrived : ℕ → Lent → Lent
arrived n b = line_set arrived_at (le_bytes 4 n) b

-- where the reference stands in a line's key
abbrev reference_at : ℕ
reference_at = 24

-- with a line whose reference is blank
abbrev pub unreferenced : Lent
unreferenced = line_set reference_at (bytes "          ") full

-- with more lines used than there are
abbrev pub overused : Lent
overused = record { lines = full.lines; slips = full.slips; used = 2 ∷ 1 ∷ [] }

-- Y at another position, which no slip has
abbrev pub next : List ℕ
next = put 46 "0002" Y

unfoldable pub trials : List Trial
trials =
    trial [] overused 20 0  -- 20 before 2
    ∷ trial (with_bytes (times 96 (bytes "*8888")) X) (roomy 1 1) 0 0  -- 96 fields, 97 fields
    ∷ trial (with_bytes (times 97 (bytes "*8888")) X) (roomy 1 1) 8 547
    ∷ trial (put 72 "2" (put 36 "          " Y)) full 5 60  -- 5 before 13
    ∷ trial (put 36 "          " (put 75 "0000" Y)) full 13 0  -- 13 before 11
    ∷ trial (put 36 "          " (put 50 "          " Y)) full 13 0  -- 13 before 12
    ∷ trial (put 36 "          " (put 61 "0000" X)) full 11 0  -- 11 before 12
    ∷ trial (put 50 "          " (put 75 "0000" Y)) full 11 0
    ∷ trial (put 36 "          " X) unreferenced 12 0  -- 12 before 14 and 15
    ∷ trial (put 36 "          " X) full 12 0  -- 12 before 15
    ∷ trial (put 50 "          " Y) unreferenced 12 0  -- 12 before 17
    ∷ trial (put 50 "          " Y) full 12 0  -- 12 before 18 and 16
    ∷ trial (put 38 "          " Z) full 12 0  -- 12 before 16
    ∷ trial X full 14 0  -- 14 before 15
    ∷ trial (put 36 "A-18      " X) full 15 0
    ∷ trial (put 36 "A-18      " X) (roomy 1 1) 0 0
    ∷ trial Y (arrived most_arrived full) 17 0  -- 17 before 21 and 19
    ∷ trial Y full 17 0  -- 17 before 19
    ∷ trial (put 75 "0005" Y) (arrived most_arrived full) 18 0  -- 18 before 21 and 19
    ∷ trial (put 75 "0005" Y) full 18 0  -- 18 before 19
    ∷ trial (put 50 "A-18      " Y) full 18 0  -- 18 before 16
    ∷ trial (put 50 "A-18      " next) full 16 0  -- 16 before 19
    ∷ trial next (arrived most_arrived full) 21 0  -- 21 before 19
    ∷ trial next (arrived 9999996 (booked 2)) 21 0  -- one copy past the limit
    ∷ trial next (arrived 9999995 (booked 2)) 0 0  -- just at the limit
    ∷ trial next full 19 0
    ∷ trial next (booked 2) 0 0
    ∷ trial (put 38 "A-18      " Z) full 16 0
    ∷ trial Z full 0 0
    ∷ []

-- a roster of X's school alone with a ceiling, and one on which it does not stand
abbrev pub only : ℕ → List ℕ
only ceiling = entry "43210     VD" ceiling

abbrev pub neighbour : List ℕ
neighbour = entry "43211     VD" 500

-- X for another reference; the book after X, with room for a second line; and that with a mark on X's line, of a report whose message is unknown
abbrev pub other : List ℕ
other = put 36 "A-18      " X

abbrev pub room : Lent
room = with_x 2 1

abbrev pub marked : ℕ → Lent
marked m = line_set mark_at (m ∷ le_bytes 2 message_unknown) room

-- the roster's answers: 20 for its size, 24 between 12 and the book, 25 between 14 and 15
unfoldable pub roster_trials : List Trial
roster_trials =
    meets X (take 15 schools) (roomy 1 1) 20  -- a ragged roster, one byte short and one too long
    ∷ meets X (take 17 schools) (roomy 1 1) 20
    ∷ meets [] (take 1 schools) (roomy 1 1) 20  -- 20 before 2
    ∷ meets X (replicate (63 * entry_width) 0 ++ only 10) (roomy 1 1) 0  -- 64 entries, 65 entries
    ∷ meets X (replicate (64 * entry_width) 0 ++ only 10) (roomy 1 1) 20
    ∷ meets X [] (roomy 1 1) 24  -- no entries
    ∷ meets (put 36 "          " X) [] full 12  -- 12 before 24, for each kind
    ∷ meets (put 50 "          " Y) [] full 12
    ∷ meets (put 38 "          " Z) [] full 12
    ∷ meets (put 61 "0000" X) [] full 11  -- 11 and 13 before 24
    ∷ meets (put 36 "          " Y) [] full 13
    ∷ meets X neighbour full 24  -- 24 before 14 and 15
    ∷ meets other neighbour full 24  -- 24 before 15
    ∷ meets Y neighbour full 24  -- 24 before 17
    ∷ meets (put 75 "0005" Y) neighbour full 24  -- 24 before 18
    ∷ meets next neighbour (roomy 1 1) 24  -- 24 before 16
    ∷ meets next neighbour (arrived most_arrived full) 24  -- 24 before 21 and 19
    ∷ meets (put 38 "A-18      " Z) neighbour full 24  -- 24 before 16 of a report
    ∷ meets Z neighbour full 24
    ∷ meets X (entry "43210     IB" 500) (roomy 1 1) 24  -- an account is address and qualifier
    ∷ meets X (only 9) full 14  -- 14 before 25
    ∷ meets other (only 15) full 25  -- 25 before 15: four of X's ten have come, six are open
    ∷ meets other (only 16) full 15
    ∷ meets X (only 9) (roomy 1 1) 25  -- one above the ceiling, and at it
    ∷ meets X (only 10) (roomy 1 1) 0
    ∷ meets X (only 0) (roomy 1 1) 25
    ∷ meets other (only 19) room 25  -- the open copies of the line that is there count
    ∷ meets other (only 20) room 0
    ∷ meets other (only 10) (marked 2) 0  -- let go by N they do not
    ∷ meets other (only 9) (marked 2) 25
    ∷ meets other (only 19) (marked 1) 25  -- opened again by J they do
    ∷ meets (put 63 "015J" Z) (only 0) (marked 2) 0  -- a report that opens copies past the ceiling stands, and a delivery is not asked
    ∷ meets Y (only 0) room 0
    ∷ meets X (only 10 ++ only 9) (roomy 1 1) 0  -- of two entries of one account the first speaks
    ∷ meets X (only 9 ++ only 10) (roomy 1 1) 25
    ∷ meets (put 4 "43211     " X) (only 500 ++ entry "43211     VD" 10) room 0  -- another school's copies are not counted
    ∷ []

-- it answers as it must
abbrev pub agrees : Booked → Trial → Bool
agrees said t = eqb said.answer t.answer && eqb said.place t.place

-- the number, from n on, of the first trial that is not as it should be; 0 where all are
unfoldable pub first_wrong : ℕ → List Trial → ℕ
first_wrong n [] = 0
first_wrong n (t ∷ ts) = pick (agrees (book t.given t.roster t.lent).said t) (first_wrong (suc n) ts) n
