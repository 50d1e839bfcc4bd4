-- Cases for what the sentences over all bookings alone do not pin: figures, marks, schools, the limit, the numbers, 17 against 18.
use Rattle.std.specs.Prelude.{ℕ, List, [], ◌∷◌, ◌++◌}
use Prim.Native.String.{String}
use Rattle.std.proofs.Math.Option.{some}
use Rattle.cells.specs.Bytes.{bytes}
use Rattle.ledger.specs.Lists.{given}
use Rattle.ledger.specs.Book.{Key, Hold, Line, Rooms, ordered, filled, still_open, let_go, extra}
use Rattle.ledger.specs.Booking.{Fit, order, goods, report, Answer, done, refused, judge, line_at, number_of}
use Rattle.ledger.specs.History.{State, settle, key_of}

-- keys: a school of 12 bytes, then supplier and reference
abbrev pub key : String → String → Key
key school rest = bytes school ++ bytes rest

abbrev pub ours : Key
ours = key "43210     VD" "24000     VDA-17      "

-- the school's line with another reference
abbrev pub second : Key
second = key "43210     VD" "24000     VDA-18      "

-- another school with the same reference
abbrev pub theirs : Key
theirs = key "43211     VD" "24000     VDA-17      "

abbrev pub slip : String → Key
slip position = bytes "24000     VD43210     VD2024022670012345  " ++ bytes position

-- an order under a ceiling, and one under a ceiling that is never in its way
abbrev pub ordering_under : ℕ → Key → ℕ → Fit
ordering_under ceiling k n = order k (record { copies = n; article = bytes "9783442756841EN" }) ceiling

abbrev pub ordering : Key → ℕ → Fit
ordering k n = ordering_under 1000000 k n

abbrev pub arriving : Key → String → ℕ → Fit
arriving k position n = goods k (record { slip = slip position; copies = n })

abbrev pub telling : Key → Hold → Fit
telling k h = report k (record { hold = h; message = some 15; date = bytes "20240315" })

-- what the desk prints of a record: answer, ordered, filled, open, let go, extra
abbrev pub Said : Type 0
Said = List ℕ

abbrev pub figures_of : Line → Said
figures_of l = ordered l ∷ filled l ∷ still_open l ∷ let_go l ∷ extra l ∷ []

abbrev pub no_figures : Said
no_figures = 0 ∷ 0 ∷ 0 ∷ 0 ∷ 0 ∷ []

-- the figures of a record's line after it is done, zeros on a refusal
abbrev pub figures_after : Answer → State → Fit → Said
figures_after done st r = given no_figures figures_of (line_at (key_of r) (settle done st r).book.lines)
figures_after (refused n) st r = no_figures

-- the lines that a desk prints for a sequence of records
unfoldable pub desk : Rooms → State → List Fit → List Said
desk rooms st [] = []
desk rooms st (r ∷ rs) =
    (number_of (judge rooms st.book r) ∷ figures_after (judge rooms st.book r) st r) ∷ desk rooms (settle (judge rooms st.book r) st r) rs

abbrev pub wide : Rooms
wide = record { for_lines = 256; for_slips = 512 }

abbrev pub narrow : Rooms
narrow = record { for_lines = 1; for_slips = 1 }
