-- What holds, in the calls' own words, after any byte strings, each with the roster that it met, were given, one after the other, to the booking call. It speaks of what the booking call and the call by key answer, and of how a record's key fields and copies stand in it; of nothing else in the book.
use Rattle.std.specs.Prelude.{ℕ, ◌+◌, ◌≤◌, ◌≡◌, Bool, true, false, ◌&&◌, List, [], ◌∷◌, ◌++◌, eqb, length, take, None, Option, Some}
use Rattle.cells.specs.Bytes.{pick, same, joined}
use Rattle.rules.specs.Values.{copies, expected_of}
use Rattle.rules.specs.declared.expected.Expected.TheVariants.{Blanks}
use Rattle.record.specs.Layout.{kind_of}
use Rattle.record.specs.declared.layout.Kind.TheVariants.{Order, Goods, Closing, Report}
use Rattle.entry.specs.declared.line.Line.{Line}
use Rattle.entry.specs.declared.line.Mark.TheVariants.{Unmarked}
use Rattle.entry.specs.declared.report.Message.TheVariants.{NoReport}
use Rattle.entry.specs.declared.line.Figures.{Figures}
use Rattle.ledger.specs.Lists.{keep, total}
use Rattle.book.specs.Lent.{Lent, lent, sound}
use Rattle.book.specs.Booking.{key_fields, school_fields, slip_fields, copies_in, mark_in, message_in, date_in, refused_as, done_as, fields_in}
use Rattle.book.specs.declared.answer.Refused.TheVariants.{Unsound, NoLine}
use Rattle.book.specs.declared.answer.Told.{Told}
use Rattle.balance.specs.Met.{Met}
use Rattle.balance.specs.Calls.{book_call, ask_call}
use Rattle.balance.specs.Accepted.{OnRoster, AcceptedExactly}
use Rattle.record.specs.declared.layout.Kind.{Kind}

-- one of four, by the kind of a record: an order, a delivery of goods, a report, or anything else
abbrev pub by_kind : {A : Type 0} → A → A → A → A → Option Kind → A
by_kind order goods report other (Some Order) = order
by_kind order goods report other (Some Goods) = goods
by_kind order goods report other (Some Report) = report
by_kind order goods report other (Some Closing) = other
by_kind order goods report other None = other

unfoldable pub is_order : Met → Bool
is_order s = by_kind true false false false (kind_of s.given)

unfoldable pub is_delivery : Met → Bool
is_delivery s = by_kind false true false false (kind_of s.given)

unfoldable pub is_report : Met → Bool
is_report s = by_kind false false true false (kind_of s.given)

-- the copies that an order or a delivery states
unfoldable pub copies_on : Met → ℕ
copies_on s = by_kind (copies_in Order s.given).0 (copies_in Goods s.given).0 0 0 (kind_of s.given)

-- the five fields of its line's key: school address and qualifier, supplier address and qualifier, reference
unfoldable pub key_fields_in : Met → List (List ℕ)
key_fields_in s =
    by_kind (fields_in Order (key_fields Order) s.given) (fields_in Goods (key_fields Goods) s.given) (fields_in Report (key_fields Report) s.given) [] (kind_of s.given)

-- the seven fields of a delivery's slip key
unfoldable pub slip_fields_in : Met → List (List ℕ)
slip_fields_in s = fields_in Goods slip_fields s.given

-- the same fields in the same order
unfoldable pub same_fields : List (List ℕ) → List (List ℕ) → Bool
same_fields [] [] = true
same_fields [] (g ∷ gs) = false
same_fields (f ∷ fs) [] = false
same_fields (f ∷ fs) (g ∷ gs) = same f g && same_fields fs gs

-- a key's fields begin with those of a school
unfoldable pub of_school : List (List ℕ) → List (List ℕ) → Bool
of_school school fields = same_fields school (take school_fields fields)

-- of some records: a school's, its orders, its deliveries, those with a line's key, and deliveries with a slip's key
unfoldable pub records_of : List (List ℕ) → List Met → List Met
records_of school ss = keep (λ (s : Met). of_school school (key_fields_in s)) ss

abbrev pub orders_of : List (List ℕ) → List Met → List Met
orders_of school ss = keep is_order (records_of school ss)

abbrev pub deliveries_of : List (List ℕ) → List Met → List Met
deliveries_of school ss = keep is_delivery (records_of school ss)

unfoldable pub records_with : List (List ℕ) → List Met → List Met
records_with fields ss = keep (λ (s : Met). same_fields fields (key_fields_in s)) ss

abbrev pub deliveries_with : List (List ℕ) → List Met → List Met
deliveries_with slip ss = keep (λ (s : Met). is_delivery s && same_fields slip (slip_fields_in s)) ss

-- what the last of some reports says, or what stood before where there is none
unfoldable pub last_said : {A : Type 0} → (List ℕ → A) → A → List Met → A
last_said says earlier [] = earlier
last_said says earlier (s ∷ ss) = last_said says (says s.given) ss

-- the line with so many copies ordered and arrived, and what the last of some reports says: its mark, message and expected date
unfoldable pub line_made : ℕ → ℕ → List Met → Line
line_made ordered arrived reports = record {
  ordered = copies ordered;
  arrived = copies arrived;
  mark = last_said mark_in Unmarked reports;
  message = last_said message_in NoReport reports;
  expected = last_said (λ s. expected_of (date_in s)) Blanks reports;
}

-- what a key's own accepted records say of its line: its order begins it, the deliveries after that are summed, and the last report counts; without an order there is none (16)
unfoldable pub line_from : List Met → Told
line_from [] = refused_as NoLine
line_from (s ∷ ss) =
    pick (is_order s)
    (done_as (line_made (copies_on s) (total copies_on (keep is_delivery ss)) (keep is_report ss)))
    (line_from ss)

-- what the call by key answers for a record's own key
abbrev pub figures_for : Lent → Met → Figures
figures_for b s = (ask_call (key_fields_in s) b).figures

-- the copies of an order that are accounted for, and those that came for it
abbrev pub accounted : Figures → ℕ
accounted f = f.filled.0 + f.let_go.0 + f.still_open.0

abbrev pub came : Figures → ℕ
came f = f.filled.0 + f.extra.0

-- the lent book, and the records that answered 0, each with the roster that it met, the earliest first
pub record Given : Type 0 where
  pub book : Lent
  pub accepted : List Met

-- rooms of any contents, of which nothing is used yet
abbrev pub fresh : List ℕ → List ℕ → Given
fresh lines slips = record { book = lent lines slips (0 ∷ 0 ∷ []); accepted = [] }

-- one record given to the booking call
unfoldable pub give : Given → Met → Given
give g s =
    record {
      book = (book_call s g.book).lent;
      accepted = pick (eqb (book_call s g.book).said.answer 0) (g.accepted ++ (s ∷ [])) g.accepted;
    }

-- any list of byte strings with any rosters, one after the other
unfoldable pub give_all : Given → List Met → Given
give_all g [] = g
give_all g (s ∷ ss) = give_all (give g s) ss

-- what is promised of rooms and what was given from then on
pub record Accounts (lines slips : List ℕ) (end : Given) : Type 0 where
  -- per school: the copies on its accepted orders are those filled, let go and open, as the call by key answers for each of these orders
  pub orders : (school : List (List ℕ))
      → total copies_on (orders_of school end.accepted)
      ≡ total (λ (s : Met). accounted (figures_for end.book s)) (orders_of school end.accepted)
  -- per school: the copies on its accepted deliveries are those filled and extra on the same orders
  pub deliveries : (school : List (List ℕ))
      → total copies_on (deliveries_of school end.accepted)
      ≡ total (λ (s : Met). came (figures_for end.book s)) (orders_of school end.accepted)
  -- each slip once: no two accepted deliveries have one slip key
  pub slip_once : (slip : List (List ℕ)) → length (deliveries_with slip end.accepted) ≤ 1
  -- each line from its own accepted records: what the call by key answers for any key follows from the accepted records with this key; in rooms of wrong size it is 20
  pub every_line : (fields : List (List ℕ))
      → ask_call fields end.book
      ≡ pick (sound (fresh lines slips).book) (line_from (records_with fields end.accepted)) (refused_as Unsound)
  -- the school alone: its accepted records, each with the roster that it met, given in the same order to rooms of the same sizes with nothing used, are all accepted,
  pub alone_accepted : (school : List (List ℕ)) (lines' slips' : List ℕ) → length lines' ≡ length lines → length slips' ≡ length slips
      → (give_all (fresh lines' slips') (records_of school end.accepted)).accepted ≡ records_of school end.accepted
  -- and the call by key answers the same for every key of the school
  pub alone_answers : (school : List (List ℕ)) (lines' slips' : List ℕ) → length lines' ≡ length lines → length slips' ≡ length slips
      → (fields : List (List ℕ)) → of_school school fields ≡ true
      → ask_call fields (give_all (fresh lines' slips') (records_of school end.accepted)).book ≡ ask_call fields end.book

-- the school that a record is of
abbrev pub school_of : Met → List (List ℕ)
school_of s = take school_fields (key_fields_in s)

-- the copies still open for a school, as the call by key answers for each of its accepted orders
abbrev pub open_for : List (List ℕ) → Given → ℕ
open_for school g = total (λ (s : Met). (figures_for g.book s).still_open.0) (orders_of school g.accepted)

-- what 25 promises: after an accepted order the open copies of its school are at most its ceiling on the roster that the order met
abbrev pub CeilingKept : Type 0
CeilingKept =
    (lines slips : List ℕ) (records : List Met) (s : Met) (ceiling : ℕ) → is_order s ≡ true
    → (book_call s (give_all (fresh lines slips) records).book).said.answer ≡ 0 → OnRoster s.roster (joined (school_of s)) ceiling
    → open_for (school_of s) (give (give_all (fresh lines slips) records) s) ≤ ceiling

-- THE PROMISE: what is accepted, the accounts of whatever rooms are lent and whatever byte strings come with whatever rosters, and the ceiling
pub record Demand3 : Type 0 where
  pub accepted_exactly : AcceptedExactly
  pub accounts : (lines slips : List ℕ) (records : List Met) → Accounts lines slips (give_all (fresh lines slips) records)
  pub ceiling_kept : CeilingKept
