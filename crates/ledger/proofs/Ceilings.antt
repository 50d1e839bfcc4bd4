-- After an accepted order its school's open copies are at most the ceiling.
use Prim.Native.Nat.{◌+◌}
use native.Mathlib.Omega.{arith}
use mathlib.Core.Path.{◌≡◌, ◌∙◌, ap}
use mathlib.Core.List.{List, [], ◌∷◌, ◌++◌}
use borrow.Author.Tests.{ltb-false}
use Rattle.cells.proofs.Lists.{same_refl}
use Rattle.ledger.specs.Lists.{keep, total}
use Rattle.ledger.specs.Book.{Key, Order, Line, school_of, of_school, ordered, filled, is_n, still_open}
use Rattle.ledger.specs.Booking.{order, open_of, tests, judge, new_line, enter}
use Rattle.ledger.specs.Demand3.{CeilingKept}
use Rattle.ledger.proofs.Lists.{keep_in, total_more}
use Rattle.ledger.proofs.Tests.{none_holds}

-- all copies of a new line are open
new_open : (k : Key) (o : Order) → still_open (new_line k o) ≡ o.copies
unfolding still_open is_n ordered filled
new_open k o = omega arith

-- a new line adds its copies to its school's
open_more : (k : Key) (o : Order) (ls : List Line) → open_of (school_of k) (ls ++ (new_line k o ∷ [])) ≡ open_of (school_of k) ls + o.copies
unfolding open_of of_school
open_more k o ls =
    ap (total still_open) (keep_in (λ (l : Line). of_school (school_of k) l.key) ls (new_line k o) (same_refl (school_of k)))
    ∙ (total_more still_open (keep (λ (l : Line). of_school (school_of k) l.key) ls) (new_line k o)
    ∙ rw (new_open k o))

pub ceiling_kept : CeilingKept
unfolding judge tests enter
ceiling_kept rooms b k o ceiling e =
    rw (open_more k o b.lines) (ltb-false _ _ (none_holds (tests rooms b (order k o ceiling)) e).1.0)
