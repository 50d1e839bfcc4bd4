-- What holds of the book after any sequence of bookings from empty; and when a record is accepted.
use Rattle.ledger.specs.Book.{of_school}
use Rattle.ledger.specs.Booking.{tests, judge}
use Rattle.ledger.specs.Demand3.{Demand3, AcceptedExactly}
use Rattle.ledger.proofs.Tests.{none_holds, all_passed}
use Rattle.ledger.proofs.Histories.{alone}
use Rattle.ledger.proofs.Sums.{order_sum, slip_sum}
use Rattle.ledger.proofs.Lines.{every_line}
use Rattle.ledger.proofs.Slips.{slip_once}

pub promise3 : Demand3
promise3 rooms rs =
    record {
      orders = λ school. order_sum (of_school school) rooms rs;
      slips = λ school. slip_sum (of_school school) rooms rs;
      slip_once = slip_once rooms rs;
      every_line = every_line rooms rs;
      school_alone = λ school. alone (of_school school) rooms rs;
    }

-- a record is accepted exactly where none of its tests holds
pub accepted_exactly : AcceptedExactly
unfolding judge
accepted_exactly rooms b r = (none_holds (tests rooms b r), all_passed (tests rooms b r))
