-- What is known after records were given to sound rooms with nothing used.
use mathlib.Core.Path.{◌≡◌, refl}
use mathlib.Core.Bool.{true}
use mathlib.Core.List.{List, [], map}
use Prim.Native.Nat.{ℕ}
use Rattle.ledger.specs.Book.{Rooms}
use Rattle.ledger.proofs.Lists.{Each}
use Rattle.ledger.proofs.Gives.{Gives}
use Rattle.book.specs.Lent.{sound}
use Rattle.balance.specs.Met.{Met}
use Rattle.balance.specs.Told.{told, rooms_of, fit_of}
use Rattle.balance.specs.Demand3.{Given, fresh, give_all}
use Rattle.balance.proofs.Soundness.{Kept}
use Rattle.balance.proofs.Bookable.{Bookable}
use Rattle.balance.proofs.Given.{Booked, all_given, fresh_told}
use Rattle.balance.proofs.Accounts.{all_bookable}

pub record Stands (lines slips : List ℕ) (g : Given) : Type 0 where
  pub kept : Kept g.book
  pub gives : Gives (rooms_of (fresh lines slips).book) (map fit_of g.accepted) (told g.book)
  pub fit_to_book : Each Bookable g.accepted

pub stands : (lines slips : List ℕ) (records : List Met) → sound (fresh lines slips).book ≡ true → Stands lines slips (give_all (fresh lines slips) records)
stands lines slips records e =
    let g : Given = fresh lines slips in
    let rooms : Rooms = rooms_of g.book in
    let start : Booked rooms [] g = record { kept = record { is_sound = e; counts = refl }; lent = refl; tells = fresh_told rooms lines slips } in
    let end = all_given rooms [] records g start in
    record { kept = end.kept; gives = end.tells; fit_to_book = all_bookable records g tt }
