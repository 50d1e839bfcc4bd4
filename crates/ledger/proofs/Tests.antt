-- A record is accepted exactly where none of its tests holds.
use mathlib.Core.Path.{◌≡◌, refl}
use mathlib.Core.List.{List, [], ◌∷◌}
use Rattle.cells.proofs.Bools.{split}
use Rattle.ledger.specs.Booking.{Test, done, first_of}
use Rattle.ledger.specs.Demand3.{NoneHolds}

-- of tests that are passed none holds
pub none_holds : (ts : List Test) → first_of ts ≡ done → NoneHolds ts
unfolding first_of
none_holds [] e = tt
none_holds (t ∷ ts) e = (split t.holds (λ h. cc) (λ h. h), none_holds ts (split t.holds (λ h. cc) (λ h. cc)))

-- tests of which none holds are passed
pub all_passed : (ts : List Test) → NoneHolds ts → first_of ts ≡ done
unfolding first_of
all_passed [] c = refl
all_passed (t ∷ ts) c = cc (c.0, all_passed ts c.1)
