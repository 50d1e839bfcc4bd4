-- Entries of the book and of a save: how long they are, and stored one after the other.
use mathlib.Core.Path.{◌≡◌, ◌∙◌, refl}
use mathlib.Core.List.{List, ◌∷◌}
use Prim.Native.Nat.{ℕ, suc, ◌+◌, ◌*◌, ◌≤◌}
use native.Mathlib.Numerals.{add-one}
use native.Mathlib.Omega.{arith}
use lib.ListN.{length, set, length-append}
use lib.Seq.{sets, length-slice}
use Rattle.cells.specs.Little.{le_bytes}
use Rattle.cells.proofs.Stores.{sets_append}
use Rattle.entry.specs.Stored.{line_width, slip_width, arrived_at}
use Rattle.save.specs.Form.{front_width}
use Rattle.save.specs.Saved.{slip_kind, slip_body_width, saved_slip_width, end_kind, line_front_at, slip_body_at, end_entry}
use Rattle.save.specs.Load.{line_from}

-- the end
pub end_stored : (d : List ℕ) (at n m : ℕ) → sets (sets (set d at end_kind) (at + 1) (le_bytes 2 n)) (at + 3) (le_bytes 2 m) ≡ sets d at (end_entry n m)
unfolding end_entry le_bytes
end_stored d at n m =
    let e : at + 3 ≡ suc (suc (suc at)) = omega arith in
    rw (add-one at, e) refl

-- the front of a line that stands in the book, and a slip
pub front_at_long : (lines : List ℕ) (i : ℕ) → line_width * i + front_width ≤ length lines → length (line_front_at lines i) ≡ front_width
unfolding line_front_at
front_at_long lines i h = length-slice (line_width * i) (line_width * i + front_width) lines h ∙ omega arith

pub slip_at_long : (slips : List ℕ) (j : ℕ) → slip_width * j + slip_body_width ≤ length slips → length (slip_body_at slips j) ≡ slip_body_width
unfolding slip_body_at
slip_at_long slips j h = length-slice (slip_width * j) (slip_width * j + slip_body_width) slips h ∙ omega arith

-- and its entry
pub slip_entry_long : (slips : List ℕ) (j : ℕ) → slip_width * j + slip_body_width ≤ length slips → length (slip_kind ∷ slip_body_at slips j) ≡ saved_slip_width
slip_entry_long slips j h = omega (arith, slip_at_long slips j h)

-- a line's front, then A
pub line_stored : (d : List ℕ) (at : ℕ) (front : List ℕ) (arrived : ℕ) → length front ≡ front_width
    → sets (sets d at front) (at + arrived_at) (le_bytes 4 arrived) ≡ sets d at (line_from front arrived)
unfolding line_from
line_stored d at front arrived e = rw (sets_append d at front (le_bytes 4 arrived), e)

-- and how long it is
pub from_long : (front : List ℕ) (arrived : ℕ) → length front ≡ front_width → length (line_from front arrived) ≡ line_width
unfolding line_from le_bytes
from_long front arrived e = rw (length-append front (le_bytes 4 arrived), e)
