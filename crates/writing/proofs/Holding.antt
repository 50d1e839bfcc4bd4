-- The fixed field that a byte stands in, one field at a time.
use mathlib.Core.Path.{◌≡◌, refl}
use mathlib.Core.List.{List, [], ◌∷◌}
use Prim.Native.Nat.{ℕ, suc, ◌+◌, ◌-◌, ◌≤◌, ◌<◌}
use native.Mathlib.Omega.{arith}
use borrow.Author.Tests.{le-ltb}
use lib.Dec.{ltb}
use Rattle.cells.specs.Bytes.{pick}
use Rattle.std.proofs.lemmas.Bool.Decides.{nat_tests}
use lib.ListN.{length, get_or, drop, drop_of_length-le}
use Rattle.record.specs.Layout.{no_field, total}
use Rattle.record.specs.declared.layout.Field.{Field}
use Rattle.record.proofs.Layouts.{field_at}
use Rattle.writing.specs.Write.{field_holding}

-- where left bytes stand before the byte from the field with index i on, the byte stands in that field or after it
pub held_at : (fs : List Field) (i left : ℕ) → i < length fs
    → field_holding (drop i fs) left
    ≡ pick (ltb left (get_or fs i no_field).size) 0 (suc (field_holding (drop (i + 1) fs) (left - (get_or fs i no_field).size)))
unfolding field_holding
held_at fs i left h = rw (field_at fs i h)

-- past the last field nothing is left to count
pub held_past : (fs : List Field) (i left : ℕ) → length fs ≤ i → field_holding (drop i fs) left ≡ 0
unfolding field_holding
held_past fs i left h = rw (drop_of_length-le fs {i = i} h)

-- a byte past all fields stands in none of them
pub held_none : (fs : List Field) (p : ℕ) → total fs ≤ p → field_holding fs p ≡ length fs
unfolding total field_holding
held_none [] p h = refl
held_none (f ∷ fs) p h =
    let ih = held_none fs (p - f.size) (omega arith) in
    rw (le-ltb p f.size (omega arith)) (omega arith)

pub ruleset holding = (held_at, held_past, nat_tests)
