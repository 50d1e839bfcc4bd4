-- The entries of a table, one field at a time.
use mathlib.Core.Path.{◌≡◌, refl, ◌∙◌}
use mathlib.Core.List.{List, [], ◌∷◌, ◌++◌}
use Prim.Native.Nat.{ℕ, zero, suc, ◌+◌, ◌-◌, ◌*◌, ◌≤◌, ◌<◌}
use native.Mathlib.Nat.{zero-add}
use native.Mathlib.Omega.{arith}
use lib.ListN.{length, drop}
use lib.Seq.{sets, sets-eq, length-sets}
use Rattle.cells.specs.Bytes.{run}
use Rattle.record.specs.Fields.{not_star, id_of, field_width, after_field, entries_of}
use Rattle.walks.proofs.Contents.{end_of, width_most, content_width_law, field_end, field_after}

-- how long the entries of n fields are
pub entries_length : (n p : ℕ) (t : List ℕ) → length (entries_of n p t) ≡ n * 3
unfolding entries_of
entries_length zero p t = refl
entries_length (suc n) p t = omega (arith, entries_length n (p + field_width t) (after_field t))

-- the entries of n fields, stored in front of a table
pub entries_stored : (n p : ℕ) (t table : List ℕ) → n * 3 ≤ length table → sets table 0 (entries_of n p t) ≡ entries_of n p t ++ drop (n * 3) table
entries_stored n p t table h =
    sets-eq (entries_of n p t) table 0 (rw entries_length (omega arith))
    ∙ rw (zero-add, entries_length n p t)

-- with i of n fields stored, the next one's three numbers leave the rest to store
pub entries_next : (n i : ℕ) (s : List ℕ) (at : ℕ) (table : List ℕ) → i < n
    → sets table (i * 3) (entries_of (n - i) at (drop at s))
    ≡ sets (sets table (i * 3) (id_of (drop at s) ∷ (at + 5) ∷ run not_star (drop (at + 5) s) ∷ [])) ((i + 1) * 3) (entries_of (n - (i + 1)) (at + 5 + run not_star (drop (at + 5) s)) (drop (at + 5 + run not_star (drop (at + 5) s)) s))
unfolding entries_of end_of
entries_next n i s at table h =
    let q : n - i ≡ suc (n - (i + 1)) = omega arith in
    let k : (i + 1) * 3 ≡ suc (suc (suc (i * 3))) = omega arith in
    rw (q, k, content_width_law s at, field_end s at, field_after s at)

-- with all of them stored nothing is left to store
pub entries_end : (n i : ℕ) (p : ℕ) (t table : List ℕ) → n ≤ i → sets table (i * 3) (entries_of (n - i) p t) ≡ table
unfolding entries_of
entries_end n i p t table h =
    let q : n - i ≡ 0 = omega arith in
    rw q

-- what is stored, one field at a time
pub ruleset stored = (entries_stored, entries_next, entries_end, width_most, length-sets)
