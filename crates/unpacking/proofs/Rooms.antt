-- The entries of parts in a room, one after the other.
use mathlib.Core.Path.{◌≡◌, ◌∙◌, refl}
use mathlib.Core.List.{List, ◌++◌}
use Prim.Native.Nat.{ℕ, zero, suc, ◌+◌, ◌-◌, ◌*◌, ◌≤◌, ◌<◌}
use native.Mathlib.Nat.{zero-add}
use native.Mathlib.Omega.{arith}
use lib.ListN.{length, take, drop, length-append}
use lib.Seq.{sets, sets-eq, drop-drop}
use Rattle.cells.specs.Bytes.{joined}
use Rattle.cells.specs.Little.{le_bytes}
use Rattle.cells.proofs.Stores.{sets_append}
use Rattle.record.specs.Fields.{Optional}
use Rattle.parts.specs.Loops.{loop_fields}
use Rattle.parts.specs.Part.{part_width, price_from, article_from, part_of, parts_of, price_bytes, part_bytes, room_of}
use Rattle.parts.proofs.Fits.{fitted_length}

-- the entry of a part that fields say is as long as an entry
part_length : (fs : List Optional) → length (part_bytes (part_of fs)) ≡ part_width
unfolding part_bytes part_of price_bytes price_from article_from joined le_bytes
part_length fs = simp (length-append, fitted_length)

-- and so are n of them
rooms_length : (n : ℕ) (fs : List Optional) → length (room_of (parts_of n fs)) ≡ n * part_width
unfolding room_of parts_of
rooms_length zero fs = refl
rooms_length (suc n) fs =
    length-append (part_bytes (part_of (take loop_fields fs))) (room_of (parts_of n (drop loop_fields fs)))
    ∙ omega (arith, part_length (take loop_fields fs), rooms_length n (drop loop_fields fs))

-- stored from the start of a room they stand in front of what is left of it
pub rooms_stored : (n : ℕ) (fs : List Optional) (room : List ℕ) → n * part_width ≤ length room
    → sets room 0 (room_of (parts_of n fs)) ≡ room_of (parts_of n fs) ++ drop (n * part_width) room
rooms_stored n fs room h =
    sets-eq (room_of (parts_of n fs)) room 0 (rw rooms_length (omega arith)) ∙ rw (zero-add, rooms_length n fs)

-- the part of the loop with an index stored leaves the others to store
module _ (n j : ℕ) (fs : List Optional) (room : List ℕ) where
  pub rooms_next : j < n → sets room (j * part_width) (room_of (parts_of (n - j) (drop (j * loop_fields) fs)))
      ≡ sets (sets room (j * part_width) (part_bytes (part_of (take loop_fields (drop (j * loop_fields) fs))))) ((j + 1) * part_width)
      (room_of (parts_of (n - (j + 1)) (drop ((j + 1) * loop_fields) fs)))
  unfolding room_of parts_of
  rooms_next h =
      let p = part_bytes (part_of (take loop_fields (drop (j * loop_fields) fs))) in
      let left : n - j ≡ suc (n - (j + 1)) = omega arith in
      let k : j * part_width + part_width ≡ (j + 1) * part_width = omega arith in
      let l : j * loop_fields + loop_fields ≡ (j + 1) * loop_fields = omega arith in
      rw (left, drop-drop loop_fields (j * loop_fields) fs, l)
      (sets_append room (j * part_width) p (room_of (parts_of (n - (j + 1)) (drop ((j + 1) * loop_fields) fs))) ∙ rw (part_length, k))

  -- with no loop left nothing is stored
  pub rooms_end : n ≤ j → sets room (j * part_width) (room_of (parts_of (n - j) (drop (j * loop_fields) fs))) ≡ room
  unfolding room_of parts_of
  rooms_end h =
      let e : n - j ≡ 0 = omega arith in
      rw e

pub ruleset rooms_filled = (rooms_stored, rooms_next, rooms_end)
