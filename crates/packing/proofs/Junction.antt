-- Fields judged in two steps: where the second ones begin with a loop, the step between them breaks no group and makes none.
use Rattle.std.specs.Prelude.{None, Option, Some}
use mathlib.Core.Path.{◌≡◌, refl, sym}
use mathlib.Core.Bool.{Bool, true, false, not, ◌&&◌, ◌||◌, false≢true}
use mathlib.Core.List.{List, [], ◌∷◌, ◌++◌}
use Prim.Native.Nat.{ℕ, zero, suc, ◌+◌, ◌*◌}
use native.Mathlib.Nat.{add-zero}
use native.Mathlib.Omega.{arith}
use borrow.Author.Tests.{eqb-true, eqb-false, ne_eqb, not-true}
use lib.Dec.{eqb}
use lib.ListN.{length}
use Rattle.cells.proofs.Bools.{split, and_left, and_right}
use Rattle.record.specs.Contents.{is_in, groups, first_of, next_in, previous_in, group_with, next_member, previous_member, is_wanted, group_kept}
use Rattle.record.specs.Fields.{last_id, Optional}
use Rattle.record.specs.declared.layout.Kind.{Kind}
use Rattle.writing.specs.Write.{◌next◌, entries, entry_of, next_id, entry_kept, fields_judged}
use Rattle.writing.specs.declared.entries.Entry.{Entry}
use Rattle.parts.specs.Loops.{part_id, loop, loop_fields, is_member, is_loop, are_loops}
use Rattle.parts.specs.Write.{listed}
use Rattle.parts.proofs.Joined.{listed_entries}

-- an ID is in none of the groups
unfoldable in_none : ℕ → List (List ℕ) → Bool
in_none id [] = true
in_none id (g ∷ gs) = not (is_in id g) && in_none id gs

-- where one of two tests would do and does not, neither holds
neither : (a b : Bool) → a || b ≡ false → (a ≡ false) × (b ≡ false)
neither true b h = absurd (false≢true (sym h))
neither false b h = (refl, h)

-- an ID that stands in no group
module _ (x : ℕ) where
  -- is not wanted where a group is read from its front
  first_other : (g : List ℕ) → is_in x g ≡ false → is_wanted (first_of g) (Some x) ≡ is_wanted (first_of g) None
  unfolding is_in first_of is_wanted
  first_other [] h = refl
  first_other (m ∷ ms) h =
      let n = (neither (eqb x m) (is_in x ms) h).0 in
      ne_eqb m x (λ e. eqb-false x m n (sym e))

  -- nor as the next member of any ID
  next_other : (id : ℕ) (g : List ℕ) → is_in x g ≡ false → is_wanted (next_in id g) (Some x) ≡ is_wanted (next_in id g) None
  unfolding is_in next_in is_wanted
  next_other id [] h = refl
  next_other id (m ∷ ms) h =
      let r = (neither (eqb x m) (is_in x ms) h).1 in
      let ih = next_other id ms r in
      split (eqb id m) (λ t. rw t (first_other ms r)) (λ t. rw t ih)

  -- and is not in the group of any ID
  group_other : (id : ℕ) (gs : List (List ℕ)) → in_none x gs ≡ true → is_in x (group_with id gs) ≡ false
  unfolding in_none group_with is_in
  group_other id [] h = refl
  group_other id (g ∷ gs) h =
      let ih = group_other id gs (and_right (not (is_in x g)) _ h) in
      split (is_in id g) (λ t. rw t (not-true _ (and_left (not (is_in x g)) _ h))) (λ t. rw t ih)

  -- so it stands there just where no next member is wanted
  wanted_none : (id : ℕ) → in_none x groups ≡ true → is_wanted (next_member id) (Some x) ≡ is_wanted (next_member id) None
  unfolding next_member
  wanted_none id h = next_other id (group_with id groups) (group_other id groups h)

-- a loop after a field is as the end of the record
group_last : (before : Option ℕ) (id : ℕ) → group_kept before id part_id ≡ group_kept before id last_id
unfolding group_kept in_none is_in groups
group_last before id = rw (wanted_none part_id id refl, wanted_none last_id id refl)

-- and what stands before a loop is as nothing
group_first : (before : Option ℕ) (after : ℕ) → group_kept before part_id after ≡ group_kept None part_id after
unfolding group_kept is_wanted next_member previous_member next_in previous_in group_with is_in groups
group_first before after = refl

-- entries that are none, or begin with a loop
pub data Begins : List Entry → Type 0 where
  none : Begins []
  some : {e : Entry} {es : List Entry} → e.id ≡ part_id → Begins (e ∷ es)

-- fields that are loops begin with one
pub loops_begin : (n : ℕ) (fs : List Optional) → length fs ≡ n * loop_fields → are_loops n fs ≡ true → (at : ℕ) → Begins (listed_entries at fs)
unfolding are_loops is_loop is_member loop listed entries entry_of
loops_begin n [] l h at = none
loops_begin zero (f ∷ fs) l h at = absurd (omega arith)
loops_begin (suc n) (f ∷ fs) l h at = some (eqb-true f.id part_id (and_left (eqb f.id part_id) _ (and_left _ _ (and_left _ _ h))))

module _ (k : Kind) (contents : List ℕ) {fs : List Entry} (begins : Begins fs) where
  -- what stands before such fields does not matter
  judged_first : {gs : List Entry} → Begins gs → (before : Option ℕ) (i : ℕ) → fields_judged k contents before i gs ≡ fields_judged k contents None i gs
  unfolding fields_judged
  judged_first none before i = refl
  judged_first (some {e = e} {es = es} q) before i = rw (q, group_first before (next_id es))

  -- and after a field they are as the end of the record
  group_same : {gs : List Entry} → Begins gs → (before : Option ℕ) (id : ℕ) (es : List Entry) → group_kept before id (next_id (es ++ gs)) ≡ group_kept before id (next_id es)
  unfolding next_id
  group_same none before id [] = refl
  group_same (some q) before id [] = rw q (group_last before id)
  group_same b before id (e ∷ es) = refl

  -- all fields are judged as the first ones, and then the second as if none stood before them
  pub judged_joined : (before : Option ℕ) (i : ℕ) (es : List Entry)
      → fields_judged k contents before i (es ++ fs) ≡ (fields_judged k contents before i es next fields_judged k contents None (i + length es) fs)
  unfolding fields_judged ◌next◌
  judged_joined before i [] = rw (add-zero i) (judged_first begins before i)
  judged_joined before i (e ∷ es) =
      let n : i + suc (length es) ≡ i + 1 + length es = omega arith in
      let ih = judged_joined (Some e.id) (i + 1) es in
      rw (group_same begins before e.id es, n) (
      split (entry_kept k contents e) (λ t. rw t (split (group_kept before e.id (next_id es)) (λ g. rw g ih) (λ g. rw g))) (λ t. rw t))
