-- Contents that may be written.
use mathlib.Core.Path.{◌≡◌, refl}
use mathlib.Core.Bool.{true, false, not}
use mathlib.Core.List.{List, [], ◌∷◌}
use native.Mathlib.Numerals.{add-one}
use Prim.Native.Nat.{ℕ, ◌+◌, ◌≤◌, ◌<◌}
use lib.Dec.{ltb}
use lib.ListN.{length, get_or, drop, drop_of_length-le}
use lib.Seq.{drop-cons}
use Rattle.cells.specs.Bytes.{all, any}
use Rattle.cells.proofs.Bools.{split, and_left, and_right}
use Rattle.signs.specs.Class.{barred, belongs, all_of}
use Rattle.signs.specs.declared.Class.TheVariants.{Unbarred}
use Rattle.record.specs.Fields.{last_id}
use Rattle.record.specs.declared.layout.Kind.{Kind}
use Rattle.writing.specs.Write.{content_byte, inside, writable, entry_kept}
use Rattle.writing.specs.declared.entries.Entry.{Entry}

-- some byte is barred where not all are unbarred
pub any_barred : (s : List ℕ) → any barred s ≡ not (all_of Unbarred s)
unfolding all_of all any belongs
any_barred [] = refl
any_barred (b ∷ bs) =
    let ih = any_barred bs in
    split (barred b) (λ e. rw e) (λ e. rw e ih)

-- a content, byte by byte
module _ (s : List ℕ) (i : ℕ) where
  pub content_on : i < length s → content_byte (get_or s i 0) ≡ true → all content_byte (drop i s) ≡ all content_byte (drop (i + 1) s)
  unfolding all
  content_on h e = rw (add-one i, drop-cons s i 0 h, e)

  pub content_off : i < length s → content_byte (get_or s i 0) ≡ false → all content_byte (drop i s) ≡ false
  unfolding all
  content_off h e = rw (drop-cons s i 0 h, e)

  pub content_end : length s ≤ i → all content_byte (drop i s) ≡ true
  unfolding all
  content_end h = rw (drop_of_length-le s h)

pub ruleset content_run = (content_on, content_off, content_end)

-- an entry that can be written stands inside the lent bytes
module _ (contents : List ℕ) (e : Entry) where
  pub writable_inside : writable contents e ≡ true → inside contents e ≡ true
  unfolding writable
  writable_inside h = and_left (inside contents e) _ (and_right (ltb e.id last_id) _ h)

  -- and so does one that can be a field
  pub kept_inside : (k : Kind) → entry_kept k contents e ≡ true → inside contents e ≡ true
  unfolding entry_kept
  kept_inside k h = writable_inside (and_left (writable contents e) _ h)
