-- The rules of a save depend on the entries below its counts alone.
use mathlib.Core.Path.{◌≡◌, ap, refl}
use mathlib.Core.Bool.{Bool, true, false, not, ◌&&◌}
use mathlib.Core.List.{List}
use Prim.Native.Nat.{ℕ, ◌<◌}
use native.Mathlib.Omega.{arith}
use lib.Dec.{leb, ltb}
use lib.ListN.{take}
use borrow.Author.Tests.{ltb-true}
use Rattle.cells.specs.Bytes.{same, within}
use Rattle.cells.proofs.Searches.{all_same, sum_same}
use Rattle.entry.specs.Stored.{key_width, slip_key_width, most_arrived, most_copies}
use Rattle.book.specs.Booking.{slip_fields}
use Rattle.save.specs.Entries.{line_kept, slip_kept, fields_kept, slip_number_at, slip_copies, parties_agree, line_index, is_first, copies_on, arrived_on, lines_kept, slips_kept, sums_kept, entries_kept}

-- a test that counts only where another holds
and_same : (t p q : Bool) → (t ≡ true → p ≡ q) → t && p ≡ t && q
and_same true p q h = h refl
and_same false p q h = refl

-- entries that are equal below n
module _ (n : ℕ) (f g : ℕ → List ℕ) (h : (x : ℕ) → x < n → f x ≡ g x) where
  -- that no earlier entry has the key
  first_same : (width i : ℕ) → i < n → is_first width f i ≡ is_first width g i
  unfolding is_first
  first_same width i a =
      all_same (λ e. not (same (take width (f e)) (take width (f i)))) (λ e. not (same (take width (g e)) (take width (g i)))) i 0
      (λ x b c. rw (h x (omega arith), h i a))

  -- the sum of a line's slips
  pub arrived_same : (i : ℕ) → arrived_on f n i ≡ arrived_on g n i
  unfolding arrived_on copies_on
  arrived_same i = sum_same (copies_on f i) (copies_on g i) n 0 (λ x b c. rw (h x (omega arith)))

  -- each line
  lines_same : lines_kept n f ≡ lines_kept n g
  unfolding lines_kept
  lines_same =
      all_same (λ i. line_kept (f i) && is_first key_width f i) (λ i. line_kept (g i) && is_first key_width g i) n 0
      (λ x b c. rw (h x (omega arith), first_same key_width x (omega arith)))

  -- a slip looks at a line below n alone
  slip_same : (body : List ℕ) → slip_kept n f body ≡ slip_kept n g body
  unfolding slip_kept
  slip_same body =
      let t : Bool = ltb (line_index body) n in
      let e : t && parties_agree body (f (line_index body)) ≡ t && parties_agree body (g (line_index body)) =
      and_same t (parties_agree body (f (line_index body))) (parties_agree body (g (line_index body)))
      (λ d. ap (parties_agree body) (h (line_index body) (ltb-true (line_index body) n d))) in
      ap (λ (x : Bool). fields_kept slip_fields slip_number_at (take slip_key_width body) && (within 1 most_copies (slip_copies body) && x)) e

-- n lines and m slips
module _ (n m : ℕ) (line line' slip slip' : ℕ → List ℕ) (h : (x : ℕ) → x < n → line x ≡ line' x) (k : (x : ℕ) → x < m → slip x ≡ slip' x) where
  -- each slip
  slips_same : slips_kept n m line slip ≡ slips_kept n m line' slip'
  unfolding slips_kept
  slips_same =
      all_same (λ j. slip_kept n line (slip j) && is_first slip_key_width slip j) (λ j. slip_kept n line' (slip' j) && is_first slip_key_width slip' j) m 0
      (λ x b c. rw (k x (omega arith), slip_same n line line' h (slip' x), first_same m slip slip' k slip_key_width x (omega arith)))

  -- each sum
  sums_same : sums_kept n m slip ≡ sums_kept n m slip'
  unfolding sums_kept
  sums_same =
      all_same (λ i. leb (arrived_on slip m i) most_arrived) (λ i. leb (arrived_on slip' m i) most_arrived) n 0
      (λ x b c. rw (arrived_same m slip slip' k x))

  -- all of them
  pub entries_same : entries_kept n m line slip ≡ entries_kept n m line' slip'
  unfolding entries_kept
  entries_same = rw (lines_same n line line' h, slips_same, sums_same)
