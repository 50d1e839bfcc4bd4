-- The two forms say the same: over the bytes of the same schools the search finds the same place, and each entry has the school's ceiling.
use mathlib.Core.Path.{◌≡◌, refl, sym, ◌∙◌, ap}
use mathlib.Core.Logic.{◌⊎◌, inl, inr}
use mathlib.Core.List.{List, [], ◌∷◌, ◌++◌, append_assoc}
use Prim.Native.Nat.{ℕ, zero, suc, ◌+◌, ◌*◌, ◌%◌, ◌<◌}
use native.Mathlib.Nat.{add-suc}
use native.Mathlib.Omega.{arith}
use lib.Dec.{leb}
use lib.ListN.{length, get_or, take, drop, length-append}
use lib.Seq.{slice, take_at, get_or-append-add, take-append-add, drop-append-add}
use Rattle.cells.specs.Bytes.{pick, same}
use Rattle.cells.specs.Little.{le_at, le_bytes}
use Rattle.std.specs.Prelude.{None, Option, Some}
use Rattle.cells.proofs.Bools.{and_left, and_right}
use Rattle.cells.proofs.Lists.{same_true, same_joined}
use Rattle.cells.proofs.Numbers.{le_back}
use Rattle.cells.proofs.Searches.{found_at, first_same}
use Rattle.roster.specs.Roster.{most_schools, entries, roster_sound, account_at, account_is, find_account, ceiling_at, standing_at, standing}
use Rattle.roster.specs.Schools.{no_school, is_of, is_account, find_school, ceiling_of, standing_among, standing_of, not_told, told_of, account_told, bytes_of_one, bytes_of, Formed, AllFormed}
use Rattle.roster.specs.Agreement.{Agreement}
use Rattle.roster.specs.declared.schools.School.{School}

-- past a list that stands in front: a number, and a part
module _ (xs ys : List ℕ) (n : ℕ) (wide : length xs ≡ n) where
  number_past : (at w : ℕ) → le_at (xs ++ ys) (n + at) w ≡ le_at ys at w
  unfolding le_at
  number_past at zero = refl
  number_past at (suc w) =
      let e : get_or (xs ++ ys) (n + at) 0 ≡ get_or ys at 0 = rw (← wide) (get_or-append-add xs ys at 0) in
      rw (e, ← add-suc n at, number_past (suc at) w) refl

  part_past : (a b : ℕ) → slice (n + a) (n + b) (xs ++ ys) ≡ slice a b ys
  part_past a b = rw (← wide) (ap (drop (length xs + a)) (take-append-add xs ys b) ∙ drop-append-add xs (take b ys) a)

-- a number of four bytes at the front
number_front : (n : ℕ) (ys : List ℕ) → le_at (le_bytes 4 n ++ ys) 0 4 ≡ le_at (le_bytes 4 n) 0 4
unfolding le_at le_bytes
number_front n ys = refl

-- a school has 16 bytes, of which the first 12 are its account
account_length : (s : School) → Formed s → length (s.address ++ s.qualifier) ≡ 12
account_length s g = rw (length-append s.address s.qualifier, g.address_is, g.qualifier_is) refl

one_length : (s : School) → Formed s → length (bytes_of_one s) ≡ 16
unfolding bytes_of_one le_bytes
one_length s g = simp length-append (omega (arith, g.address_is, g.qualifier_is))

all_length : (ss : List School) → AllFormed ss → length (bytes_of ss) ≡ 16 * length ss
unfolding bytes_of
all_length [] g = refl
all_length (s ∷ ss) g =
    let ih = all_length ss g.1 in
    let h = one_length s g.0 in
    rw (length-append (bytes_of_one s) (bytes_of ss), h, ih) (omega arith)

all_entries : (ss : List School) → AllFormed ss → entries (bytes_of ss) ≡ length ss
unfolding entries
all_entries ss g = rw (all_length ss g) (omega arith)

-- the account and the ceiling of an entry are those of the school
account_same : (ss : List School) (i : ℕ) → AllFormed ss → i < length ss → account_at (bytes_of ss) i ≡ (get_or ss i no_school).address ++ (get_or ss i no_school).qualifier
unfolding bytes_of account_at bytes_of_one
account_same [] i g h = absurd (omega arith)
account_same (s ∷ ss) zero g h =
    ap (take 12) (append_assoc (s.address ++ s.qualifier) (le_bytes 4 s.ceiling) (bytes_of ss)) ∙ take_at (s.address ++ s.qualifier) (le_bytes 4 s.ceiling ++ bytes_of ss) 12 (account_length s g.0)
account_same (s ∷ ss) (suc i) g h =
    let ih = account_same ss i g.1 (omega arith) in
    let e : 16 * suc i ≡ 16 + 16 * i = omega arith in
    let d : 16 * suc i + 12 ≡ 16 + (16 * i + 12) = omega arith in
    rw (d, e) (part_past (bytes_of_one s) (bytes_of ss) 16 (one_length s g.0) (16 * i) (16 * i + 12) ∙ ih)

ceiling_same : (ss : List School) (i : ℕ) → AllFormed ss → i < length ss → le_at (bytes_of ss) (16 * i + 12) 4 ≡ (get_or ss i no_school).ceiling
unfolding bytes_of bytes_of_one
ceiling_same [] i g h = absurd (omega arith)
ceiling_same (s ∷ ss) zero g h =
    rw (append_assoc (s.address ++ s.qualifier) (le_bytes 4 s.ceiling) (bytes_of ss))
    (number_past (s.address ++ s.qualifier) (le_bytes 4 s.ceiling ++ bytes_of ss) 12 (account_length s g.0) 0 4 ∙ number_front s.ceiling (bytes_of ss) ∙ le_back 4 s.ceiling g.0.ceiling_fits)
ceiling_same (s ∷ ss) (suc i) g h =
    let ih = ceiling_same ss i g.1 (omega arith) in
    let e : 16 * suc i + 12 ≡ 16 + (16 * i + 12) = omega arith in
    rw e (number_past (bytes_of_one s) (bytes_of ss) 16 (one_length s g.0) (16 * i + 12) 4 ∙ ih)

formed_at : (ss : List School) (i : ℕ) → AllFormed ss → i < length ss → Formed (get_or ss i no_school)
formed_at [] i g h = absurd (omega arith)
formed_at (s ∷ ss) zero g h = g.0
formed_at (s ∷ ss) (suc i) g h = formed_at ss i g.1 (omega arith)

is_same : (ss : List School) (address qualifier : List ℕ) → AllFormed ss → length address ≡ 10 → (j : ℕ) → j < length ss → account_is (bytes_of ss) (address ++ qualifier) j ≡ is_account ss address qualifier j
unfolding account_is is_account is_of
is_same ss address qualifier g e j h =
    rw (account_same ss j g h) (same_joined (get_or ss j no_school).address (get_or ss j no_school).qualifier address qualifier ((formed_at ss j g h).address_is ∙ sym e))

-- the search over the bytes of the schools finds what the search over the schools finds
pub finds_same : (ss : List School) (address qualifier : List ℕ) → AllFormed ss → length address ≡ 10 → find_account (bytes_of ss) (address ++ qualifier) ≡ find_school ss address qualifier
unfolding find_account find_school
finds_same ss address qualifier g e =
    rw (all_entries ss g) (first_same _ _ (length ss) 0 (λ j a b. is_same ss address qualifier g e j (omega arith)))

-- an account that is found has the school's ceiling, and one that is not found stands on neither
standing_of_law : (ss : List School) (address qualifier : List ℕ) → AllFormed ss → (f : Option ℕ) → find_school ss address qualifier ≡ f → standing_at (bytes_of ss) f ≡ standing_among ss f
unfolding standing_at standing_among find_school ceiling_at ceiling_of
standing_of_law ss address qualifier g None e = refl
standing_of_law ss address qualifier g (Some i) e =
    let h = found_at (is_account ss address qualifier) (length ss) 0 i e in
    rw (ceiling_same ss i g (omega (arith, h.1))) refl

pub standing_same : (ss : List School) (address qualifier : List ℕ) → AllFormed ss → length address ≡ 10 → standing (bytes_of ss) (address ++ qualifier) ≡ standing_of ss address qualifier
unfolding standing standing_of
standing_same ss address qualifier g e =
    rw (finds_same ss address qualifier g e) (standing_of_law ss address qualifier g (find_school ss address qualifier) refl)

-- the bytes are a roster just where there are at most 64 schools
pub roster_same : (ss : List School) → AllFormed ss → roster_sound (bytes_of ss) ≡ leb (length ss) most_schools
unfolding roster_sound
roster_same ss g =
    let e : length (bytes_of ss) % 16 ≡ 0 = rw (all_length ss g) (omega arith) in
    rw (e, all_entries ss g) refl

-- a school that has an account has its address and its qualifier, so their lengths are 10 and 2
found_lengths : (ss : List School) (address qualifier : List ℕ) → AllFormed ss → (i : ℕ) → find_school ss address qualifier ≡ Some i → (length address ≡ 10) × (length qualifier ≡ 2)
unfolding find_school is_account is_of
found_lengths ss address qualifier g i e =
    let h = found_at (is_account ss address qualifier) (length ss) 0 i e in
    let s : School = get_or ss i no_school in
    let formed : Formed s = formed_at ss i g (omega (arith, h.1)) in
    let a = same_true s.address address (and_left (same s.address address) (same s.qualifier qualifier) h.2) in
    let q = same_true s.qualifier qualifier (and_right (same s.address address) (same s.qualifier qualifier) h.2) in
    (rw (← a) formed.address_is, rw (← q) formed.qualifier_is)

-- so another length is on no roster
other_length : (ss : List School) (address qualifier : List ℕ) → AllFormed ss → (length address ≡ 10 → ⊥) ⊎ (length qualifier ≡ 2 → ⊥) → standing_of ss address qualifier ≡ None
unfolding standing_of standing_among
other_length ss address qualifier g other = go (find_school ss address qualifier) refl other
  where
    go : (f : Option ℕ) → find_school ss address qualifier ≡ f → (length address ≡ 10 → ⊥) ⊎ (length qualifier ≡ 2 → ⊥) → standing_among ss f ≡ None
    go None e other = refl
    go (Some i) e (inl h) = absurd (h (found_lengths ss address qualifier g i e).0)
    go (Some i) e (inr h) = absurd (h (found_lengths ss address qualifier g i e).1)

-- what is told of an account, by the bytes
telling_same : (ss : List School) (address qualifier : List ℕ) → AllFormed ss → length address ≡ 10
    → account_told ss address qualifier ≡ pick (roster_sound (bytes_of ss)) (told_of (standing (bytes_of ss) (address ++ qualifier))) (not_told 20)
unfolding account_told
telling_same ss address qualifier g e = rw (roster_same ss g, standing_same ss address qualifier g e) refl

pub agreement : Agreement
agreement = record { standings = standing_same; rosters = roster_same; lengths = other_length; tellings = telling_same }
