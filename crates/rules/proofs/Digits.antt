-- The numbers that digits spell, at every width.
use mathlib.Core.Path.{◌≡◌, subst}
use mathlib.Core.Bool.{true}
use mathlib.Core.List.{List, [], ◌∷◌}
use Prim.Native.Nat.{ℕ, suc, ◌+◌, ◌*◌, ◌^◌, ◌≤◌, ◌<◌}
use native.Mathlib.Nat.{pow-suc, pow-le-pow_right}
use native.Mathlib.Numerals.{add-one}
use native.Mathlib.Omega.{arith}
use borrow.Author.Tests.{leb-true}
use lib.Dec.{leb, lit<}
use lib.ListN.{length, get_or, drop, drop_of_length-le}
use lib.Seq.{slice, drop-cons}
use Rattle.cells.specs.Bytes.{all}
use Rattle.cells.proofs.Bools.{and_left, and_right}
use Rattle.cells.proofs.Parts.{next, nothing}
use Rattle.signs.specs.Class.{digit}
use Rattle.rules.specs.Number.{number_from, number, digit_value}

-- a digit counts less than ten
pub digit_small : (b : ℕ) → digit b ≡ true → digit_value b < 10
digit_small b e =
    let l = leb-true 48 b (and_left (leb 48 b) (leb b 57) e) in
    let u = leb-true b 57 (and_right (leb 48 b) (leb b 57) e) in
    omega arith

-- the two digits at a place, and four as two pairs
pub pair_is : (s : List ℕ) (at : ℕ) → at + 2 ≤ length s → number (slice at (at + 2) s) ≡ digit_value (get_or s at 0) * 10 + digit_value (get_or s (at + 1) 0)
unfolding number_from
pair_is s at h =
    let end : at + 1 + 1 ≡ at + 2 = omega arith in
    rw (next s at (at + 2) (omega arith) h, next s (at + 1) (at + 2) (omega arith) h, end, nothing (at + 2) (at + 2) s (omega arith)) (omega arith)

pub pairs_are : (s : List ℕ) → 4 ≤ length s → number (slice 0 4 s) ≡ number (slice 0 2 s) * 100 + number (slice 2 4 s)
unfolding number_from
pairs_are s h =
    rw (pair_is s 0 (omega arith), pair_is s 2 (omega arith), next s 0 4 (omega arith) h, next s 1 4 (omega arith) h, next s 2 4 (omega arith) h, next s 3 4 (omega arith) h, nothing 4 4 s (omega arith)) (omega arith)

-- w digits spell a number below 10 ^ w, at every width
pub width : (n w : ℕ) (xs : List ℕ) → n < 10 ^ w → all digit xs ≡ true → number_from n xs < 10 ^ (w + length xs)
unfolding all number_from
width n w [] h e = subst (λ (k : ℕ). n < 10 ^ k) (omega arith) h
width n w (x ∷ xs) h e =
    let d = digit_small x (and_left (digit x) (all digit xs) e) in
    let m : n * 10 + digit_value x < 10 ^ suc w = rw pow-suc (omega arith) in
    let k : suc w + length xs ≡ w + suc (length xs) = omega arith in
    subst (λ (k : ℕ). number_from (n * 10 + digit_value x) xs < 10 ^ k) k
    (width (n * 10 + digit_value x) (suc w) xs m (and_right (digit x) (all digit xs) e))

-- i bytes of any kind, each of which counts at most 207, spell at most 23 * (10 ^ i - 1); so does one byte more
pub one_more : (i n d : ℕ) → n + 23 ≤ 23 * 10 ^ i → d ≤ 207 → n * 10 + d + 23 ≤ 23 * 10 ^ (i + 1)
one_more i n d h g = rw (add-one i, pow-suc 10 i) (omega arith)

-- up to fifteen bytes spell a number of 64 bits
fits64 : (i n : ℕ) → n + 23 ≤ 23 * 10 ^ i → i ≤ 15 → n < 2 ^ 64
fits64 i n h g =
    let p : 10 ^ i ≤ 10 ^ 15 = pow-le-pow_right (lit< tt) g in
    omega arith

-- so one byte more of up to fifteen does
pub more_fits : (i n d : ℕ) → n + 23 ≤ 23 * 10 ^ i → i < 15 → d ≤ 207 → n * 10 + d < 2 ^ 64
more_fits i n d h l g = fits64 (i + 1) (n * 10 + d) (one_more i n d h g) (omega arith)

-- the number that the bytes from place i on complete
module _ (s : List ℕ) (i n : ℕ) where
  -- the byte there is counted, and the rest complete it
  pub number_next : i < length s → number_from n (drop i s) ≡ number_from (n * 10 + digit_value (get_or s i 0)) (drop (i + 1) s)
  unfolding number_from
  number_next h = rw (add-one i, drop-cons s i 0 h)

  -- past the last byte it is complete
  pub number_end : length s ≤ i → number_from n (drop i s) ≡ n
  unfolding number_from
  number_end h = rw (drop_of_length-le s h)
