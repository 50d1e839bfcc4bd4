-- Numbers of up to eight bytes, by way of std's eight.
use Rattle.std.proofs.Common.{◌≡◌, refl, sym, ap, ◌∙◌, ℕ, zero, suc, ◌+◌, ◌*◌, ◌/◌, ◌%◌, ◌^◌, ◌-◌, ◌≤◌, ◌<◌, List, ◌∷◌, ◌++◌, length, get_or, take, drop, w64, arith, add-one, zero-add, suc-add}
use Rattle.std.specs.Int.{to_le_bytes, from_le_bytes, bytes_low_first}
use native.Mathlib.Nat.{pow-succ', div-div-eq-div-mul}
use Rattle.std.proofs.Math.ListN.{get_or-append, replicate}
use Rattle.std.proofs.lemmas.List.{get_or-append_right, get_or-drop}
use lib.Seq.{get_or-take, length-take-le}
use lib.ListN.{length-drop}
use borrow.Rule.Slice.PartMut.{put_mid}
use lib.Seq.{sets, slice}
use Rattle.cells.specs.Little.{le_at, le_bytes, Little}
use Rattle.cells.proofs.Parts.{next, nothing}
use Rattle.cells.proofs.Stores.{le_ext, put_is}

-- eight bytes, as std reads them
eight_read : (b : List ℕ) → from_le_bytes w64 b ≡ le_at b 0 8
unfolding le_at
eight_read b = omega arith

-- bytes that are 0 add nothing
le_at_zero : (b : List ℕ) (at k : ℕ) → ((i : ℕ) → at ≤ i → get_or b i 0 ≡ 0) → le_at b at k ≡ 0
unfolding le_at
le_at_zero b at zero h = refl
le_at_zero b at (suc k) h =
    let e = le_at_zero b (suc at) k (λ i l. h i (omega arith)) in
    let z = h at (omega arith) in
    omega arith

le_at_top : (b : List ℕ) (at w k : ℕ) → ((i : ℕ) → at + w ≤ i → get_or b i 0 ≡ 0) → le_at b at (w + k) ≡ le_at b at w
unfolding le_at
le_at_top b at zero k h = rw zero-add (le_at_zero b at k (λ i l. h i (omega arith)))
le_at_top b at (suc w) k h =
    let e = le_at_top b (suc at) w k (λ i l. h i (omega arith)) in
    rw suc-add (ap (λ (n : ℕ). get_or b at 0 + 256 * n) e)

le_at_below : (b : List ℕ) (at w : ℕ) → ((i : ℕ) → get_or b i 0 < 256) → le_at b at w < 256 ^ w
unfolding le_at
le_at_below b at zero h = omega arith
le_at_below b at (suc w) h =
    let e = le_at_below b (suc at) w h in
    let x = h at in
    rw (pow-succ' 256 w) (omega arith)

zeros : (k j : ℕ) → ◌≡◌ {A = ℕ} (get_or (replicate k 0) j 0) 0
zeros zero j = refl
zeros (suc k) zero = refl
zeros (suc k) (suc j) = zeros k j

-- the w bytes of s at a place, and zeros behind them, are the number there
pub read_low : (s xs : List ℕ) (at w n r : ℕ) → at + w ≤ length s → w ≤ 8 → n ≡ w → xs ≡ take n (drop at s)
    → ((i : ℕ) → get_or s i 0 < 256) → r ≡ from_le_bytes w64 (xs ++ drop w (replicate 8 0)) → Little s at w (256 ^ w) r
read_low s xs at w n r fits h q are small e =
    let b = xs ++ drop w (replicate 8 0) in
    let l : length xs ≡ w = rw (are, q) (length-take-le w (drop at s) (omega (arith, length-drop at s))) in
    let front : (k : ℕ) → k < w → get_or b (0 + k) 0 ≡ get_or s (at + k) 0
    = λ k below. rw (zero-add k, get_or-append xs (drop w (replicate 8 0)) 0 k (omega arith), are, q, get_or-take w (drop at s) k 0 below, get_or-drop at s k 0) in
    let back : (i : ℕ) → w ≤ i → get_or b i 0 ≡ 0
    = λ i above. get_or-append_right xs (drop w (replicate 8 0)) w i 0 l above ∙ get_or-drop w (replicate 8 0) (i - w) 0 ∙ zeros 8 (w + (i - w)) in
    let k : 8 ≡ w + (8 - w) = omega arith in
    let f : le_at b 0 8 ≡ le_at b 0 w = ap (le_at b 0) k ∙ le_at_top b 0 w (8 - w) (λ i l. back i (omega arith)) in
    let all : r ≡ le_at s at w = e ∙ eight_read b ∙ f ∙ le_ext b s 0 at w front in
    record { is = all; small = rw all (le_at_below s at w small) }

-- the lowest bytes of a number, as std writes them
low_first : (i w k n m : ℕ) → w ≤ k → m ≡ n / 256 ^ i → take w (bytes_low_first i k n) ≡ le_bytes w m
unfolding le_bytes
low_first i zero k n m h e = refl
low_first i (suc w) zero n m h e = absurd (omega arith)
low_first zero (suc w) (suc k) n m h e =
    let q : m ≡ n = omega arith in
    rw q (ap (λ t. n % 256 ∷ t) (low_first 1 w k n (n / 256) (omega arith) refl))
low_first (suc i) (suc w) (suc k) n m h e =
    let q : m / 256 ≡ n / 256 ^ suc (suc i) = ap (λ (x : ℕ). x / 256) e ∙ div-div-eq-div-mul n (256 ^ suc i) 256 ∙ rw (pow-succ' 256 (suc i)) (ap (λ (x : ℕ). n / x) (omega arith)) in
    rw (← e) (ap (λ t. m % 256 ∷ t) (low_first (suc (suc i)) w k n (m / 256) (omega arith) q))

pub written_low : (w n : ℕ) → w ≤ 8 → take w (to_le_bytes w64 n) ≡ le_bytes w n
written_low w n h = low_first 0 w 8 n n h (omega arith)

length_le_bytes : (w n : ℕ) → length (le_bytes w n) ≡ w
unfolding le_bytes
length_le_bytes zero n = refl
length_le_bytes (suc w) n = ap suc (length_le_bytes w (n / 256))

-- those bytes copied into a part of s
pub write_low : (s xs : List ℕ) (at w n m : ℕ) → at + w ≤ length s → w ≤ 8 → m ≡ w → xs ≡ take w (to_le_bytes w64 n) → put_mid at m s xs ≡ sets s at (le_bytes w n)
write_low s xs at w n m fits h q are =
    let l = length_le_bytes w n in
    rw (are, written_low w n h) (put_is s at (le_bytes w n) m (omega arith) (omega arith))

-- the bytes of the number that stands at a place are those that stand there
pub bytes_read : (s : List ℕ) (at w : ℕ) → at + w ≤ length s → ((i : ℕ) → get_or s i 0 < 256) → le_bytes w (le_at s at w) ≡ slice at (at + w) s
unfolding le_bytes le_at
bytes_read s at zero fits small = sym (nothing at (at + 0) s (omega arith))
bytes_read s at (suc w) fits small =
    let x = small at in
    let low : (get_or s at 0 + 256 * le_at s (suc at) w) % 256 ≡ get_or s at 0 = omega arith in
    let high : (get_or s at 0 + 256 * le_at s (suc at) w) / 256 ≡ le_at s (suc at) w = omega arith in
    let end : at + suc w ≡ suc at + w = omega arith in
    rw (low, high, bytes_read s (suc at) w (omega arith) small, next s at (at + suc w) (omega arith) fits, add-one, end)
