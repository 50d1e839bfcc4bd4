-- Tests over a list, and how many bytes at its front pass them.
use mathlib.Core.Path.{◌≡◌, ◌∙◌, refl, sym}
use mathlib.Core.Bool.{Bool, true, false, ◌&&◌}
use mathlib.Core.List.{List, [], ◌∷◌}
use Prim.Native.Nat.compare
use Prim.Native.Nat.{ℕ, zero, suc, ◌+◌, ◌≤◌, ◌<◌}
use native.Mathlib.Nat.{not-suc-le-zero, le_of_suc-le-suc}
use native.Mathlib.Numerals.{add-one}
use native.Mathlib.Omega.{arith}
use borrow.Author.Tests.{eqb-true, eq-eqb, ne_eqb}
use lib.Dec.{eqb}
use lib.ListN.{length, get_or, drop, drop_of_length-le}
use lib.Seq.{drop-cons}
use Rattle.cells.specs.Bytes.{all, run}
use Rattle.cells.proofs.Bools.{split, and_left, and_right}

module _ (p : ℕ → Bool) where
  -- a run is no longer than the list
  pub run_most : (s : List ℕ) → run p s ≤ length s
  unfolding run
  run_most [] = omega arith
  run_most (x ∷ xs) =
      let ih = run_most xs in
      split (p x) (λ e. rw e (omega arith)) (λ e. rw e (omega arith))

  -- the test holds at each byte just where the run is the whole list
  pub all_run : (s : List ℕ) → all p s ≡ eqb (run p s) (length s)
  unfolding all run
  all_run [] = refl
  all_run (x ∷ xs) =
      let ih = all_run xs in
      split (p x) (λ e. rw (e, compare.suc-suc) ih)
      (λ e. rw e (sym (ne_eqb 0 (suc (length xs)) (λ q. omega arith))))

  -- a run that is the whole list says that it holds at each byte, and the other way round
  pub run_all : (s : List ℕ) → run p s ≡ length s → all p s ≡ true
  run_all s e = all_run s ∙ eq-eqb (run p s) (length s) e

  pub all_whole : (s : List ℕ) → all p s ≡ true → run p s ≡ length s
  all_whole s e = eqb-true (run p s) (length s) (sym (all_run s) ∙ e)

  -- the byte at place i passes: the run goes on past it
  pub run_on : (s : List ℕ) (i : ℕ) → i < length s → p (get_or s i 0) ≡ true → i + run p (drop i s) ≡ i + 1 + run p (drop (i + 1) s)
  unfolding run
  run_on s i h e = rw (add-one i, drop-cons s i 0 h, e) (omega arith)

  -- it does not: the run ends there
  pub run_off : (s : List ℕ) (i : ℕ) → i < length s → p (get_or s i 0) ≡ false → i + run p (drop i s) ≡ i
  unfolding run
  run_off s i h e = rw (drop-cons s i 0 h, e) (omega arith)

  -- no byte is left: the run ends there
  pub run_end : (s : List ℕ) (i : ℕ) → length s ≤ i → i + run p (drop i s) ≡ i
  unfolding run
  run_end s i h = rw (drop_of_length-le s h) (omega arith)

  -- the test at each byte from place i on is the test there and at each byte after it
  pub all_on : (s : List ℕ) (i : ℕ) (t b : Bool) → i < length s → b ≡ p (get_or s i 0) → (t && b) && all p (drop (i + 1) s) ≡ t && all p (drop i s)
  unfolding all
  all_on s i true b h e = rw (add-one i, drop-cons s i 0 h, e)
  all_on s i false b h e = refl

  -- no byte is left: the test holds at each
  pub all_end : (s : List ℕ) (i : ℕ) → length s ≤ i → all p (drop i s) ≡ true
  unfolding all
  all_end s i h = rw (drop_of_length-le s h)

  -- a test that always holds holds at each byte
  pub all_always : ((b : ℕ) → p b ≡ true) → (s : List ℕ) → all p s ≡ true
  unfolding all
  all_always h [] = refl
  all_always h (x ∷ xs) = rw (h x) (all_always h xs)

  -- a test that holds at each byte holds at this one
  pub all_at : (s : List ℕ) (i : ℕ) → all p s ≡ true → i < length s → p (get_or s i 0) ≡ true
  unfolding all
  all_at [] i e h = absurd (not-suc-le-zero h)
  all_at (x ∷ xs) zero e h = and_left (p x) (all p xs) e
  all_at (x ∷ xs) (suc i) e h = all_at xs i (and_right (p x) (all p xs) e) (le_of_suc-le-suc h)
