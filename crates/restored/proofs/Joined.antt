-- Entries of one width, one after the other.
use mathlib.Core.Path.{◌≡◌, ◌∙◌, ap, ap₂, sym, refl}
use mathlib.Core.List.{List, ◌∷◌, ◌++◌, append_assoc}
use Prim.Native.Nat.{ℕ, zero, suc, ◌+◌, ◌*◌, ◌≤◌, ◌<◌}
use native.Mathlib.Nat.{zero-add, add-zero, mul-suc, mul-le-mul_left, add_assoc}
use native.Mathlib.Omega.{arith}
use lib.ListN.{length, get_or, take, drop}
use lib.Seq.{slice, length-slice, take_at, take_all}
use Rattle.cells.proofs.Parts.{next}
use Rattle.save.specs.Saved.{joined_from}
use Rattle.save.proofs.Joined.{joined_length}
use Rattle.cells.proofs.Within.{byte_within, part_within}
use Rattle.save.proofs.Fronts.{part_past}
use Rattle.restored.proofs.Cuts.{part_and_rest}

-- entries that are equal at each place are joined the same
pub joined_same : (f g : ℕ → List ℕ) (n i : ℕ) → ((k : ℕ) → i ≤ k → k < i + n → f k ≡ g k) → joined_from f n i ≡ joined_from g n i
unfolding joined_from
joined_same f g zero i h = refl
joined_same f g (suc n) i h =
    ap₂ (λ (x y : List ℕ). x ++ y) (h i (omega arith) (omega arith)) (joined_same f g n (suc i) (λ k a c. h k (omega arith) (omega arith)))

-- entries that are parts of a list, one after the other, are that part of it
joined_cut : (s : List ℕ) (o w : ℕ) (f : ℕ → List ℕ) (n i : ℕ) → ((k : ℕ) → i ≤ k → k < i + n → f k ≡ slice (o + w * k) (o + w * k + w) s)
    → joined_from f n i ++ drop (o + w * (i + n)) s ≡ drop (o + w * i) s
unfolding joined_from
joined_cut s o w f zero i h = rw add-zero
joined_cut s o w f (suc n) i h =
    let e : i + suc n ≡ suc i + n = omega arith in
    let d : o + w * suc i ≡ o + w * i + w = omega (arith, mul-suc w i) in
    append_assoc (f i) (joined_from f n (suc i)) (drop (o + w * (i + suc n)) s)
    ∙ ap₂ (λ (x y : List ℕ). x ++ y) (h i (omega arith) (omega arith))
    (rw e (joined_cut s o w f n (suc i) (λ k a c. h k (omega arith) (omega arith))) ∙ ap (λ (k : ℕ). drop k s) d)
    ∙ part_and_rest s (o + w * i) w

-- entries of w bytes: each stands at its place, whatever follows them
module _ (f : ℕ → List ℕ) (w : ℕ) where
  pub joined_part : (rest : List ℕ) (n i k : ℕ) → ((k : ℕ) → i ≤ k → k < i + n → length (f k) ≡ w) → k < n
      → slice (w * k) (w * k + w) (joined_from f n i ++ rest) ≡ f (i + k)
  unfolding joined_from
  joined_part rest zero i k h a = absurd (omega arith)
  joined_part rest (suc n) i zero h a =
      let e : w * 0 ≡ 0 = omega arith in
      rw (e, zero-add w, add-zero i, append_assoc (f i) (joined_from f n (suc i)) rest)
      (take_at (f i) (joined_from f n (suc i) ++ rest) w (h i (omega arith) (omega arith)))
  joined_part rest (suc n) i (suc k) h a =
      let e : w * suc k ≡ w + w * k = omega (arith, mul-suc w k) in
      let d : i + suc k ≡ suc i + k = omega arith in
      rw (e, d, append_assoc (f i) (joined_from f n (suc i)) rest, add_assoc w (w * k) w)
      (part_past (f i) (joined_from f n (suc i) ++ rest) w (h i (omega arith) (omega arith)) (w * k) (w * k + w)
      ∙ joined_part rest n (suc i) k (λ k a c. h k (omega arith) (omega arith)) (omega arith))

-- entries that are the parts of a list from its front on are its front
pub joined_front : (s : List ℕ) (w : ℕ) (f : ℕ → List ℕ) (n : ℕ) → w * n ≤ length s → ((k : ℕ) → k < n → f k ≡ slice (w * k) (w * k + w) s)
    → joined_from f n 0 ≡ take (w * n) s
joined_front s w f n room h =
    let e : 0 + w * (0 + n) ≡ w * n = rw (zero-add n, zero-add (w * n)) in
    let z : 0 + w * 0 ≡ 0 = omega arith in
    let whole : joined_from f n 0 ++ drop (w * n) s ≡ s =
    ap (λ (k : ℕ). joined_from f n 0 ++ drop k s) (sym e)
    ∙ joined_cut s 0 w f n 0 (λ k a c. rw (zero-add (w * k)) (h k (omega arith)))
    ∙ ap (λ (k : ℕ). drop k s) z in
    sym (take_at (joined_from f n 0) (drop (w * n) s) (w * n) (joined_length f w n 0 at_each)) ∙ ap (take (w * n)) whole
  where
    at_each : (k : ℕ) → 0 ≤ k → k < 0 + n → length (f k) ≡ w
    at_each k a c =
        let l : suc k ≤ n = omega arith in
        let r : w * k + w ≤ length s = omega (arith, mul-le-mul_left w l, mul-suc w k) in
        ap length (h k (omega arith)) ∙ length-slice (w * k) (w * k + w) s r ∙ omega arith

-- entries of a byte of kind and a body of w bytes, whatever follows them; v is the width of an entry
module _ (kind w v : ℕ) (one : v ≡ suc w) (n : ℕ) (body : ℕ → List ℕ) (wide : (k : ℕ) → k < n → length (body k) ≡ w) where
  -- each is so long
  entry_wide : (k : ℕ) → 0 ≤ k → k < 0 + n → length (kind ∷ body k) ≡ v
  entry_wide k a c = ap suc (wide k (omega arith)) ∙ sym one

  module _ (rest : List ℕ) (k : ℕ) (a : k < n) where
    entry_at : slice (v * k) (v * k + v) (joined_from (λ k. kind ∷ body k) n 0 ++ rest) ≡ kind ∷ body k
    entry_at =
        joined_part (λ k. kind ∷ body k) v rest n 0 k entry_wide a ∙ ap (λ (k : ℕ). kind ∷ body k) (zero-add k)

    -- the kind of each, and its body
    pub kinded_kind : get_or (joined_from (λ k. kind ∷ body k) n 0 ++ rest) (v * k) 0 ≡ kind
    kinded_kind =
        let s : List ℕ = joined_from (λ k. kind ∷ body k) n 0 ++ rest in
        ap (λ (x : ℕ). get_or s x 0) (sym (add-zero (v * k)))
        ∙ sym (byte_within s (v * k) (v * k + v) 0 (omega arith))
        ∙ ap (λ (l : List ℕ). get_or l 0 0) entry_at

    pub kinded_body : slice (v * k + 1) (v * k + v) (joined_from (λ k. kind ∷ body k) n 0 ++ rest) ≡ body k
    kinded_body =
        let s : List ℕ = joined_from (λ k. kind ∷ body k) n 0 ++ rest in
        sym (part_within s (v * k) (v * k + v) 1 v (omega arith))
        ∙ ap (slice 1 v) entry_at
        ∙ ap (λ (x : ℕ). slice 1 x (kind ∷ body k)) one
        ∙ take_all w (body k) (omega (arith, wide k a))

-- where each of n entries of a list from a place on is a kind and a body, they are that part of it
pub kinded_cut : (s : List ℕ) (o kind v n : ℕ) (body : ℕ → List ℕ) → 0 < v → o + v * n ≤ length s → ((k : ℕ) → k < n → get_or s (o + v * k) 0 ≡ kind)
    → ((k : ℕ) → k < n → body k ≡ slice (o + v * k + 1) (o + v * k + v) s)
    → joined_from (λ k. kind ∷ body k) n 0 ++ drop (o + v * n) s ≡ drop o s
kinded_cut s o kind v n body some room kinds bodies =
    let e : o + v * (0 + n) ≡ o + v * n = rw zero-add in
    let z : o + v * 0 ≡ o = omega arith in
    ap (λ (k : ℕ). joined_from (λ k. kind ∷ body k) n 0 ++ drop k s) (sym e)
    ∙ joined_cut s o v (λ k. kind ∷ body k) n 0 at_each
    ∙ ap (λ (k : ℕ). drop k s) z
  where
    at_each : (k : ℕ) → 0 ≤ k → k < 0 + n → kind ∷ body k ≡ slice (o + v * k) (o + v * k + v) s
    at_each k a c =
        let l : suc k ≤ n = omega arith in
        let r : o + v * k + v ≤ length s = omega (arith, mul-le-mul_left v l, mul-suc v k) in
        ap₂ (λ (x : ℕ) (l : List ℕ). x ∷ l) (sym (kinds k (omega arith))) (bodies k (omega arith))
        ∙ sym (next s (o + v * k) (o + v * k + v) (omega arith) r)
