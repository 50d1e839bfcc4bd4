-- Arrays whose bytes are all zeros.
use Rattle.std.proofs.Common.{◌≡◌, ◌<◌, List, ℕ, zero, suc, [], ◌∷◌, replicate, length, refl, arith}
use Rattle.std.specs.Array.{AllOfLen}
use Rattle.std.proofs.Common.{slice_index_or}

-- a list of n elements that are all 0
pub zeros_of : (n : ℕ) (xs : List ℕ) → length xs ≡ n → ((i : ℕ) → i < n → slice_index_or xs i 1 ≡ 0) → xs ≡ replicate n 0
zeros_of zero [] l e = refl
zeros_of zero (x ∷ xs) l e = absurd (omega arith)
zeros_of (suc n) [] l e = absurd (omega arith)
zeros_of (suc n) (x ∷ xs) l e =
    let here : x ≡ 0 = e 0 (omega arith) in
    let rest = zeros_of n xs (omega arith) (λ i h. e (suc i) (omega arith)) in
    rw (here, rest)

pub zero_bytes : (n : ℕ) (xs : List ℕ) → AllOfLen (λ x. x ≡ 0) xs n → xs ≡ replicate n 0
zero_bytes n xs a = zeros_of n xs a.long (λ i h. a.at i 1 h)
