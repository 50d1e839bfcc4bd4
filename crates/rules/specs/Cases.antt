-- RULES 1.1 byte by byte: what a record may hold, all else, and the bytes on both sides of each end from 127 to 159.
use Rattle.std.specs.Prelude.{ℕ, zero, suc, ◌-◌, List, [], ◌∷◌, ◌++◌}

-- so many bytes from one on
abbrev from : ℕ → ℕ → List ℕ
from first zero = []
from first (suc n) = first ∷ from (suc first) n

-- the bytes from the first to the last
infix 70 ◌to◌
abbrev ◌to◌ : ℕ → ℕ → List ℕ
first to last = from first (suc last - first)

-- next to an end: not allowed, and allowed
abbrev pub refused_bytes : List ℕ
refused_bytes = 127 ∷ 129 ∷ 141 ∷ 143 ∷ 144 ∷ 157 ∷ []

abbrev pub taken_bytes : List ℕ
taken_bytes = 128 ∷ 130 ∷ 140 ∷ 142 ∷ 145 ∷ 156 ∷ 158 ∷ 159 ∷ []

-- all that a record may hold, and all that it may not
unfoldable pub allowed_bytes : List ℕ
allowed_bytes = 32 to 126 ++ (128 ∷ (130 to 140 ++ (142 ∷ (145 to 156 ++ 158 to 255))))

unfoldable pub other_bytes : List ℕ
other_bytes = 0 to 31 ++ refused_bytes
