-- The number that digits spell.
use Rattle.std.specs.Prelude.{ℕ, ◌+◌, ◌*◌, ◌-◌, List, [], ◌∷◌}

-- a digit's value: its byte less that of 0
abbrev pub digit_value : ℕ → ℕ
digit_value b = b - 48

-- the number that digits spell after digits that spell n
unfoldable pub number_from : ℕ → List ℕ → ℕ
number_from n [] = n
number_from n (b ∷ bs) = number_from (n * 10 + digit_value b) bs

abbrev pub number : List ℕ → ℕ
number s = number_from 0 s
