-- A number written in decimal digits.
use Rattle.std.specs.Prelude.{ℕ, zero, suc, ◌+◌, ◌^◌, ◌/◌, ◌%◌, List, [], ◌∷◌, ◌++◌, ltb, replicate}
use Rattle.cells.specs.Bytes.{pick}

-- the last w digits of a number
unfoldable pub digits_of : ℕ → ℕ → List ℕ
digits_of zero n = []
digits_of (suc w) n = digits_of w (n / 10) ++ ((48 + n % 10) ∷ [])

-- bytes that break every rule, since 0 is not allowed: they stand for a value outside its range
unfoldable pub unwritable : ℕ → List ℕ
unwritable w = replicate w 0

-- the w digits of a number, where it has no more than w
unfoldable pub number_bytes : ℕ → ℕ → List ℕ
number_bytes w n = pick (ltb n (10 ^ w)) (digits_of w n) (unwritable w)
