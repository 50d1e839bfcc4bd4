-- Articles, and how their qualifiers have them written (RULES 1.4).
use Rattle.std.specs.Prelude.{ℕ, ◌+◌, ◌*◌, ◌%◌, Bool, true, ◌&&◌, List, [], ◌∷◌, eqb, leb}
use Rattle.std.proofs.Math.Seq.{slice}
use Rattle.cells.specs.Bytes.{pick, bytes, same}
use Rattle.signs.specs.Class.{letter_x, all_of, of_class, padded}
use Rattle.rules.specs.Number.{digit_value}
use Rattle.signs.specs.declared.Class.TheVariants.{Digit, Blank, DigitOrX}

-- what a character of a check sum counts: a digit its value, X ten
unfoldable pub check_value : ℕ → ℕ
check_value b = pick (letter_x b) 10 (digit_value b)

-- the sum of the characters, each times its weight
unfoldable pub weighted : List ℕ → List ℕ → ℕ
weighted [] s = 0
weighted (w ∷ ws) [] = 0
weighted (w ∷ ws) (b ∷ bs) = w * check_value b + weighted ws bs

-- the weights of EN, that of the check digit last
abbrev pub gs1_weights : List ℕ
gs1_weights = 1 ∷ 3 ∷ 1 ∷ 3 ∷ 1 ∷ 3 ∷ 1 ∷ 3 ∷ 1 ∷ 3 ∷ 1 ∷ 3 ∷ 1 ∷ []

-- ISBN: 10 to 1
abbrev pub isbn_weights : List ℕ
isbn_weights = 10 ∷ 9 ∷ 8 ∷ 7 ∷ 6 ∷ 5 ∷ 4 ∷ 3 ∷ 2 ∷ 1 ∷ []

-- no weight is above ten
abbrev pub low : ℕ → Bool
low w = leb w 10

-- EN: ten divides the weighted sum of 13 digits
unfoldable pub gs1 : List ℕ → Bool
gs1 s = of_class Digit 13 13 s && eqb (weighted gs1_weights s % 10) 0

-- ten characters with the modulo 11 check: nine digits, then a digit or X
unfoldable pub isbn : List ℕ → Bool
isbn s = all_of Digit (slice 0 9 s) && (of_class DigitOrX 1 1 (slice 9 10 s) && eqb (weighted isbn_weights s % 11) 0)

-- RK: a series of three digits and a volume of five, blanks between
unfoldable pub series_volume : List ℕ → Bool
series_volume s = all_of Digit (slice 0 3 s) && (all_of Blank (slice 3 8 s) && of_class Digit 5 5 (slice 8 13 s))

-- 13 bytes, judged by the qualifier after them; an unknown one asks nothing of them (RULES 1.4)
unfoldable pub article : List ℕ → List ℕ → Bool
article qualifier s =
    pick (same qualifier (bytes "EN")) (gs1 s)
    (pick (same qualifier (bytes "IB")) (isbn (slice 0 10 s) && all_of Blank (slice 10 13 s))
    (pick (same qualifier (bytes "KN")) (padded Digit 7 8 s)
    (pick (same qualifier (bytes "UM")) (padded Digit 1 13 s)
    (pick (same qualifier (bytes "RK")) (series_volume s)
    true))))
