-- The bytes that the rules name, the classes of bytes, and fields made of one class (RULES 1.1, 1.5).
use Rattle.std.specs.Prelude.{ℕ, Bool, true, not, ◌&&◌, ◌||◌, List, eqb, length, drop, get_or}
use Rattle.cells.specs.Bytes.{within, all, run}
use Rattle.signs.specs.declared.Class.{Class}
use Rattle.signs.specs.declared.Class.TheVariants.{Any, Allowed, Digit, Capital, Account, Blank, Zero, Unbarred, DigitOrX}

-- printable ASCII, and Latin-1 from 160 on
abbrev pub plain : ℕ → Bool
plain b = within 32 126 b || within 160 255 b

-- bytes that stand for nothing in Windows-1252
abbrev pub unassigned : ℕ → Bool
unassigned b = eqb b 129 || (eqb b 141 || (eqb b 143 || (eqb b 144 || eqb b 157)))

-- dashes, quotes and the other signs that Windows-1252 has from 128 to 159
abbrev pub typographic : ℕ → Bool
typographic b = within 128 159 b && not (unassigned b)

-- bytes that a record may hold (RULES 1.1)
abbrev pub allowed : ℕ → Bool
allowed b = plain b || typographic b

-- the one byte that is blank
abbrev pub blank : ℕ → Bool
blank b = eqb b 32

abbrev pub digit : ℕ → Bool
digit b = within 48 57 b

-- the digit 0
abbrev pub zero_digit : ℕ → Bool
zero_digit b = eqb b 48

-- a large letter, without accents
abbrev pub capital : ℕ → Bool
capital b = within 65 90 b

abbrev pub star : ℕ → Bool
star b = eqb b 42

-- the letter X, which stands for ten
abbrev pub letter_x : ℕ → Bool
letter_x b = eqb b 88

-- * + : ? '
abbrev pub barred : ℕ → Bool
barred b = star b || (eqb b 43 || (eqb b 58 || (eqb b 63 || eqb b 39)))

-- a byte is of a class
unfoldable pub belongs : Class → ℕ → Bool
belongs Any b = true
belongs Allowed b = allowed b
belongs Digit b = digit b
belongs Capital b = capital b
belongs Account b = digit b || capital b
belongs Blank b = blank b
belongs Zero b = zero_digit b
belongs Unbarred b = not (barred b)
belongs DigitOrX b = digit b || letter_x b

-- bytes of a class only
unfoldable pub all_of : Class → List ℕ → Bool
all_of c s = all (belongs c) s

-- least to most bytes of a class
unfoldable pub of_class : Class → ℕ → ℕ → List ℕ → Bool
of_class c least most s = within least most (length s) && all_of c s

-- least to most bytes of a class, then blanks only
unfoldable pub padded : Class → ℕ → ℕ → List ℕ → Bool
padded c least most s = within least most (run (belongs c) s) && all_of Blank (drop (run (belongs c) s) s)

-- a name: empty, or begun at its first byte; bytes of a class only
unfoldable pub named : Class → List ℕ → Bool
named c s = all_of c s && (all_of Blank s || not (blank (get_or s 0 0)))
