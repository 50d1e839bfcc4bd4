-- The field rules as data, and what it means to keep one.
use Rattle.std.specs.Prelude.{ℕ, Bool, true, ◌&&◌, ◌||◌, List, [], ◌∷◌}
use Rattle.cells.specs.Bytes.{bytes, within, among}
use Rattle.signs.specs.Class.{of_class, padded, named}
use Rattle.rules.specs.Number.{number}
use Rattle.rules.specs.Day.{is_day, day_width}
use Rattle.rules.specs.Article.{article}
use Rattle.signs.specs.declared.Class.TheVariants.{Digit, Blank, Zero}
use Rattle.rules.specs.declared.rule.Texts.{Texts}
use Rattle.rules.specs.declared.rule.Texts.TheVariants.{Party, Numbering, Measure, HoldMark, TaxMark, PartTax, YesOnly, YesOrU, Medium, NetPrice, ListPrice}
use Rattle.rules.specs.declared.rule.Rule.{Rule}
use Rattle.rules.specs.declared.rule.Rule.TheVariants.{Free, Of, Padded, Named, OneOf, DayCount, Date, ExpectedDate, Article}

-- the texts that a rule names
unfoldable pub texts : Texts → List (List ℕ)
texts Party = bytes "VD" ∷ bytes "IB" ∷ bytes "SA" ∷ []
texts Numbering = bytes "EN" ∷ bytes "IB" ∷ bytes "KN" ∷ bytes "UM" ∷ bytes "RK" ∷ []
texts Measure = bytes "ST" ∷ bytes "NP" ∷ []
texts HoldMark = bytes "J" ∷ bytes "N" ∷ []
texts TaxMark = bytes "0" ∷ bytes "1" ∷ bytes "2" ∷ bytes "6" ∷ []
texts PartTax = bytes "0" ∷ bytes "1" ∷ bytes "2" ∷ []
texts YesOnly = bytes "J" ∷ []
texts YesOrU = bytes "J" ∷ bytes "U" ∷ []
texts Medium = bytes "PHY" ∷ bytes "DIG" ∷ []
texts NetPrice = bytes "NO" ∷ []
texts ListPrice = bytes "LP" ∷ bytes "FP" ∷ []

-- a number of days, as ID 1203 has it
unfoldable pub day_count : List ℕ → Bool
day_count s = of_class Digit 1 3 s && within 1 360 (number s)

-- the three forms of an expected date
unfoldable pub expected : List ℕ → Bool
expected s = is_day s || (of_class Zero day_width day_width s || of_class Blank day_width day_width s)

-- the bytes of a field keep its rule; next is the two bytes after the field, which only the article's rule asks for
unfoldable pub keeps : Rule → List ℕ → List ℕ → Bool
keeps Free next s = true
keeps (Of c least most) next s = of_class c least most s
keeps (Padded c least most) next s = padded c least most s
keeps (Named c) next s = named c s
keeps (OneOf t) next s = among s (texts t)
keeps DayCount next s = day_count s
keeps Date next s = is_day s
keeps ExpectedDate next s = expected s
keeps Article next s = article next s
