-- The fields that a lent table names, and three of them as a price.
use Rattle.std.specs.Prelude.{ℕ, ◌+◌, Bool, ◌&&◌, List, get_or}
use Rattle.rules.specs.declared.rule.Texts.{Texts}
use Rattle.rules.specs.declared.rule.Rule.TheVariants.{Free, OneOf}
use Rattle.record.specs.Fields.{Optional}
use Rattle.writing.specs.Write.{entries, optional_of}
use Rattle.writing.specs.declared.lent.InsideFields.{InsideFields}
use Rattle.parts.specs.Loops.{◌asks◌, is_member}
use Rattle.parts.specs.Part.{no_optional}

abbrev pub fields_of : InsideFields → List Optional
fields_of f = optional_of f.contents.now (entries f.count f.table.now)

-- the fields from one with an index on are an amount, one of the texts as its qualifier, and a currency
abbrev pub is_price : ℕ → Texts → List Optional → Bool
is_price i qualifiers fs =
    is_member (1029 asks Free) (get_or fs i no_optional)
    && (is_member (1030 asks OneOf qualifiers) (get_or fs (i + 1) no_optional) && is_member (1032 asks Free) (get_or fs (i + 2) no_optional))
