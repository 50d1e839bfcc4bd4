-- Parts for the computed cases: those of the sample records, which make records, and others with one thing broken, which make none.
use Rattle.std.specs.Prelude.{ℕ, List, [], ◌∷◌, ◌++◌, replicate}
use Prim.Native.String.{String}
use Rattle.cells.specs.Bytes.{bytes}
use Rattle.record.specs.Fields.{Optional}
use Rattle.record.specs.declared.layout.Kind.TheVariants.{Order, Goods, Closing, Report}
use Rattle.roundtrip.specs.Record.{Parts}

-- an optional field
abbrev pub field : ℕ → String → Optional
field id text = record { id = id; content = bytes text }

-- the fields of X's fixed part with another reference and article
abbrev pub order_fields : List ℕ → String → List (List ℕ)
order_fields reference article =
    bytes "B101"
    ∷ bytes "43210     "
    ∷ bytes "VD"
    ∷ bytes "24000     "
    ∷ bytes "VD"
    ∷ bytes "20240219"
    ∷ reference
    ∷ bytes article
    ∷ bytes "EN"
    ∷ bytes "0010"
    ∷ bytes "ST"
    ∷ []

abbrev pub x_fields : List (List ℕ)
x_fields = order_fields (bytes "A-17      ") "9783442756841"

-- an order of these fields alone
abbrev pub fixed_only : List (List ℕ) → Parts
fixed_only fields = record { kind = Order; fixed = fields; optional = [] }

-- X with optional fields
abbrev pub ordering : List Optional → Parts
ordering fs = record { kind = Order; fixed = x_fields; optional = fs }

-- Y, Z and a closing record
abbrev pub y_parts : Parts
y_parts = record {
  kind = Goods;
  fixed =
      bytes "L101"
      ∷ bytes "24000     "
      ∷ bytes "VD"
      ∷ bytes "43210     "
      ∷ bytes "VD"
      ∷ bytes "20240226"
      ∷ bytes "70012345  "
      ∷ bytes "0001"
      ∷ bytes "A-17      "
      ∷ bytes "9783442756841"
      ∷ bytes "EN"
      ∷ bytes "0004"
      ∷ bytes "000000000129500"
      ∷ bytes "LP"
      ∷ bytes "EUR"
      ∷ bytes "00300000"
      ∷ bytes "1"
      ∷ [];
  optional = [];
}

abbrev pub z_parts : Parts
z_parts = record {
  kind = Report;
  fixed =
      bytes "M101"
      ∷ bytes "24000     "
      ∷ bytes "VD"
      ∷ bytes "43210     "
      ∷ bytes "VD"
      ∷ bytes "70012345  "
      ∷ bytes "A-17      "
      ∷ bytes "9783442756841"
      ∷ bytes "EN"
      ∷ bytes "010"
      ∷ bytes "N"
      ∷ bytes "        "
      ∷ bytes "0000"
      ∷ [];
  optional = [];
}

abbrev pub closing_parts : Parts
closing_parts = record {
  kind = Closing;
  fixed =
      bytes "L101"
      ∷ bytes "14914     "
      ∷ bytes "VD"
      ∷ bytes "43210     "
      ∷ bytes "VD"
      ∷ bytes "00000000"
      ∷ bytes "          "
      ∷ bytes "    "
      ∷ bytes "          "
      ∷ bytes "             "
      ∷ bytes "  "
      ∷ bytes "0000"
      ∷ bytes "000000000000000"
      ∷ bytes "  "
      ∷ bytes "   "
      ∷ bytes "00000000"
      ∷ bytes " "
      ∷ [];
  optional = field 9007 "0004" ∷ [];
}

-- a title with its qualifier: a group
abbrev pub titled : List Optional
titled = field 1017 "Title" ∷ field 1018 "KL" ∷ []

-- a title in quotes, and what it is behind a dash
abbrev pub marked : List Optional
marked = record { id = 1017; content = 132 ∷ (bytes "Momo" ++ (147 ∷ (bytes " " ++ (150 ∷ bytes " Roman")))) } ∷ field 1018 "KL" ∷ []

-- so many short fields
abbrev pub short_fields : ℕ → List Optional
short_fields n = replicate n (field 9007 "123")

-- a field of an ID that is not listed, with so many letters
abbrev pub letters : ℕ → List Optional
letters n = record { id = 8888; content = replicate n 65 } ∷ []
