-- The sample records X, Y and Z, and the cases of RULES 12 as one table.
use Rattle.std.specs.Prelude.{ℕ, suc, ◌-◌, Bool, true, false, ◌&&◌, List, [], ◌∷◌, ◌++◌, eqb, length, take, drop}
use Prim.Native.String.{String}
use Rattle.cells.specs.Bytes.{pick, bytes}
use Rattle.record.specs.declared.answer.Checked.{Checked}

abbrev pub X : List ℕ
X = bytes "B10143210     VD24000     VD20240219A-17      9783442756841EN0010ST*9999"

abbrev pub Y : List ℕ
Y = bytes "L10124000     VD43210     VD2024022670012345  0001A-17      9783442756841EN0004000000000129500LPEUR003000001*9999"

abbrev pub Z : List ℕ
Z = bytes "M10124000     VD43210     VD70012345  A-17      9783442756841EN010N        0000*9999"

-- a record with a text in place of the bytes that stand at a place
abbrev pub put : ℕ → String → List ℕ → List ℕ
put at text s = take at s ++ (bytes text ++ drop (length (take at s ++ bytes text)) s)

-- a record with bytes before its `*9999`
abbrev pub with_bytes : List ℕ → List ℕ → List ℕ
with_bytes more s = take (length s - 5) s ++ (more ++ drop (length s - 5) s)

abbrev pub with : String → List ℕ → List ℕ
with text s = with_bytes (bytes text) s

-- what is done with a record
pub data Call : Type 0 where
  reads books : Call

-- a case: the call, its record, and the answer and place that it must give
pub record Row : Type 0 where
  pub call : Call
  pub bytes : List ℕ
  pub answer : ℕ
  pub place : ℕ

abbrev pub row : Call → List ℕ → ℕ → ℕ → Row
row c s a p = record { call = c; bytes = s; answer = a; place = p }

-- the cases marked P
unfoldable pub cases : List Row
cases =
    row reads X 0 0
    ∷ row reads (take 71 X) 3 71  -- X less its last byte
    ∷ row reads (put 58 "2" X) 5 46  -- X with EAN ending 2
    ∷ row reads (put 28 "20230229" X) 5 28
    ∷ row reads (put 28 "20240229" X) 0 0
    ∷ row reads [] 2 0
    ∷ row reads (with "*10299030" X) 9 67
    ∷ row reads (with "*102990300" X) 10 67
    ∷ row books (put 36 "          " Y) 13 0  -- Y with blank slip number
    ∷ row reads (with "*1003" X) 9 67  -- an empty content in 1003
    ∷ row reads (with "*8888" X) 0 0  -- in 8888
    ∷ []

abbrev pub is_reads : Call → Bool
is_reads reads = true
is_reads books = false

-- the cases that concern reading
unfoldable pub reading_of : List Row → List Row
reading_of [] = []
reading_of (r ∷ rs) = pick (is_reads r.call) (r ∷ reading_of rs) (reading_of rs)

-- the number, from n on, of the first row that is not as it should be where say gives the answers; 0 where all are
unfoldable pub first_wrong : (Call → List ℕ → Checked) → ℕ → List Row → ℕ
first_wrong say n [] = 0
first_wrong say n (r ∷ rs) =
    pick (eqb (say r.call r.bytes).answer r.answer && eqb (say r.call r.bytes).place r.place)
    (first_wrong say (suc n) rs) n
