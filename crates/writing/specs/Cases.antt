-- Cases of writing at each of its answers and places, with what must be said and written.
use Rattle.std.specs.Prelude.{ℕ, suc, ◌^◌, Bool, ◌&&◌, List, [], ◌∷◌, ◌++◌, map, eqb, length, take, drop, replicate, set}
use Rattle.cells.specs.Bytes.{pick, bytes, same}
use Rattle.rules.specs.Cases.{refused_bytes, taken_bytes}
use Rattle.record.specs.Samples.{X, Y, Z, put}
use Rattle.record.specs.Edges.{C, times}
use Rattle.record.specs.Values.{order_of, delivery_of, report_of}
use Rattle.record.specs.declared.values.Order.{Order}
use Rattle.record.specs.declared.values.Report.{Report}
use Rattle.rules.specs.declared.day.Day.{Day}
use Rattle.rules.specs.declared.expected.Expected.{Expected}
use Rattle.rules.specs.declared.expected.Expected.TheVariants.{On}
use Rattle.writing.specs.Write.{write}
use Rattle.writing.specs.Typed.{order_bytes, delivery_bytes, report_bytes}

-- a call of writing, and the answer, place and text that it must give (no text on a refusal)
pub record Case : Type 0 where
  pub fixed : List ℕ
  pub table : List ℕ
  pub count : ℕ
  pub contents : List ℕ
  pub room : ℕ
  pub answer : ℕ
  pub place : ℕ
  pub text : List ℕ

-- the output is lent full of this byte
abbrev lent : ℕ
lent = 7

abbrev case : List ℕ → List ℕ → ℕ → List ℕ → ℕ → ℕ → ℕ → List ℕ → Case
case f t n c m a p s = record { fixed = f; table = t; count = n; contents = c; room = m; answer = a; place = p; text = s }

abbrev refused : List ℕ → List ℕ → ℕ → List ℕ → ℕ → ℕ → ℕ → Case
refused f t n c m a p = case f t n c m a p []

abbrev FX : List ℕ
FX = take 67 X

-- lent contents: a short title at 0, its qualifier at 5, a star at 7, a byte not allowed at 8, a colon at 9
abbrev K : List ℕ
K = bytes "TitleKL*" ++ (10 ∷ bytes ":")

abbrev letters : ℕ → List ℕ
letters n = replicate n 65

-- as entries of a table
abbrev entry : ℕ → ℕ → ℕ → List ℕ
entry id place width = id ∷ place ∷ width ∷ []

abbrev titled : List ℕ
titled = entry 1017 0 5 ++ entry 1018 5 2

unfoldable pub write_cases : List Case
write_cases =
    case FX [] 0 [] 72 0 0 X
    ∷ case (take 108 Y) [] 0 [] 200 0 0 Y
    ∷ case (take 79 Z) [] 0 [] 84 0 0 Z
    ∷ case (take 108 C) (entry 9007 0 4) 1 (bytes "0004") 122 0 0 C
    ∷ case FX titled 2 K 100 0 0 (FX ++ bytes "*1017Title*1018KL*9999")
    ∷ case FX (entry 8888 10 0) 1 K 100 0 0 (FX ++ bytes "*8888*9999")  -- an empty content at the end
    ∷ case FX (entry 0 5 2) 1 K 100 0 0 (FX ++ bytes "*0000KL*9999")
    -- 5
    ∷ refused [] [] 0 [] 72 5 0
    ∷ refused (put 0 "T101" FX) [] 0 [] 72 5 0
    ∷ refused (take 66 FX) [] 0 [] 72 5 0
    ∷ refused X [] 0 [] 99 5 0  -- a fixed part with more behind it
    ∷ refused (put 4 "          " FX) [] 0 [] 72 5 1
    ∷ refused (put 28 "20230229" FX) [] 0 [] 72 5 5
    ∷ refused (put 36 "A*" FX) [] 0 [] 72 5 6
    ∷ refused (set FX 40 10) [] 0 [] 72 5 6  -- a byte not allowed counts as 5
    ∷ refused (set (put 28 "20230229" FX) 40 10) [] 0 [] 72 5 5  -- the first by index
    ∷ refused (put 65 "XX" FX) [] 0 [] 72 5 10
    ∷ refused (put 28 "00000000" (take 108 Y)) [] 0 [] 200 5 6
    ∷ refused (put 75 "0001" (take 79 Z)) [] 0 [] 84 5 12
    ∷ refused (put 65 "XX" FX) [] 97 [] 0 5 10  -- 5 before all others
    -- 8, then 23 for the table
    ∷ case FX (times 96 (entry 8888 0 0)) 96 K 1024 0 0 (FX ++ (times 96 (bytes "*8888") ++ bytes "*9999"))
    ∷ refused FX (times 97 (entry 8888 0 0)) 97 K 1024 8 96
    ∷ refused FX [] 97 [] 0 8 96
    ∷ refused FX (replicate 5 1017) 2 K 0 23 0
    ∷ refused FX [] 1 K 100 23 0
    -- 9 and 10 per field
    ∷ refused FX (entry 9999 0 1) 1 K 100 9 0
    ∷ refused FX (entry 10000 0 1) 1 K 100 9 0
    ∷ refused FX (entry 8888 0 1 ++ entry 8888 0 11) 2 K 100 9 1  -- content outside the lent bytes
    ∷ refused FX (entry 8888 11 0) 1 K 100 9 0  -- also for length 0
    ∷ refused FX (entry 8888 (2 ^ 64) 1) 1 K 100 9 0
    ∷ refused FX (entry 8888 7 1) 1 K 100 9 0  -- a star in a content
    ∷ refused FX (entry 8888 8 1) 1 K 100 9 0  -- a byte not allowed
    ∷ refused FX (entry 1003 9 1) 1 K 100 9 0  -- barred in a B101
    ∷ refused FX (entry 1003 0 0) 1 K 100 9 0  -- content breaks the table
    ∷ refused FX (entry 1017 0 5) 1 K 100 10 0
    ∷ refused FX (entry 8888 0 1 ++ entry 1018 5 2) 2 K 100 10 1
    ∷ refused FX (entry 1017 0 5 ++ entry 9999 0 1) 2 K 100 10 0  -- 10 at an earlier field beats 9 at a later one
    ∷ refused FX (entry 1017 0 0 ++ entry 9999 0 1) 2 K 100 9 0
    -- 1, then 23 for the output
    ∷ case FX (entry 8888 0 947) 1 (letters 948) 1024 0 0 (FX ++ (bytes "*8888" ++ (letters 947 ++ bytes "*9999")))
    ∷ refused FX (entry 8888 0 948) 1 (letters 948) 2000 1 0
    ∷ refused FX (entry 8888 0 948) 1 (letters 948) 0 1 0
    ∷ refused FX [] 0 [] 71 23 0
    ∷ refused FX titled 2 K 88 23 0
    ∷ refused FX (entry 1017 0 5) 1 K 0 10 0  -- 10 before 23
    ∷ []

-- a fixed part with each byte at the ends of what is allowed, in the field of index 6: it is 5, or written with what follows it
abbrev in_fixed : (ℕ → List ℕ) → List Case
in_fixed s = map (λ b. refused (s b) [] 0 [] 200 5 6) refused_bytes ++ map (λ b. case (s b) [] 0 [] 200 0 0 (s b ++ bytes "*9999")) taken_bytes

-- the lent contents with such a byte in the short title: 9, or written
abbrev in_title : List Case
in_title =
    map (λ b. refused FX titled 2 (set K 2 b) 100 9 0) refused_bytes
    ++ map (λ b. case FX titled 2 (set K 2 b) 100 0 0 (FX ++ (bytes "*1017" ++ (set (bytes "Title") 2 b ++ bytes "*1018KL*9999")))) taken_bytes

-- in a reference, in an optional content and in a slip number
unfoldable pub byte_cases : List Case
byte_cases = in_fixed (set FX 37) ++ (in_title ++ in_fixed (set (take 108 Y) 37))

-- an order, a delivery and a report with one value changed
abbrev with_copies : ℕ → Order → Order
with_copies n o = record { sender = o.sender; recipient = o.recipient; date = o.date; reference = o.reference; article = o.article; quantity = record { 0 = n }; measure = o.measure }

abbrev with_date : Day → Order → Order
with_date d o = record { sender = o.sender; recipient = o.recipient; date = d; reference = o.reference; article = o.article; quantity = o.quantity; measure = o.measure }

abbrev with_expected : Expected → Report → Report
with_expected e m = record { sender = m.sender; recipient = m.recipient; slip = m.slip; reference = m.reference; article = m.article; message = m.message; hold = m.hold; expected = e }

abbrev day : ℕ → ℕ → ℕ → Day
day y m d = record { year = y; month = m; day = d }

-- typed records: written back, and values outside their range
unfoldable pub typed_cases : List Case
typed_cases =
    case (order_bytes (order_of X)) [] 0 [] 72 0 0 X
    ∷ case (delivery_bytes (delivery_of Y)) [] 0 [] 113 0 0 Y
    ∷ case (delivery_bytes (delivery_of C)) (entry 9007 0 4) 1 (bytes "0004") 122 0 0 C
    ∷ case (report_bytes (report_of Z)) [] 0 [] 84 0 0 Z
    ∷ case (order_bytes (with_copies 9999 (order_of X))) [] 0 [] 72 0 0 (put 61 "9999" X)
    ∷ refused (order_bytes (with_copies 10000 (order_of X))) [] 0 [] 72 5 9
    ∷ case (order_bytes (with_date (day 1 1 1) (order_of X))) [] 0 [] 72 0 0 (put 28 "00010101" X)
    ∷ refused (order_bytes (with_date (day 0 1 1) (order_of X))) [] 0 [] 72 5 5
    ∷ refused (order_bytes (with_date (day 10000 1 1) (order_of X))) [] 0 [] 72 5 5
    ∷ refused (order_bytes (with_date (day 2023 2 29) (order_of X))) [] 0 [] 72 5 5
    ∷ refused (order_bytes (with_date (day 0 0 0) (order_of X))) [] 0 [] 72 5 5
    ∷ case (report_bytes (with_expected (On (day 2024 2 29)) (report_of Z))) [] 0 [] 84 0 0 (put 67 "20240229" Z)
    ∷ refused (report_bytes (with_expected (On (day 2023 2 29)) (report_of Z))) [] 0 [] 84 5 11
    ∷ []

-- what is right after a case: the answer, the place, the length, and the whole output
abbrev right : Case → Bool
right c =
    eqb (write c.fixed c.table c.count c.contents (replicate c.room lent)).said.answer c.answer
    && (eqb (write c.fixed c.table c.count c.contents (replicate c.room lent)).said.place c.place
    && (eqb (write c.fixed c.table c.count c.contents (replicate c.room lent)).said.length (length c.text)
    && same (write c.fixed c.table c.count c.contents (replicate c.room lent)).out (c.text ++ drop (length c.text) (replicate c.room lent))))

-- the number, from n on, of the first case that is wrong; 0 where none is
unfoldable pub first_wrong : ℕ → List Case → ℕ
first_wrong n [] = 0
first_wrong n (c ∷ cs) = pick (right c) (first_wrong (suc n) cs) n
