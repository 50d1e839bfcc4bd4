-- Cases of reading and writing parts: the wholesalers' two bundles with all their values, each refusal with its place, and the order of the refusals.
use Rattle.std.specs.Prelude.{ℕ, suc, ◌+◌, ◌*◌, ◌^◌, Bool, ◌&&◌, List, [], ◌∷◌, ◌++◌, map, eqb, length, take, drop, get_or, replicate, set}
use Prim.Native.String.{String}
use Rattle.cells.specs.Bytes.{pick, bytes, same, joined}
use Rattle.record.specs.Samples.{X, Y, Z, put}
use Rattle.record.specs.Edges.{C, times}
use Rattle.parts.specs.Part.{article_width, fitted, part_width, room_of}
use Rattle.parts.specs.Read.{read_parts}
use Rattle.parts.specs.Write.{write_parts}
use Rattle.parts.specs.declared.part.Medium.{Medium}
use Rattle.parts.specs.declared.part.Medium.TheVariants.{Physical, Digital}
use Rattle.parts.specs.declared.part.PartPrice.{PartPrice}
use Rattle.parts.specs.declared.part.Part.{Part}

-- rooms and outputs are lent full of this byte
abbrev lent : ℕ
lent = 7

-- the bundles of both wholesalers' own examples, with blanks restored
abbrev loops_text : String
loops_text = "*10191*1029126200*1030NO*1032EUR*1029180000*1030LP*1032EUR*11019783131464712-1*1102VB*1151PHY*10192*102931400*1030NO*1032EUR*102949900*1030LP*1032EUR*11019783131464712-2*1102VB*1151DIG*9999"

abbrev fixed001 : List ℕ
fixed001 = bytes "L10114914     VD33333     VD20150314982478    000185601     9783131464712EN0001000000000229900LPEUR002500006"

abbrev pub bundle001 : List ℕ
bundle001 = fixed001 ++ (bytes "*1003KIENZLER*1029157600*1030NO*1032EUR" ++ bytes loops_text)

abbrev pub bundle004 : List ℕ
bundle004 =
    bytes "L10124000     VD900900    VD2017050624123456  0001202020    9783131464712EN0001000000000229900LPEUR002300006*1003MEIER*90901*904000000000*90430000000000000000"
    ++ bytes loops_text

-- a price in euros, with the number of digits that it is written with
abbrev price : ℕ → ℕ → String → PartPrice
price amount digits qualifier = record { amount = record { 0 = amount }; digits = digits; qualifier = bytes qualifier; currency = bytes "EUR" }

-- a part under the maker's number
abbrev part : ℕ → Medium → PartPrice → PartPrice → String → Part
part tax medium net list number = record {
  tax = tax;
  medium = medium;
  net = net;
  list = list;
  article = record { length = length (bytes number); bytes = fitted article_width (bytes number); qualifier = bytes "VB" };
}

-- the book and its digital part, as both wholesalers have them: 12.62 and 18.00 with tax mark 1, 3.14 and 4.99 with tax mark 2
abbrev pub printed : Part
printed = part 49 Physical (price 126200 6 "NO") (price 180000 6 "LP") "9783131464712-1"

abbrev pub digital : Part
digital = part 50 Digital (price 31400 5 "NO") (price 49900 5 "LP") "9783131464712-2"

-- a loop's ten fields
abbrev loop_texts : List (List ℕ)
loop_texts = map bytes ("*10190" ∷ "*102900500" ∷ "*1030NO" ∷ "*1032EUR" ∷ "*102910000" ∷ "*1030FP" ∷ "*1032CHF" ∷ "*1101A" ∷ "*1102EN" ∷ "*1151DIG" ∷ [])

abbrev loop_text : List ℕ
loop_text = joined loop_texts

-- Y as a bundle, with these optional fields
abbrev fixed_bundle : List ℕ
fixed_bundle = take 108 (put 107 "6" Y)

abbrev bundle : List ℕ → List ℕ
bundle fields = fixed_bundle ++ (fields ++ bytes "*9999")

-- two loops with a field left out of the second, with two of its neighbours exchanged, and with some of its fields taken from one place and put to another
abbrev without : ℕ → List ℕ
without i = bundle (loop_text ++ joined (take i loop_texts ++ drop (suc i) loop_texts))

abbrev exchanged : ℕ → List ℕ
exchanged i =
    bundle (loop_text ++ joined (take i loop_texts ++ (get_or loop_texts (suc i) [] ∷ get_or loop_texts i [] ∷ drop (i + 2) loop_texts)))

abbrev group : ℕ → ℕ → List ℕ
group from n = joined (take n (drop from loop_texts))

-- a record, the room that it is given, and the answer, place and number of parts that must come of it
pub record Reading : Type 0 where
  pub text : List ℕ
  pub room : ℕ
  pub answer : ℕ
  pub place : ℕ
  pub parts : ℕ

abbrev tells : List ℕ → ℕ → ℕ → ℕ → ℕ → Reading
tells s m a p n = record { text = s; room = m; answer = a; place = p; parts = n }

abbrev reads : List ℕ → ℕ → ℕ → ℕ → Reading
reads s a p n = tells s 544 a p n

unfoldable pub readings : List Reading
readings =
    reads bundle001 0 0 2
    ∷ reads bundle004 0 0 2
    -- 23 first
    ∷ tells bundle001 543 23 0 0
    ∷ tells [] 543 23 0 0
    ∷ tells bundle001 545 0 0 2
    -- 1 to 10 of the record
    ∷ reads (replicate 1025 65) 1 1024 0
    ∷ reads [] 2 0 0
    ∷ reads (take 112 Y) 3 112 0
    ∷ reads (set bundle001 40 10) 4 40 0
    ∷ reads (put 107 "3" Y) 5 107 0
    ∷ reads (bundle (bytes "*123")) 6 108 0
    ∷ reads (take 115 bundle001) 7 115 0
    ∷ reads (bundle (times 97 (bytes "*8888"))) 8 588 0
    ∷ reads (bundle (loop_text ++ bytes "*10193")) 9 185 0
    -- no bundle: no parts, whatever its fields
    ∷ reads X 0 0 0
    ∷ reads Y 0 0 0
    ∷ reads Z 0 0 0
    ∷ reads C 0 0 0
    ∷ reads (put 107 "1" (bundle loop_text)) 0 0 0
    ∷ reads (put 107 "1" (bundle (bytes "*10190"))) 0 0 0
    ∷ reads (put 107 "0" (bundle (times 9 loop_text))) 0 0 0
    -- no 1019
    ∷ reads (bundle []) 26 0 0
    ∷ reads (bundle (bytes "*1003MEIER*8888")) 26 0 0
    -- one part, eight and nine; fields before them
    ∷ reads (bundle loop_text) 0 0 1
    ∷ reads (bundle (bytes "*1003MEIER*1151PHY" ++ loop_text)) 0 0 1
    ∷ reads (bundle (times 8 loop_text)) 0 0 8
    ∷ reads (bundle (times 9 loop_text)) 27 0 0
    -- a field after the loops, and between them; with nine loops 26 comes before 27
    ∷ reads (bundle (loop_text ++ bytes "*8888")) 26 0 0
    ∷ reads (bundle (loop_text ++ (bytes "*1003MEIER" ++ loop_text))) 26 0 0
    ∷ reads (bundle (times 9 loop_text ++ bytes "*8888")) 26 0 0
    ∷ reads (bundle (loop_text ++ bytes "*10190")) 26 0 0
    ∷ reads (bundle (bytes "*10190" ++ loop_text)) 26 0 0
    -- a loop short by a field: a broken group is told before
    ∷ reads (without 0) 26 0 0
    ∷ reads (without 1) 10 191 0
    ∷ reads (without 2) 10 191 0
    ∷ reads (without 3) 10 201 0
    ∷ reads (without 4) 10 216 0
    ∷ reads (without 5) 10 216 0
    ∷ reads (without 6) 10 226 0
    ∷ reads (without 7) 10 241 0
    ∷ reads (without 8) 10 241 0
    ∷ reads (without 9) 26 0 0
    -- short by a group, and by its end
    ∷ reads (bundle (group 0 1 ++ group 4 6)) 26 0 0
    ∷ reads (bundle (group 0 4 ++ group 7 3)) 26 0 0
    ∷ reads (bundle (group 0 7 ++ group 9 1)) 26 0 0
    ∷ reads (bundle (group 0 7)) 26 0 0
    -- neighbours exchanged
    ∷ reads (exchanged 0) 10 185 0
    ∷ reads (exchanged 1) 10 191 0
    ∷ reads (exchanged 2) 10 191 0
    ∷ reads (exchanged 3) 10 201 0
    ∷ reads (exchanged 4) 10 216 0
    ∷ reads (exchanged 5) 10 216 0
    ∷ reads (exchanged 6) 10 226 0
    ∷ reads (exchanged 7) 10 241 0
    ∷ reads (exchanged 8) 10 241 0
    -- groups exchanged, in whole order: net price and tax mark, list price and article, article and medium, net and list price
    ∷ reads (bundle (group 1 3 ++ (group 0 1 ++ group 4 6))) 26 0 0
    ∷ reads (bundle (group 0 4 ++ (group 7 2 ++ (group 4 3 ++ group 9 1)))) 26 0 0
    ∷ reads (bundle (group 0 7 ++ (group 9 1 ++ group 7 2))) 26 0 0
    ∷ reads (bundle (group 0 1 ++ (group 4 3 ++ (group 1 3 ++ group 7 3)))) 26 0 0
    -- the qualifiers: NO first, then LP or FP
    ∷ reads (put 129 "LP" (bundle loop_text)) 26 0 0
    ∷ reads (put 129 "FP" (bundle loop_text)) 26 0 0
    ∷ reads (put 154 "LP" (bundle loop_text)) 0 0 1
    ∷ reads (put 154 "NO" (bundle loop_text)) 26 0 0
    ∷ reads (put 154 "LA" (bundle loop_text)) 26 0 0
    ∷ []

-- what is right after a reading: answer, place and number, and a room that stays behind the parts
abbrev rightly : Reading → Bool
rightly r =
    eqb (read_parts r.text (replicate r.room lent)).said.answer r.answer
    && (eqb (read_parts r.text (replicate r.room lent)).said.place r.place
    && (eqb (read_parts r.text (replicate r.room lent)).said.parts r.parts
    && same (drop (r.parts * part_width) (read_parts r.text (replicate r.room lent)).room) (drop (r.parts * part_width) (replicate r.room lent))))

-- the number, from n on, of the first reading that is wrong; 0 where none is
unfoldable pub first_misread : ℕ → List Reading → ℕ
first_misread n [] = 0
first_misread n (r ∷ rs) = pick (rightly r) (first_misread (suc n) rs) n

-- the rooms after both wholesalers' bundles: the book, the digital part, and what stood behind them
unfoldable pub bundle_room : List ℕ
bundle_room = room_of (printed ∷ digital ∷ []) ++ replicate (6 * part_width) lent

-- a call of writing with parts, and the answer, place and text that it must give (no text on a refusal)
pub record Writing : Type 0 where
  pub fixed : List ℕ
  pub table : List ℕ
  pub count : ℕ
  pub contents : List ℕ
  pub room : List ℕ
  pub parts : ℕ
  pub out : ℕ
  pub answer : ℕ
  pub place : ℕ
  pub text : List ℕ

-- contents and entries of a table
abbrev K : List ℕ
K = bytes "KIENZLER157600NOEUR"

abbrev entry : ℕ → ℕ → ℕ → List ℕ
entry id place width = id ∷ place ∷ width ∷ []

abbrev writes : List ℕ → List ℕ → ℕ → List ℕ → ℕ → ℕ → ℕ → ℕ → List ℕ → Writing
writes f t c r n o a p s = record { fixed = f; table = t; count = c; contents = K; room = r; parts = n; out = o; answer = a; place = p; text = s }

abbrev refused : List ℕ → List ℕ → ℕ → List ℕ → ℕ → ℕ → ℕ → ℕ → Writing
refused f t c r n o a p = writes f t c r n o a p []

-- a bundle of one field and the given parts, refused
abbrev wrong : List ℕ → ℕ → ℕ → ℕ → Writing
wrong r n a p = refused fixed_bundle (entry 1003 0 8) 1 r n 1024 a p

abbrev two : List ℕ
two = room_of (printed ∷ digital ∷ [])

-- the part of `loop_text`
abbrev small : Part
small = record {
  tax = 48;
  medium = Digital;
  net = price 500 5 "NO";
  list = record { amount = record { 0 = 10000 }; digits = 5; qualifier = bytes "FP"; currency = bytes "CHF" };
  article = record { length = 1; bytes = fitted article_width (bytes "A"); qualifier = bytes "EN" };
}

-- a part with the longest of all its fields: 131 bytes
abbrev long : List ℕ
long =
    room_of (
    record {
      tax = 49;
      medium = Physical;
      net = price 999999999999999 15 "NO";
      list = price 1 15 "LP";
      article = record { length = 35; bytes = replicate article_width 65; qualifier = bytes "VB" };
    }
    ∷ [])

unfoldable pub writings : List Writing
writings =
    writes fixed001 (entry 1003 0 8 ++ (entry 1029 8 6 ++ (entry 1030 14 2 ++ entry 1032 16 3))) 4 two 2 500 0 0 bundle001
    ∷ writes (take 108 Y) [] 0 [] 0 113 0 0 Y  -- no bundle and no parts
    ∷ writes (take 67 X) (entry 1019 8 1) 1 [] 0 100 0 0 (take 67 X ++ bytes "*10191*9999")
    ∷ writes fixed_bundle [] 0 (room_of (small ∷ [])) 1 1024 0 0 (bundle loop_text)
    ∷ writes fixed_bundle [] 0 (times 8 (room_of (small ∷ []))) 8 1024 0 0 (bundle (times 8 loop_text))
    ∷ writes fixed_bundle [] 0 (set (room_of (small ∷ [])) 65 255) 1 1024 0 0 (bundle loop_text)  -- behind the article's length anything may stand
    -- 27 first, then 23 for the room, then 26
    ∷ refused fixed_bundle [] 0 (times 9 (room_of (small ∷ []))) 9 1024 27 0
    ∷ refused (take 67 X) [] 0 [] 9 0 27 0
    ∷ refused (take 67 X) [] 0 (replicate 67 lent) 1 0 23 0
    ∷ wrong (take 135 two) 2 23 0
    -- 26: parts without mark 6, mark 6 without parts
    ∷ refused (take 108 Y) [] 0 two 1 1024 26 0
    ∷ refused (take 67 X) [] 0 two 1 1024 26 0
    ∷ refused (put 0 "T101" fixed_bundle) [] 0 two 1 1024 26 0
    ∷ refused [] [] 0 two 1 1024 26 0
    ∷ refused fixed_bundle [] 0 two 0 1024 26 0
    -- 1019 in the table, of the entries that are there
    ∷ refused fixed_bundle (entry 1003 0 8 ++ entry 1019 8 1) 2 two 1 1024 26 0
    ∷ refused fixed_bundle (entry 1003 0 8 ++ entry 1019 8 1) 97 two 1 1024 26 0
    ∷ refused fixed_bundle (entry 1003 0 8 ++ (1019 ∷ 8 ∷ [])) 2 two 1 1024 23 0
    ∷ refused fixed_bundle (entry 1003 0 8 ++ entry 1019 8 1) 1 two 1 0 23 0
    -- the qualifiers of the prices
    ∷ wrong (set two 11 76) 2 26 0
    ∷ wrong (set two 26 65) 2 26 0
    ∷ wrong (set two (68 + 12) 80) 2 26 0
    ∷ wrong (set (set two 25 70) 0 51) 2 9 1  -- FP is fine
    -- 26 before 5, 5 before 8, 8 before 23
    ∷ refused (put 28 "20230229" fixed_bundle) [] 0 [] 0 1024 26 0
    ∷ refused (put 28 "20230229" fixed_bundle) [] 97 two 1 1024 5 5
    ∷ refused (put 28 "00000000" fixed_bundle) [] 0 two 1 1024 5 6
    ∷ refused (fixed_bundle ++ bytes "*") [] 0 two 1 1024 5 0
    ∷ refused fixed_bundle [] 17 (times 8 (room_of (small ∷ []))) 8 0 8 96
    ∷ refused fixed_bundle [] 16 (times 8 (room_of (small ∷ []))) 8 0 23 0
    ∷ writes fixed_bundle (times 16 (entry 8888 0 0)) 16 (times 8 (room_of (small ∷ []))) 8 1024 0 0 (bundle (times 16 (bytes "*8888") ++ times 8 loop_text))
    ∷ refused fixed_bundle [] (2 ^ 64) two 2 0 8 96
    -- 9 and 10 at the table's fields, then 9 at each field of the parts
    ∷ refused fixed_bundle (entry 1003 0 20) 1 (set two 0 51) 2 1024 9 0
    ∷ refused fixed_bundle (entry 1003 0 8 ++ entry 1017 0 8) 2 (set two 0 51) 2 1024 10 1
    ∷ wrong (set two 0 51) 2 9 1  -- tax mark 3
    ∷ wrong (set two 10 5) 2 9 2  -- an amount of six digits in five
    ∷ wrong (set two 10 4) 2 9 2
    ∷ wrong (set two 10 16) 2 9 2
    ∷ wrong (set two 10 0) 2 9 2
    ∷ wrong (set two 9 1) 2 9 2  -- an amount above fifteen digits
    ∷ wrong (set two 13 101) 2 9 4  -- a currency with a small letter
    ∷ wrong (set two 24 5) 2 9 5
    ∷ wrong (set two 29 10) 2 9 7
    ∷ wrong (set two 30 0) 2 9 8  -- no article, one too long, a star in it, a byte that is not allowed
    ∷ wrong (set two 30 36) 2 9 8
    ∷ wrong (set two 30 255) 2 9 8
    ∷ wrong (set two 31 42) 2 9 8
    ∷ wrong (set two 31 129) 2 9 8
    ∷ wrong (set two 66 49) 2 9 9
    ∷ wrong (set two 1 0) 2 9 10  -- media that are none
    ∷ wrong (set two 1 3) 2 9 10
    ∷ wrong (set two 68 51) 2 9 11
    ∷ wrong (set two 69 255) 2 9 20
    ∷ wrong (set (set two 69 255) 1 0) 2 9 10
    -- 1, then 23 for the output
    ∷ writes fixed_bundle [] 0 (times 6 long) 6 899 0 0 (bundle (times 6 (bytes "*10191*1029999999999999999*1030NO*1032EUR*1029000000000000001*1030LP*1032EUR*1101" ++ (replicate 35 65 ++ bytes "*1102VB*1151PHY"))))
    ∷ refused fixed_bundle [] 0 (times 6 long) 6 898 23 0
    ∷ refused fixed_bundle [] 0 (times 7 long) 7 0 1 0
    ∷ []

-- what is right after a writing: the answer, the place, the length, and the whole output
abbrev right : Writing → Bool
right c =
    eqb (write_parts c.fixed c.table c.count c.contents c.room c.parts (replicate c.out lent)).said.answer c.answer
    && (eqb (write_parts c.fixed c.table c.count c.contents c.room c.parts (replicate c.out lent)).said.place c.place
    && (eqb (write_parts c.fixed c.table c.count c.contents c.room c.parts (replicate c.out lent)).said.length (length c.text)
    && same (write_parts c.fixed c.table c.count c.contents c.room c.parts (replicate c.out lent)).out (c.text ++ drop (length c.text) (replicate c.out lent))))

-- the number, from n on, of the first writing that is wrong; 0 where none is
unfoldable pub first_miswritten : ℕ → List Writing → ℕ
first_miswritten n [] = 0
first_miswritten n (c ∷ cs) = pick (right c) (first_miswritten (suc n) cs) n
