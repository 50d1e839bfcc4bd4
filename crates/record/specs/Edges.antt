-- Cases at the edges of each rule, each answer number and each place, with what reading must say of them.
use Rattle.std.specs.Prelude.{ℕ, zero, suc, List, [], ◌∷◌, ◌++◌, map, take, replicate, set}
use Prim.Native.String.{String}
use Rattle.cells.specs.Bytes.{bytes}
use Rattle.rules.specs.Cases.{refused_bytes, taken_bytes}
use Rattle.record.specs.Samples.{X, Y, Z, put, with, with_bytes, Row, row, reads}

-- n times the same bytes
abbrev pub times : ℕ → List ℕ → List ℕ
times zero s = []
times (suc n) s = s ++ times n s

-- a text of n bytes A, of n digits
abbrev letters : ℕ → List ℕ
letters n = replicate n 65

abbrev digits : ℕ → List ℕ
digits n = replicate n 49

-- an ID as it is written, and its content
abbrev field : String → List ℕ → List ℕ
field id content = with_bytes (bytes id ++ content) X

-- a closing record (RULES 2.2)
abbrev pub C : List ℕ
C = bytes "L10114914     VD43210     VD00000000                                       0000000000000000000     00000000 *90070004*9999"

-- 1 to 4
unfoldable pub record_edges : List Row
record_edges =
    row reads (with_bytes (bytes "*8888" ++ letters 947) X) 0 0  -- 1,024 bytes
    ∷ row reads (with_bytes (bytes "*8888" ++ letters 948) X) 1 1024  -- 1,025 bytes
    ∷ row reads (letters 1025) 1 1024  -- whatever the kind
    ∷ row reads (letters 1024) 2 0
    ∷ row reads (bytes "B10") 2 0
    ∷ row reads (put 0 "T101" X) 2 0
    ∷ row reads (put 0 "b101" X) 2 0
    ∷ row reads (bytes "B101") 3 4
    ∷ row reads (bytes "L101") 3 4
    ∷ row reads (take 112 Y) 3 112
    ∷ row reads Y 0 0
    ∷ row reads (take 83 Z) 3 83
    ∷ row reads Z 0 0
    ∷ row reads (take 112 C) 3 112
    ∷ row reads C 0 0
    ∷ row reads (set X 36 31) 4 36
    ∷ row reads (set X 36 126) 0 0
    ∷ row reads (set X 36 160) 0 0
    ∷ row reads (set X 36 255) 0 0
    ∷ row reads (X ++ (13 ∷ 10 ∷ [])) 4 72  -- a line end left on
    ∷ row reads (set (put 28 "20230229" X) 70 9) 4 70  -- 4 looks at the whole record before 5
    ∷ []

-- an order with a byte behind its short title
abbrev title_with : ℕ → List ℕ
title_with b = with_bytes (bytes "*1017Title" ++ (b ∷ bytes "*1018KL")) X

-- a record with each byte at the ends of what is allowed: 4 at its place, or it reads well
abbrev at_ends : ℕ → (ℕ → List ℕ) → List Row
at_ends place s = map (λ b. row reads (s b) 4 place) refused_bytes ++ map (λ b. row reads (s b) 0 0) taken_bytes

-- in a reference, in an optional content and in a slip number
unfoldable pub byte_edges : List Row
byte_edges = at_ends 37 (set X 37) ++ (at_ends 77 title_with ++ at_ends 37 (set Y 37))

-- 5 in what all records have, and in an order
unfoldable pub order_edges : List Row
order_edges =
    row reads (put 4 "          " X) 5 4
    ∷ row reads (put 4 "A123456789" X) 0 0  -- an address may fill all ten bytes
    ∷ row reads (put 4 "43 210    " X) 5 4
    ∷ row reads (put 4 " 43210    " X) 5 4
    ∷ row reads (put 4 "4321a     " X) 5 4
    ∷ row reads (put 4 "4321*     " X) 5 4  -- a star may not stand in an address
    ∷ row reads (put 14 "IB" X) 0 0
    ∷ row reads (put 14 "SA" X) 0 0
    ∷ row reads (put 14 "XX" X) 5 14
    ∷ row reads (put 14 "  " X) 5 14
    ∷ row reads (put 16 "-         " X) 5 16
    ∷ row reads (put 26 "vd" X) 5 26
    ∷ row reads (put 28 "19000229" X) 5 28
    ∷ row reads (put 28 "19000228" X) 0 0
    ∷ row reads (put 28 "20000229" X) 0 0
    ∷ row reads (put 28 "20230228" X) 0 0
    ∷ row reads (put 28 "20240230" X) 5 28
    ∷ row reads (put 28 "00000101" X) 5 28
    ∷ row reads (put 28 "00010101" X) 0 0
    ∷ row reads (put 28 "99991231" X) 0 0
    ∷ row reads (put 28 "20240001" X) 5 28
    ∷ row reads (put 28 "20241301" X) 5 28
    ∷ row reads (put 28 "20240100" X) 5 28
    ∷ row reads (put 28 "20240132" X) 5 28
    ∷ row reads (put 28 "20240431" X) 5 28
    ∷ row reads (put 28 "00000000" X) 5 28
    ∷ row reads (put 28 "2024 101" X) 5 28
    ∷ row reads (put 36 "          " X) 0 0
    ∷ row reads (put 36 " A-17     " X) 5 36
    ∷ row reads (put 36 "         A" X) 5 36
    ∷ row reads (put 36 "A*" X) 5 36
    ∷ row reads (put 36 "A+" X) 5 36
    ∷ row reads (put 36 "A:" X) 5 36
    ∷ row reads (put 36 "A?" X) 5 36
    ∷ row reads (put 36 "A'" X) 5 36
    ∷ row reads (put 36 "A-1,7.0;=&" X) 0 0
    ∷ row reads (put 46 "344275684X   IB" X) 5 46
    ∷ row reads (put 46 "0306406152   IB" X) 0 0
    ∷ row reads (put 46 "080442957X   IB" X) 0 0
    ∷ row reads (put 46 "080442957x   IB" X) 5 46
    ∷ row reads (put 46 "08044X957X   IB" X) 5 46
    ∷ row reads (put 46 "0306406152  1IB" X) 5 46
    ∷ row reads (put 46 "123456       KN" X) 5 46
    ∷ row reads (put 46 "1234567      KN" X) 0 0
    ∷ row reads (put 46 "12345678     KN" X) 0 0
    ∷ row reads (put 46 "123456789    KN" X) 5 46
    ∷ row reads (put 46 "1234567 8    KN" X) 5 46
    ∷ row reads (put 46 "             UM" X) 5 46
    ∷ row reads (put 46 "1            UM" X) 0 0
    ∷ row reads (put 46 "1234567890123UM" X) 0 0
    ∷ row reads (put 46 " 1           UM" X) 5 46
    ∷ row reads (put 46 "641     00072RK" X) 0 0
    ∷ row reads (put 46 "64      00072RK" X) 5 46
    ∷ row reads (put 46 "641    100072RK" X) 5 46
    ∷ row reads (put 46 "641     0007 RK" X) 5 46
    ∷ row reads (put 46 "97834427568 1EN" X) 5 46
    ∷ row reads (put 46 "641  *  00072RK" X) 5 46  -- nor in an article
    ∷ row reads (put 46 "whatever     XX" X) 5 59  -- an unknown qualifier breaks its own rule
    ∷ row reads (put 46 "               " X) 5 59
    ∷ row reads (put 61 "0000" X) 0 0
    ∷ row reads (put 61 "9999" X) 0 0
    ∷ row reads (put 61 " 999" X) 5 61
    ∷ row reads (put 65 "NP" X) 0 0
    ∷ row reads (put 65 "XX" X) 5 65
    ∷ row reads (put 65 "XX" (put 28 "20230229" X)) 5 28  -- the first field that breaks its rule
    ∷ []

-- 5 in deliveries and reports
unfoldable pub delivery_edges : List Row
delivery_edges =
    row reads (put 28 "20230229" Y) 5 28  -- neither zeros nor a real day
    ∷ row reads (put 28 "0000000 " Y) 5 28
    ∷ row reads (put 28 "00000000" Y) 5 36  -- dated zeros: a closing record and nothing else
    ∷ row reads (put 36 "          " Y) 0 0  -- an advance notice
    ∷ row reads (put 36 " 0012345  " Y) 5 36
    ∷ row reads (put 36 "*+:?'     " Y) 0 0  -- a star may stand in an L101's slip number
    ∷ row reads (put 46 "001 " Y) 5 46
    ∷ row reads (put 50 "          " Y) 0 0
    ∷ row reads (put 50 "A*17      " Y) 0 0  -- and in its reference
    ∷ row reads (put 50 " A-17     " Y) 5 50
    ∷ row reads (put 60 "9783442756842" Y) 5 60
    ∷ row reads (put 73 "XX" Y) 5 73
    ∷ row reads (put 75 "0000" Y) 0 0
    ∷ row reads (put 75 "00 0" Y) 5 75
    ∷ row reads (put 79 "999999999999999" Y) 0 0
    ∷ row reads (put 79 "00000000012950 " Y) 5 79
    ∷ row reads (put 94 "Lp" Y) 5 94
    ∷ row reads (put 96 "EU1" Y) 5 96
    ∷ row reads (put 99 "99999999" Y) 0 0  -- a discount over 100 percent reads fine
    ∷ row reads (put 99 "0030000-" Y) 5 99
    ∷ row reads (put 107 "0" Y) 0 0
    ∷ row reads (put 107 "2" Y) 0 0
    ∷ row reads (put 107 "3" Y) 5 107
    ∷ row reads (put 107 "6" Y) 0 0
    ∷ row reads (put 107 " " Y) 5 107
    ∷ row reads (put 36 "7" C) 5 36
    ∷ row reads (put 46 "0001" C) 5 46
    ∷ row reads (put 50 "A" C) 5 50
    ∷ row reads (put 60 "1" C) 5 60
    ∷ row reads (put 73 "KN" C) 5 73
    ∷ row reads (put 75 "0001" C) 5 75
    ∷ row reads (put 79 "000000000000001" C) 5 79
    ∷ row reads (put 94 "LP" C) 5 94
    ∷ row reads (put 96 "EUR" C) 5 96
    ∷ row reads (put 99 "00000001" C) 5 99
    ∷ row reads (put 107 "0" C) 5 107
    ∷ row reads (put 28 "*" Z) 0 0  -- a star may stand in an M101's slip number
    ∷ row reads (put 28 "          " Z) 0 0
    ∷ row reads (put 28 " 1        " Z) 5 28
    ∷ row reads (put 38 "*         " Z) 0 0
    ∷ row reads (put 38 " A        " Z) 5 38
    ∷ row reads (put 60 "2" Z) 5 48
    ∷ row reads (put 61 "XX" Z) 5 61
    ∷ row reads (put 63 "000" Z) 0 0
    ∷ row reads (put 63 "01 " Z) 5 63
    ∷ row reads (put 66 "J" Z) 0 0
    ∷ row reads (put 66 "X" Z) 5 66
    ∷ row reads (put 67 "00000000" Z) 0 0
    ∷ row reads (put 67 "20240229" Z) 0 0
    ∷ row reads (put 67 "20230229" Z) 5 67
    ∷ row reads (put 67 "0000000 " Z) 5 67
    ∷ row reads (put 75 "0001" Z) 5 75
    ∷ []

-- 6 to 8
unfoldable pub walk_edges : List Row
walk_edges =
    row reads (put 67 "A" X) 6 67  -- a star expected
    ∷ row reads (put 67 "*999A" X) 6 67
    ∷ row reads (take 67 X ++ bytes "*88888*999") 6 73  -- three digits at the end
    ∷ row reads (take 67 X ++ bytes "*88888*") 6 73
    ∷ row reads (with "*8888**8888" X) 6 72  -- two stars
    ∷ row reads (put 67 "*8888" X) 7 72  -- *9999 absent: the length
    ∷ row reads (X ++ bytes " ") 7 67  -- not last: its star
    ∷ row reads (X ++ bytes "*9999") 7 67
    ∷ row reads (with "*99991" X) 7 67
    ∷ row reads (with "*80019999" X) 0 0  -- 9999 inside a content
    ∷ row reads (with "*800199999999" X) 0 0
    ∷ row reads (take 67 X ++ bytes "*80019999") 7 76
    ∷ row reads (with "*0000" X) 0 0  -- an ID like any other
    ∷ row reads (with_bytes (times 96 (bytes "*9007123")) X) 0 0
    ∷ row reads (with_bytes (times 97 (bytes "*9007123")) X) 8 835
    ∷ row reads (with_bytes (times 97 (bytes "*9007123") ++ bytes "*12") X) 8 835  -- whatever follows
    ∷ row reads (with_bytes (times 96 (bytes "*9007123") ++ bytes "*12") X) 6 835
    ∷ row reads (with_bytes (times 96 (bytes "*9007123")) X ++ bytes "1") 7 835
    ∷ []

-- what stands in the table after a check: a record with two fields and a table with room for 96 and one number more; the same table, one number too short
unfoldable pub titled : List ℕ
titled = with "*1017Title*1018KL" X

unfoldable pub full_table : List ℕ
full_table = replicate 289 7

unfoldable pub short_table : List ℕ
short_table = replicate 287 7

-- 9 at each listed content
unfoldable pub content_edges : List Row
content_edges =
    row reads (field "*1001" (letters 0)) 9 67
    ∷ row reads (field "*1001" (letters 1)) 0 0
    ∷ row reads (field "*1001" (letters 35)) 0 0
    ∷ row reads (field "*1001" (letters 36)) 9 67
    ∷ row reads (field "*1003" (letters 35)) 0 0
    ∷ row reads (field "*1003" (letters 36)) 9 67
    ∷ row reads (with "*1005NL" X) 0 0
    ∷ row reads (with "*1005N" X) 9 67
    ∷ row reads (with "*1005NLX" X) 9 67
    ∷ row reads (with "*1005n1" X) 9 67
    ∷ row reads (with "*1007AC" X) 0 0
    ∷ row reads (with "*1007A1" X) 9 67
    ∷ row reads (with "*1013BG" X) 0 0
    ∷ row reads (with "*1013B" X) 9 67
    ∷ row reads (with "*1009BP " X) 0 0
    ∷ row reads (with "*1009BP" X) 9 67
    ∷ row reads (with "*1009BPEX" X) 9 67
    ∷ row reads (with_bytes (bytes "*1017" ++ (letters 39 ++ bytes "*1018KL")) X) 0 0
    ∷ row reads (with_bytes (bytes "*1017" ++ (letters 40 ++ bytes "*1018KL")) X) 9 67
    ∷ row reads (with "*1017*1018KL" X) 9 67
    ∷ row reads (with "*1017A*1018K1" X) 9 73
    ∷ row reads (field "*9010" (letters 40)) 0 0
    ∷ row reads (field "*9010" (letters 41)) 9 67
    ∷ row reads (field "*9010" (letters 0)) 9 67
    ∷ row reads (with "*10190*10191*10192" X) 0 0
    ∷ row reads (with "*10193" X) 9 67
    ∷ row reads (with "*101911" X) 9 67
    ∷ row reads (with "*1021J*1045N" X) 0 0
    ∷ row reads (with "*1021U" X) 9 67
    ∷ row reads (with "*1045" X) 9 67
    ∷ row reads (field "*1025" (digits 4)) 9 67
    ∷ row reads (field "*1025" (digits 5)) 0 0
    ∷ row reads (field "*1025" (digits 8)) 0 0
    ∷ row reads (field "*1025" (digits 9)) 9 67
    ∷ row reads (field "*1029" (digits 4)) 9 67
    ∷ row reads (field "*1029" (digits 5 ++ bytes "*1030NO*1032EUR")) 0 0
    ∷ row reads (field "*1029" (digits 15 ++ bytes "*1030NO*1032EUR")) 0 0
    ∷ row reads (field "*1029" (digits 16)) 9 67
    ∷ row reads (with "*102990300*1030N0*1032EUR" X) 9 77
    ∷ row reads (with "*102990300*1030NO*1032EU" X) 9 84
    ∷ row reads (with "*1047J*9003J*9003U" X) 0 0
    ∷ row reads (with "*1047N" X) 9 67
    ∷ row reads (with "*9003N" X) 9 67
    ∷ row reads (field "*1051" (letters 5)) 0 0
    ∷ row reads (field "*1051" (letters 6)) 9 67
    ∷ row reads (with "*1101A*1102VB" X) 0 0
    ∷ row reads (field "*1101" (letters 36)) 9 67
    ∷ row reads (with "*11070003*1108ST" X) 0 0
    ∷ row reads (with "*110710003*1108ST" X) 9 67
    ∷ row reads (with "*1107*1108ST" X) 9 67
    ∷ row reads (with "*1113ABCDE*1114WB" X) 0 0
    ∷ row reads (with "*1113ABCDEF*1114WB" X) 9 67
    ∷ row reads (with "*11150117765AB1*1116SA" X) 0 0
    ∷ row reads (with "*11150117765ABCD*1116SA" X) 9 67
    ∷ row reads (field "*1129" (digits 6)) 0 0
    ∷ row reads (field "*1129" (digits 7)) 9 67
    ∷ row reads (with "*1129" X) 9 67
    ∷ row reads (with "*1131GEB" X) 0 0
    ∷ row reads (with "*1131GEBX" X) 9 67
    ∷ row reads (with "*1151PHY*1151DIG" X) 0 0
    ∷ row reads (with "*1151PHD" X) 9 67
    ∷ row reads (with "*120120240229*1202LD" X) 0 0
    ∷ row reads (with "*120120230229*1202LD" X) 9 67
    ∷ row reads (with "*120100000000*1202LD" X) 9 67  -- a real day only
    ∷ row reads (with "*12031*1204ZI*1203360*1204RR*1203001*1204VA" X) 0 0
    ∷ row reads (with "*12030*1204ZI" X) 9 67
    ∷ row reads (with "*1203361*1204ZI" X) 9 67
    ∷ row reads (with "*12030360*1204ZI" X) 9 67
    ∷ row reads (with "*1203*1204ZI" X) 9 67
    ∷ row reads (with "*9001O" X) 0 0
    ∷ row reads (with "*9001OO" X) 9 67
    ∷ row reads (with "*90070004" X) 0 0
    ∷ row reads (with "*900700004" X) 9 67
    ∷ row reads (field "*9011" (digits 14)) 0 0
    ∷ row reads (field "*9011" (digits 15)) 9 67
    ∷ row reads (field "*9012" (digits 13)) 0 0
    ∷ row reads (field "*9012" (digits 12)) 9 67
    ∷ row reads (field "*9012" (digits 14)) 9 67
    ∷ row reads (field "*9016" (digits 4)) 0 0
    ∷ row reads (field "*9016" (digits 5)) 9 67
    ∷ row reads (with "*90901" X) 0 0  -- ID 9090 with content 1
    ∷ row reads (with "*1001A:B" X) 9 67  -- barred in a B101
    ∷ row reads (with "*1003A+B" X) 9 67
    ∷ row reads (with "*1051A?" X) 9 67
    ∷ row reads (with "*9010A'B" X) 9 67
    ∷ row reads (with "*1017A+:?'*1018KL" X) 0 0  -- not in these fields
    ∷ row reads (with "*1001A:B*1003A+B*1051A?*9010A'B" Y) 0 0  -- nor in an L101
    ∷ row reads (with "*1001A:B*1003A+B*1051A?*9010A'B" Z) 0 0  -- nor in an M101
    ∷ []

-- 10, and 9 against 10
unfoldable pub group_edges : List Row
group_edges =
    row reads (with "*1017A" X) 10 67  -- the next member does not follow
    ∷ row reads (with "*1018KL" X) 10 67  -- the previous member does not stand before
    ∷ row reads (with "*1017A*8888*1018KL" X) 10 67
    ∷ row reads (with "*1017A*1018KL*1018KL" X) 10 80
    ∷ row reads (with "*1017A*1017A*1018KL" X) 10 67
    ∷ row reads (with "*1017A*1018KL*1017B*1018KL" X) 0 0  -- a repeated group is no fault
    ∷ row reads (with "*102990300*1030NO*1032EUR" X) 0 0
    ∷ row reads (with "*102990300*1030NO" X) 10 77
    ∷ row reads (with "*102990300*1032EUR" X) 10 67
    ∷ row reads (with "*1030NO*1032EUR" X) 10 67
    ∷ row reads (with "*1032EUR" X) 10 67
    ∷ row reads (with "*1101A" X) 10 67
    ∷ row reads (with "*1102VB" X) 10 67
    ∷ row reads (with "*11070003" X) 10 67
    ∷ row reads (with "*1108ST" X) 10 67
    ∷ row reads (with "*1113A" X) 10 67
    ∷ row reads (with "*1114WB" X) 10 67
    ∷ row reads (with "*1115A" X) 10 67
    ∷ row reads (with "*1116SA" X) 10 67
    ∷ row reads (with "*120120240229" X) 10 67
    ∷ row reads (with "*1202LD" X) 10 67
    ∷ row reads (with "*120340" X) 10 67
    ∷ row reads (with "*1204ZI" X) 10 67
    ∷ row reads (with "*1017A*1045X" X) 10 67  -- 10 at an earlier field beats 9 at a later one
    ∷ row reads (with "*1045X*1017A" X) 9 67
    ∷ row reads (with "*1017" X) 9 67  -- 9, then 10, at each field
    ∷ []
