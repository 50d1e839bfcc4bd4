-- Cases of articles: whether a record named its line's article, and that no answer and no figure hangs on it (RULES 6.1, 7.2).
use Rattle.std.specs.Prelude.{ℕ, suc, ◌&&◌, List, [], ◌∷◌, map, eqb, None, Option, Some}
use Prim.Native.String.{String}
use Rattle.std.proofs.lemmas.List.Edits.{sets}
use Rattle.cells.specs.Bytes.{pick, bytes}
use Rattle.record.specs.Samples.{X, Y, Z, put}
use Rattle.record.specs.Layout.{kind_of}
use Rattle.record.specs.declared.layout.Kind.TheVariants.{Order, Goods, Closing, Report}
use Rattle.entry.specs.Stored.{key_width}
use Rattle.book.specs.Lent.{Lent}
use Rattle.book.specs.Booking.{lent_after, book}
use Rattle.book.specs.Cases.{roomy, schools, with_x, with_both, sample}
use Rattle.record.specs.declared.layout.Kind.{Kind}

-- a record given to a lent book, with its answer and whether the articles agreed
pub record Naming : Type 0 where
  pub given : List ℕ
  pub lent : Lent
  pub answer : ℕ
  pub agreed : ℕ

abbrev pub naming : List ℕ → Lent → ℕ → ℕ → Naming
naming s b answer agreed = record { given = s; lent = b; answer = answer; agreed = agreed }

-- an order, a delivery and a report that name an article, given with its qualifier
abbrev pub ordering : String → List ℕ
ordering article = put 46 article X

abbrev pub delivering : String → List ℕ
delivering article = put 60 article Y

abbrev pub reporting : String → List ℕ
reporting article = put 48 article Z

-- for X's article, 9783442756841EN: another number with its qualifier; its number with another qualifier; and a number of the supplier's own
abbrev pub other_number : String
other_number = "9783442756858EN"

abbrev pub other_qualifier : String
other_qualifier = "9783442756841UM"

abbrev pub own_number : String
own_number = "12345678     KN"

-- the book after X, and after X and Y, with room for one slip more
abbrev pub line : Lent
line = with_x 1 2

abbrev pub slip : Lent
slip = with_both 1 2

-- the book after X and Y, where Y came under the supplier's own number
abbrev pub own_slip : Lent
own_slip = lent_after Goods (delivering own_number) line 0

-- the book with two lines of X's key, the first under the supplier's own number; no booking makes it
abbrev pub twice : Lent
twice =
    record {
      lines = sets (lent_after Order X (lent_after Order X (roomy 2 1) 0) 1).lines key_width (bytes own_number);
      slips = (roomy 2 1).slips;
      used = 2 ∷ 0 ∷ [];
    }

-- a delivery at another position, which no slip has
abbrev pub later : List ℕ → List ℕ
later s = put 46 "0002" s

unfoldable pub namings : List Naming
namings =
    naming X (roomy 1 1) 0 1  -- an order agrees with itself
    ∷ naming (ordering own_number) (roomy 1 1) 0 1
    ∷ naming Y line 0 1  -- the article that was ordered
    ∷ naming Z line 0 1
    ∷ naming (delivering other_number) line 0 0  -- another number, the same qualifier
    ∷ naming (reporting other_number) line 0 0
    ∷ naming (delivering other_qualifier) line 0 0  -- the same number, another qualifier
    ∷ naming (reporting other_qualifier) line 0 0
    ∷ naming (delivering own_number) line 0 0  -- both are others
    ∷ naming (reporting own_number) line 0 0
    ∷ naming (ordering other_number) line 14 0  -- one reference is one line, whatever the article
    ∷ naming (ordering other_qualifier) line 14 0
    ∷ naming X line 14 0
    ∷ naming Y slip 17 0  -- a slip that comes again, under its own article and under others
    ∷ naming (delivering other_number) slip 17 0
    ∷ naming (delivering other_qualifier) slip 17 0
    ∷ naming Y own_slip 17 0
    ∷ naming (put 75 "0005" (delivering own_number)) slip 18 0  -- it says something else by its quantity or its reference
    ∷ naming (put 50 "A-18      " (delivering own_number)) slip 18 0
    ∷ naming (later Y) own_slip 0 1  -- the line keeps the article of its order
    ∷ naming (later (delivering own_number)) own_slip 0 0
    ∷ naming (reporting own_number) own_slip 0 0
    ∷ naming Y twice 0 0  -- of two lines with one key the first is told of
    ∷ naming (delivering own_number) twice 0 1
    ∷ naming (reporting own_number) twice 0 1
    ∷ naming Y (roomy 1 1) 16 0  -- refusals tell 0
    ∷ naming (put 38 "A-18      " Z) line 16 0
    ∷ naming [] line 2 0
    ∷ []

-- the number, from n on, of the first that is not as it should be; 0 where all are
unfoldable pub first_wrong : ℕ → List Naming → ℕ
first_wrong n [] = 0
first_wrong n (t ∷ ts) =
    pick (eqb (book t.given schools t.lent).said.answer t.answer && eqb (book t.given schools t.lent).said.agreed t.agreed)
    (first_wrong (suc n) ts)
    n

-- a delivery or a report under the supplier's own number
abbrev under_own : Option Kind → List ℕ → List ℕ
under_own (Some Order) s = s
under_own (Some Goods) s = put 60 own_number s
under_own (Some Closing) s = s
under_own (Some Report) s = put 48 own_number s
under_own None s = s

-- the desk's eight records, all that came back under the supplier's own number: they are answered as in RULES 12
unfoldable pub own_sample : List (List ℕ)
own_sample = map (λ (s : List ℕ). under_own (kind_of s) s) sample
