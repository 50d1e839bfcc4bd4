-- Parts are read back from the entries that were stored for them.
use mathlib.Core.Path.{◌≡◌, ◌∙◌, ap, ap₂, sym, refl}
use mathlib.Core.Bool.{true}
use mathlib.Core.List.{List, [], ◌∷◌, ◌++◌, append_assoc}
use Prim.Native.Nat.{ℕ, ◌+◌, ◌*◌, ◌^◌, ◌≤◌, ◌<◌}
use native.Mathlib.Nat.{zero-add, add-zero, add_assoc}
use native.Mathlib.Omega.{arith}
use lib.ListN.{length, take, drop, get_or, length-append}
use lib.Seq.{slice, take_at, drop_at, drop-drop, get_or-drop, take-append-le}
use Rattle.cells.specs.Bytes.{joined}
use Rattle.cells.specs.Little.{le_at, le_bytes}
use Rattle.cells.proofs.Parts.{take_drop, slice_drop}
use Rattle.cells.proofs.Stores.{le_ext}
use Rattle.cells.proofs.Numbers.{le_back}
use Rattle.parts.specs.Part.{amount_width, article_width, qualifier_width, currency_width, fitted, medium_byte, price_width, price_bytes, part_width, part_bytes, room_of, medium_at, net_at, list_at, length_at, article_at, article_qualifier_at, digits_at, price_qualifier_at, currency_at, medium_in, is_medium, lent_price, lent_article, lent_part, lent_parts}
use Rattle.parts.specs.declared.part.Medium.{Medium}
use Rattle.parts.specs.declared.part.Medium.TheVariants.{Physical, Digital}
use Rattle.parts.specs.declared.part.PartPrice.{PartPrice}
use Rattle.parts.specs.declared.part.Part.{Part}
use Rattle.parts.proofs.Fits.{fitted_whole}
use Rattle.bundles.proofs.PartBack.{PriceShaped, Shaped}

-- a number at a place is that in front of what is left from there
le_drop : (s : List ℕ) (at w : ℕ) → le_at s at w ≡ le_at (drop at s) 0 w
le_drop s at w = le_ext s (drop at s) at 0 w (λ k h. sym (get_or-drop at s (0 + k) 0 ∙ ap (λ (n : ℕ). get_or s (at + n) 0) (zero-add k)))

-- so is a byte, and a part
byte_drop : (s : List ℕ) (at k : ℕ) → get_or s (at + k) 0 ≡ get_or (drop at s) k 0
byte_drop s at k = sym (get_or-drop at s k 0)

part_drop : (s : List ℕ) (at a b : ℕ) → slice (at + a) (at + b) s ≡ slice a b (drop at s)
part_drop s at a b = sym (slice_drop a b at s)

-- a part behind a front
behind : (xs p ys : List ℕ) (a w : ℕ) → length xs ≡ a → length p ≡ w → slice a (a + w) (xs ++ (p ++ ys)) ≡ p
behind xs p ys a w e f = sym (take_drop w a (xs ++ (p ++ ys))) ∙ ap (take w) (drop_at xs (p ++ ys) a e) ∙ take_at p ys w f

-- a price that stands at a place stands in front of what is left from there
price_drop : (s : List ℕ) (at : ℕ) → lent_price s at ≡ lent_price (drop at s) 0
unfolding lent_price
price_drop s at = rw (le_drop s at amount_width, byte_drop s at digits_at, part_drop s at price_qualifier_at currency_at, part_drop s at currency_at price_width)

-- a price as it is stored
module _ (p : PartPrice) (s : PriceShaped p) (small : p.amount.0 < 256 ^ amount_width) (rest : List ℕ) where
  stored : price_bytes p ++ rest ≡ le_bytes amount_width p.amount.0 ++ (p.digits ∷ (p.qualifier ++ (p.currency ++ rest)))
  unfolding price_bytes joined
  stored = simp append_assoc

  pub price_back : lent_price (price_bytes p ++ rest) 0 ≡ p
  unfolding lent_price le_bytes le_at
  price_back =
      let n = le_back amount_width p.amount.0 small in
      let q = ap (fitted qualifier_width) (take_at p.qualifier (p.currency ++ rest) qualifier_width s.qualifier) ∙ fitted_whole qualifier_width p.qualifier s.qualifier in
      let c = ap (fitted currency_width) (behind p.qualifier p.currency rest qualifier_width currency_width s.qualifier s.currency) ∙ fitted_whole currency_width p.currency s.currency in
      rw stored (λ i. record { amount = record { 0 = n i }; digits = p.digits; qualifier = q i; currency = c i })

price_length : (p : PartPrice) → PriceShaped p → length (price_bytes p) ≡ price_width
unfolding price_bytes joined le_bytes
price_length p s = simp (length-append, s.qualifier, s.currency)

-- what a part has to be to be stored: its amounts are numbers of eight bytes, and its article is as long as its length says
pub record Stored (p : Part) : Type 0 where
  pub shaped : Shaped p
  pub net : p.net.amount.0 < 256 ^ amount_width
  pub list : p.list.amount.0 < 256 ^ amount_width
  pub short : p.article.length ≤ article_width

-- the medium that a byte stands for is the one that it was stored for
medium_stored : (m : Medium) → medium_in (medium_byte m) ≡ m
unfolding medium_in medium_byte
medium_stored Physical = refl
medium_stored Digital = refl

pub medium_told : (m : Medium) → is_medium (medium_byte m) ≡ true
unfolding is_medium medium_byte
medium_told Physical = refl
medium_told Digital = refl

-- a part as it is stored, and what is left from each of its values on
module _ (p : Part) (s : Stored p) (rest : List ℕ) where
  abbrev left30 : List ℕ
  left30 = p.article.length ∷ (p.article.bytes ++ (p.article.qualifier ++ rest))

  abbrev left16 : List ℕ
  left16 = price_bytes p.list ++ left30

  abbrev whole : List ℕ
  whole = p.tax ∷ medium_byte p.medium ∷ (price_bytes p.net ++ left16)

  entry : part_bytes p ++ rest ≡ whole
  unfolding part_bytes joined
  entry = simp append_assoc

  at16 : drop list_at whole ≡ left16
  at16 = drop_at (price_bytes p.net) left16 price_width (price_length p.net s.shaped.net)

  at30 : drop length_at whole ≡ left30
  at30 = sym (drop-drop price_width list_at whole) ∙ ap (drop price_width) at16 ∙ drop_at (price_bytes p.list) left30 price_width (price_length p.list s.shaped.list)

  at31 : drop article_at whole ≡ p.article.bytes ++ (p.article.qualifier ++ rest)
  at31 = sym (drop-drop 1 length_at whole) ∙ ap (drop 1) at30

  at66 : drop article_qualifier_at whole ≡ p.article.qualifier ++ rest
  at66 = sym (drop-drop article_width article_at whole) ∙ ap (drop article_width) at31 ∙ drop_at p.article.bytes (p.article.qualifier ++ rest) article_width s.shaped.bytes

  -- its article
  article_back : lent_article whole 0 ≡ p.article
  unfolding lent_article
  article_back =
      let n : get_or whole length_at 0 ≡ p.article.length = byte_drop whole length_at 0 ∙ ap (λ (l : List ℕ). get_or l 0 0) at30 in
      let b : slice article_at (article_at + p.article.length) whole ≡ take p.article.length p.article.bytes =
      sym (take_drop p.article.length article_at whole) ∙ ap (take p.article.length) at31
      ∙ take-append-le p.article.length p.article.bytes (p.article.qualifier ++ rest) (omega (arith, s.short, s.shaped.bytes)) in
      let q : slice article_qualifier_at part_width whole ≡ p.article.qualifier =
      sym (take_drop qualifier_width article_qualifier_at whole) ∙ ap (take qualifier_width) at66 ∙ take_at p.article.qualifier rest qualifier_width s.shaped.qualifier in
      let bytes = ap (λ (m : ℕ). fitted article_width (slice article_at (article_at + m) whole)) n ∙ ap (fitted article_width) b ∙ s.shaped.zeros s.short in
      let qualifier = ap (fitted qualifier_width) q ∙ fitted_whole qualifier_width p.article.qualifier s.shaped.qualifier in
      λ i. record { length = n i; bytes = bytes i; qualifier = qualifier i }

  pub part_stored : lent_part (part_bytes p ++ rest) 0 ≡ p
  unfolding lent_part
  part_stored =
      let net = price_drop whole net_at ∙ price_back p.net s.shaped.net s.net left16 in
      let list = price_drop whole list_at ∙ ap (λ (l : List ℕ). lent_price l 0) at16 ∙ price_back p.list s.shaped.list s.list left30 in
      let m = medium_stored p.medium in
      rw entry (λ i. record { tax = p.tax; medium = m i; net = net i; list = list i; article = article_back i })

  pub medium_there : is_medium (get_or (part_bytes p ++ rest) medium_at 0) ≡ true
  medium_there = rw entry (medium_told p.medium)

  -- its entry is as long as it should be
  pub entry_length : length (part_bytes p) ≡ part_width
  unfolding part_bytes joined
  entry_length =
      simp (length-append, price_length p.net s.shaped.net, price_length p.list s.shaped.list, s.shaped.bytes, s.shaped.qualifier)

-- so each of the parts of a list
abbrev pub AllStored : List Part → Type 0
AllStored [] = Unit
AllStored (p ∷ ps) = Stored p × AllStored ps

-- a part at a place is that in front of what is left from there
price_from_law : (s : List ℕ) (at k : ℕ) → lent_price s (at + k) ≡ lent_price (drop at s) k
price_from_law s at k = price_drop s (at + k) ∙ ap (λ (l : List ℕ). lent_price l 0) (sym (drop-drop k at s)) ∙ sym (price_drop (drop at s) k)

article_from_law : (s : List ℕ) (at : ℕ) → lent_article s at ≡ lent_article (drop at s) 0
unfolding lent_article
article_from_law s at =
    rw (byte_drop s at length_at, add_assoc at article_at (get_or (drop at s) length_at 0), part_drop s at article_at (article_at + get_or (drop at s) length_at 0), part_drop s at article_qualifier_at part_width)

pub part_from : (s : List ℕ) (at : ℕ) → lent_part s at ≡ lent_part (drop at s) 0
unfolding lent_part
part_from s at =
    let tax = ap (λ (n : ℕ). get_or s n 0) (sym (add-zero at)) ∙ byte_drop s at 0 in
    let medium = ap medium_in (byte_drop s at medium_at) in
    let net = price_from_law s at net_at in
    let list = price_from_law s at list_at in
    let article = article_from_law s at in
    λ i. record { tax = tax i; medium = medium i; net = net i; list = list i; article = article i }

-- parts are read back from their entries, which stand at a place
pub parts_stored : (ps : List Part) (s : List ℕ) (at : ℕ) (rest : List ℕ) → AllStored ps → drop at s ≡ room_of ps ++ rest → lent_parts (length ps) s at ≡ ps
unfolding lent_parts room_of
parts_stored [] s at rest h e = refl
parts_stored (p ∷ ps) s at rest h e =
    let q = e ∙ append_assoc (part_bytes p) (room_of ps) rest in
    let first = part_from s at ∙ ap (λ (l : List ℕ). lent_part l 0) q ∙ part_stored p h.0 (room_of ps ++ rest) in
    let after = sym (drop-drop part_width at s) ∙ ap (drop part_width) q ∙ drop_at (part_bytes p) (room_of ps ++ rest) part_width (entry_length p h.0 rest) in
    ap₂ (λ (x : Part) (xs : List Part). x ∷ xs) first (parts_stored ps s (at + part_width) rest h.1 after)

-- entries take so many bytes each
pub room_length : (ps : List Part) → AllStored ps → length (room_of ps) ≡ length ps * part_width
unfolding room_of
room_length [] h = refl
room_length (p ∷ ps) h = length-append (part_bytes p) (room_of ps) ∙ rw (entry_length p h.0 [], room_length ps h.1) (omega arith)
