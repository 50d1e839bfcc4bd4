-- The roster that each record meets: its own entry, which is never in its way.
use mathlib.Core.Path.{◌≡◌, ◌∙◌, refl}
use mathlib.Core.Bool.{Bool, true, false, ◌&&◌}
use mathlib.Core.List.{List, [], ◌∷◌, ◌++◌, append-nil}
use Prim.Native.Nat.{ℕ, ◌+◌, ◌^◌, ◌≤◌, ◌<◌}
use native.Mathlib.Omega.{arith}
use borrow.Author.Tests.{ltb-false, lt-ltb, le-ltb, le-leb}
use lib.Dec.{ltb, leb, eqb}
use lib.ListN.{length, take, drop, length-append, length-take, length-drop, take-append-drop, replicate}
use lib.Seq.{sets}
use Rattle.cells.specs.Bytes.{pick, joined}
use Rattle.cells.specs.Little.{le_bytes}
use Rattle.cells.specs.Search.{first_from}
use Rattle.std.specs.Prelude.{Err, None, Ok, Option, Some}
use Rattle.cells.proofs.Bools.{split}
use Rattle.cells.proofs.Lists.{same_refl}
use Rattle.cells.proofs.Filled.{filled_whole, filled_first, filled_next, filled_end}
use Rattle.roster.specs.Roster.{entry_width, account_width, ceiling_width, highest_ceiling, entries, roster_sound, standing}
use Rattle.roster.specs.Schools.{is_of, is_account, find_school, ceiling_of, standing_among, standing_of, bytes_of_one, bytes_of}
use Rattle.roster.specs.declared.schools.School.{School}
use Rattle.roster.proofs.Agree.{standing_same}
use Rattle.rules.specs.declared.amount.Copies.{Copies}
use Rattle.record.specs.Layout.{layout, total, fixed_width, kind_of}
use Rattle.record.specs.Answers.{refusal_number}
use Rattle.record.specs.Read.{judged}
use Rattle.record.specs.declared.answer.Refusal.{Refusal}
use Rattle.record.specs.declared.answer.Refusal.TheVariants.{TooLong, UnknownKind, TooShort, Byte, FixedField, NoField, LastField, TooManyFields, Content, Group, SmallTable}
use Rattle.record.specs.Verdicts.{Verdict as Reading}
use Rattle.record.specs.declared.layout.Kind.{Kind}
use Rattle.record.specs.declared.layout.Kind.TheVariants.{Order, Goods, Closing, Report}
use Rattle.reader.proofs.Fitting.{Fitting, fitting}
use Rattle.entry.specs.Stored.{most_arrived, line_at, key_is, slip_line_at, slip_copies_at}
use Rattle.book.specs.Lent.{Lent, used_lines, used_slips, line_room, slip_room, sound, find_line, find_slip, open_copies}
use Rattle.book.specs.Booking.{refused_number, line_key, slip_key, school_in, copies_in, nothing_to_book, no_copies, no_reference, new_line_judged, order_judged, slip_judged, arrival_judged, goods_judged, delivery_judged, report_judged, book_judged, on_roster, fit_judged, refused_as, done_as, entered_as, settled, book_as, book_kind, book_read, book}
use Rattle.book.specs.Verdicts.{Verdict}
use Rattle.book.proofs.Fields.{order_copies}
use Rattle.book.proofs.Opens.{open_below}
use Rattle.naming.proofs.Named.{order_school_is, goods_school_is, report_school_is}
use Rattle.own.specs.Own.{parties_end, account_by, own_entry, own_roster, book_own, NeverInTheWay}

-- the account of a record that has its two parties has its length, so the roster that it meets has the right size
pub account_wide : (s : List ℕ) (k : Option Kind) → parties_end ≤ length s → length (account_by k s) ≡ account_width
unfolding account_by
account_wide s (Some Order) h = rw (length-drop, length-take) (omega arith)
account_wide s (Some Goods) h = rw (length-drop, length-take) (omega arith)
account_wide s (Some Closing) h = rw (length-drop, length-take) (omega arith)
account_wide s (Some Report) h = rw (length-drop, length-take) (omega arith)
account_wide s None h = rw (length-drop, length-take) (omega arith)

entry_wide : (s : List ℕ) → parties_end ≤ length s → length (own_entry s) ≡ entry_width
unfolding own_entry le_bytes
entry_wide s h = length-append (account_by (kind_of s) s) _ ∙ rw (account_wide s (kind_of s) h) refl

-- an array that account and ceiling fill is the entry
pub entry_filled : (s : List ℕ) → parties_end ≤ length s → sets (sets (replicate entry_width 0) 0 (account_by (kind_of s) s)) account_width (le_bytes ceiling_width highest_ceiling) ≡ own_entry s
unfolding joined own_entry le_bytes
entry_filled s h =
    let account : List ℕ = account_by (kind_of s) s in
    let ceiling : List ℕ = le_bytes ceiling_width highest_ceiling in
    filled_whole {n = entry_width} {ps = account ∷ ceiling ∷ []}
    (filled_first {p = account} {ps = ceiling ∷ []} refl (account_wide s (kind_of s) h) (filled_next {p = ceiling} {ps = []} refl refl filled_end))

-- the roster of a record that is too short, and of one that is not
pub own_none : (s : List ℕ) → length s < parties_end → own_roster s ≡ []
unfolding own_roster
own_none s h = rw (lt-ltb (length s) parties_end h) refl

pub own_some : (s : List ℕ) → parties_end ≤ length s → own_roster s ≡ own_entry s
unfolding own_roster
own_some s h = rw (le-ltb (length s) parties_end h) refl

pub own_sound : (s : List ℕ) → roster_sound (own_roster s) ≡ true
unfolding roster_sound entries own_roster
own_sound s =
    split (ltb (length s) parties_end)
    (λ e. rw e refl)
    (λ e. rw (e, entry_wide s (ltb-false (length s) parties_end e)) refl)

-- an account stands on a roster of its own entry alone, with the ceiling there
alone_stands : (account : List ℕ) (ceiling : ℕ) → length account ≡ account_width → ceiling < 2 ^ 32 → standing (account ++ le_bytes ceiling_width ceiling) account ≡ Some ceiling
unfolding bytes_of bytes_of_one standing_of standing_among find_school first_from is_account is_of ceiling_of
alone_stands account ceiling w c =
    let address : List ℕ = take 10 account in
    let qualifier : List ℕ = drop 10 account in
    let school : School = record { address = address; qualifier = qualifier; ceiling = ceiling } in
    let front : length address ≡ 10 = rw (length-take, w) refl in
    let back : length qualifier ≡ 2 = rw (length-drop, w) refl in
    let so = standing_same (school ∷ []) address qualifier (record { address_is = front; qualifier_is = back; ceiling_fits = c }, tt) front in
    rw (append-nil, take-append-drop 10 account) at so ∙ rw (same_refl address, same_refl qualifier) refl

-- a record whose school is its own account finds it on its roster, under the highest ceiling
own_stands : (s : List ℕ) (k : Kind) → kind_of s ≡ Some k → parties_end ≤ length s → school_in k s ≡ account_by (Some k) s → standing (own_roster s) (school_in k s) ≡ Some highest_ceiling
unfolding own_entry
own_stands s k g h e =
    rw (own_some s h, g, e) (alone_stands (account_by (Some k) s) highest_ceiling (account_wide s (Some k) h) (omega arith))

-- the number of a refusal of reading is below 24
read_below : (r : Refusal) → refusal_number r < 24
unfolding refusal_number
read_below TooLong = omega arith
read_below UnknownKind = omega arith
read_below (TooShort p) = omega arith
read_below (Byte p) = omega arith
read_below (FixedField p) = omega arith
read_below (NoField p) = omega arith
read_below (LastField p) = omega arith
read_below (TooManyFields p) = omega arith
read_below (Content p) = omega arith
read_below (Group p) = omega arith
read_below SmallTable = omega arith

-- a verdict whose answer is below 24
unfoldable Below : Verdict → Type 0
Below (Err r) = refused_number r < 24
Below (Ok i) = Unit {0}

either_below : (t : Bool) (v w : Verdict) → Below v → Below w → Below (pick t v w)
either_below true v w p q = p
either_below false v w p q = q

module _ (b : Lent) where
  -- an order that keeps its ceiling
  order_below : (school : List ℕ) (n : Copies) (ceiling : ℕ) (f : Option ℕ) → open_copies b school + n.0 ≤ ceiling → Below (order_judged b school n ceiling f)
  unfolding Below refused_number order_judged new_line_judged
  order_below school n ceiling (Some i) h = omega arith
  order_below school n ceiling None h =
      rw (le-leb (open_copies b school + n.0) ceiling h) (either_below (ltb (used_lines b) (line_room b)) _ _ tt (omega arith))

  -- a delivery
  goods_below : (n : Copies) (f : Option ℕ) → Below (goods_judged b n f)
  unfolding Below refused_number goods_judged arrival_judged
  goods_below n None = omega arith
  goods_below n (Some i) =
      either_below (leb ((line_at b.lines i).arrived.0 + n.0) most_arrived) _ _ (either_below (ltb (used_slips b) (slip_room b)) _ _ tt (omega arith)) (omega arith)

  delivery_below : (key : List ℕ) (n : Copies) (f : Option ℕ) → Below (delivery_judged b key n f)
  unfolding Below refused_number delivery_judged slip_judged
  delivery_below key n (Some j) =
      either_below (key_is b.lines key (slip_line_at b.slips j) && eqb (slip_copies_at b.slips j).0 n.0) _ _ (omega arith) (omega arith)
  delivery_below key n None = goods_below n (find_line b key)

  -- a report
  report_below : (f : Option ℕ) → Below (report_judged f)
  unfolding Below refused_number report_judged
  report_below None = omega arith
  report_below (Some i) = tt

  -- 13, 11 and 12 come first
  fit_below : (k : Kind) (s roster : List ℕ) → Below (on_roster k s b (standing roster (school_in k s))) → Below (fit_judged k s roster b)
  unfolding Below refused_number fit_judged
  fit_below k s roster p =
      either_below (nothing_to_book k s) _ _ (omega arith) (either_below (no_copies k s) _ _ (omega arith) (either_below (no_reference k s) _ _ (omega arith) p))

  -- what a sound book has open and one order more are within the highest ceiling
  order_kept : (s : List ℕ) (n : ℕ) → sound b ≡ true → Fitting Order s n → open_copies b (school_in Order s) + (copies_in Order s).0 ≤ highest_ceiling
  unfolding open_copies used_lines
  order_kept s n h f =
      omega (arith, open_below b.lines b.slips b.used (school_in Order s) {r = open_copies b (school_in Order s)} h refl, order_copies s n f)

  -- each kind, under the highest ceiling
  book_below : (k : Kind) (s : List ℕ) (n : ℕ) → sound b ≡ true → Fitting k s n → Below (book_judged k s highest_ceiling b)
  unfolding Below refused_number book_judged
  book_below Order s n h f =
      order_below (school_in Order s) (copies_in Order s) highest_ceiling (find_line b (line_key Order s)) (order_kept s n h f)
  book_below Goods s n h f = delivery_below (line_key Goods s) (copies_in Goods s) (find_slip b (slip_key s))
  book_below Closing s n h f = omega arith
  book_below Report s n h f = report_below (find_line b (line_key Report s))

-- a record that fits has its two parties
has_parties : (k : Kind) (s : List ℕ) (n : ℕ) → Fitting k s n → parties_end ≤ length s
unfolding fixed_width layout total
has_parties Order s n f = omega (arith, f.wide)
has_parties Goods s n f = omega (arith, f.wide)
has_parties Closing s n f = omega (arith, f.wide)
has_parties Report s n f = omega (arith, f.wide)

-- what is judged of a record that is read, with the roster that it meets
module _ (s : List ℕ) (b : Lent) (n : ℕ) (h : sound b ≡ true) (r : judged s ≡ Ok n) where
  met_below : (k : Kind) → kind_of s ≡ Some k → school_in k s ≡ account_by (Some k) s → Below (fit_judged k s (own_roster s) b)
  unfolding on_roster
  met_below k g e =
      let f = fitting k s n g r in
      fit_below b k s (own_roster s) (rw (own_stands s k g (has_parties k s n f) e) (book_below b k s n h f))

  own_below : (k : Kind) → kind_of s ≡ Some k → Below (fit_judged k s (own_roster s) b)
  unfolding Below refused_number account_by fit_judged nothing_to_book
  own_below Order g = met_below Order g (order_school_is s)
  own_below Goods g = met_below Goods g (goods_school_is s)
  own_below Closing g = omega arith
  own_below Report g = met_below Report g (report_school_is s)

-- what is settled by such a verdict
settled_below : (k : Kind) (s : List ℕ) (b : Lent) (v : Verdict) → Below v → (settled k s b v).said.answer < 24
unfolding Below settled refused_as entered_as done_as
settled_below k s b (Err r) p = p
settled_below k s b (Ok i) p = omega arith

-- each record is answered below 24
answer_below : (s : List ℕ) (b : Lent) → (book_own s b).said.answer < 24
unfolding book_own book refused_as refused_number
answer_below s b =
    rw (own_sound s) (split (sound b) (λ h. rw h (at_reading h (judged s) refl)) (λ h. rw h (omega arith)))
  where
    at_kind : sound b ≡ true → (n : ℕ) → judged s ≡ Ok n → (k : Option Kind) → kind_of s ≡ k → (book_kind k s (own_roster s) b).said.answer < 24
    at_kind h n r None g = unfold book_kind refused_as refused_number in omega arith
    at_kind h n r (Some k) g = unfold book_kind book_as in settled_below k s b _ (own_below s b n h r k g)

    at_reading : sound b ≡ true → (v : Reading) → judged s ≡ v → (book_read v s (own_roster s) b).said.answer < 24
    at_reading h (Err x) r = unfold book_read refused_as refused_number in read_below x
    at_reading h (Ok n) r = unfold book_read in at_kind h n r (kind_of s) refl

pub never_in_the_way : NeverInTheWay
never_in_the_way s b =
    let below = answer_below s b in
    (λ e. omega arith, λ e. omega arith)
