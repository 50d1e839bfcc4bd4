-- When a record is accepted: the booking call answers 0 exactly where none of the refusals that its order names holds, each said of the lent bytes.
use Rattle.std.specs.Prelude.{ℕ, ◌+◌, ◌≤◌, ◌<◌, ◌≡◌, true, false, ◌≢◌, List, Some}
use Rattle.record.specs.Layout.{kind_of}
use Rattle.record.specs.declared.layout.Kind.{Kind}
use Rattle.record.specs.declared.layout.Kind.TheVariants.{Order, Goods, Closing, Report}
use Rattle.entry.specs.Stored.{most_arrived, line_at, key_at, slip_key_at}
use Rattle.roundtrip.specs.Record.{IsRecord}
use Rattle.roster.specs.Roster.{entries, roster_sound, account_at, ceiling_at}
use Rattle.book.specs.Lent.{Lent, used_lines, used_slips, line_room, slip_room, sound, open_copies}
use Rattle.book.specs.Booking.{line_key, slip_key, school_in, copies_in, nothing_to_book, no_copies, no_reference}
use Rattle.balance.specs.Met.{Met}
use Rattle.balance.specs.Calls.{book_call}

-- no used line has the key; no used slip has it
abbrev pub NoLineWith : Lent → List ℕ → Type 0
NoLineWith b key = (x : ℕ) → x < used_lines b → key_at b.lines x ≢ key

abbrev pub NoSlipWith : Lent → List ℕ → Type 0
NoSlipWith b key = (x : ℕ) → x < used_slips b → slip_key_at b.slips x ≢ key

-- the line at a place is used, has the key, and is the first that has it
pub record LineWith (b : Lent) (key : List ℕ) (i : ℕ) : Type 0 where
  pub used : i < used_lines b
  pub here : key_at b.lines i ≡ key
  pub first : (x : ℕ) → x < i → key_at b.lines x ≢ key

-- the account stands on the roster: an entry has it, is the first that has it, and states this ceiling
pub record OnRoster (roster account : List ℕ) (ceiling : ℕ) : Type 0 where
  pub entry : ℕ
  pub there : entry < entries roster
  pub here : account_at roster entry ≡ account
  pub first : (x : ℕ) → x < entry → account_at roster x ≢ account
  pub states : ceiling_at roster entry ≡ ceiling

-- an order: not 14, not 25, not 15
pub record OrderPasses (s : List ℕ) (ceiling : ℕ) (b : Lent) : Type 0 where
  pub new : NoLineWith b (line_key Order s)
  pub below : open_copies b (school_in Order s) + (copies_in Order s).0 ≤ ceiling
  pub room : used_lines b < line_room b

-- a delivery: not 17 nor 18, not 16, not 21, not 19
pub record DeliveryPasses (s : List ℕ) (b : Lent) : Type 0 where
  pub new : NoSlipWith b (slip_key s)
  pub line : ℕ
  pub there : LineWith b (line_key Goods s) line
  pub limit : (line_at b.lines line).arrived.0 + (copies_in Goods s).0 ≤ most_arrived
  pub room : used_slips b < slip_room b

-- a report: not 16
pub record ReportPasses (s : List ℕ) (b : Lent) : Type 0 where
  pub line : ℕ
  pub there : LineWith b (line_key Report s) line

-- what the lent book asks of a record of a kind whose school has a ceiling; a closing record is never booked
abbrev pub Passes : Kind → List ℕ → ℕ → Lent → Type 0
Passes Order s ceiling b = OrderPasses s ceiling b
Passes Goods s ceiling b = DeliveryPasses s b
Passes Closing s ceiling b = ⊥
Passes Report s ceiling b = ReportPasses s b

-- none of the refusals holds, in the order of the answers
pub record Acceptable (s : Met) (b : Lent) : Type 0 where
  -- 20
  pub is_roster : roster_sound s.roster ≡ true
  pub is_sound : sound b ≡ true
  -- 1 to 10
  pub is_record : IsRecord s.given
  pub kind : Kind
  pub named : kind_of s.given ≡ Some kind
  -- 13, 11, 12
  pub something : nothing_to_book kind s.given ≡ false
  pub copies : no_copies kind s.given ≡ false
  pub referenced : no_reference kind s.given ≡ false
  -- 24
  pub ceiling : ℕ
  pub is_on_roster : OnRoster s.roster (school_in kind s.given) ceiling
  -- 14 to 19, 21 and 25, as its kind has them
  pub passes : Passes kind s.given ceiling b

-- ACCEPTED EXACTLY
pub record Accepted (s : Met) (b : Lent) : Type 0 where
  pub only_acceptable : (book_call s b).said.answer ≡ 0 → Acceptable s b
  pub all_acceptable : Acceptable s b → (book_call s b).said.answer ≡ 0

abbrev pub AcceptedExactly : Type 0
AcceptedExactly = (s : Met) (b : Lent) → Accepted s b
