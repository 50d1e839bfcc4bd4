-- What a search of the bytes says of the book that they tell, and what passes there.
use mathlib.Core.Path.{◌≡◌, ◌∙◌, sym}
use mathlib.Core.Option.{none, some}
use mathlib.Core.List.{List}
use Prim.Native.Nat.{ℕ, ◌+◌, ◌≤◌, ◌<◌}
use native.Mathlib.Omega.{arith}
use lib.ListN.{length}
use borrow.Author.Tests.{lt-leb, le-ltb}
use Rattle.cells.specs.Bytes.{same}
use Rattle.cells.proofs.Bools.{split}
use Rattle.cells.proofs.Lists.{same_true}
use Rattle.entry.specs.Stored.{most_arrived, line_at, key_at, key_is, slip_key_at, slip_is}
use Rattle.ledger.specs.Lists.{given, found}
use Rattle.ledger.specs.Book.{Key, Goods, Report}
use Rattle.ledger.specs.Booking.{goods, report, done, first_of, tests, judge, most_arrived as limit, line_at as line_with, slip_at as slip_with}
use Rattle.book.specs.Lent.{Lent, used_lines, used_slips, slip_room, find_line, find_slip}
use Rattle.balance.specs.Told.{line_told, slip_told, told, rooms_of}
use Rattle.std.specs.Prelude.{None, Some}
use Rattle.cells.proofs.Searches.{found_at}
use Rattle.balance.proofs.Listings.{listed_length, none_listed, first_listed}

-- lists are compared either way round
pub same_turned : (a b : List ℕ) → same a b ≡ same b a
same_turned a b =
    split (same a b)
    (λ e. let d = same_true a b e in rw d)
    (λ e. split (same b a) (λ f. let d = same_true b a f in rw d) (λ f. e ∙ sym f))

module _ (b : Lent) (key : Key) where
  -- a key is tested at a place as at the line told of it
  pub key_told : (x : ℕ) → same key (line_told b.lines x).key ≡ key_is b.lines key x
  unfolding line_told key_is
  key_told x = same_turned key (key_at b.lines x)

  slip_told_law : (x : ℕ) → same key (slip_told b.lines b.slips x).says.slip ≡ slip_is b.slips key x
  unfolding slip_told slip_is
  slip_told_law x = same_turned key (slip_key_at b.slips x)

  -- no line has the key
  pub no_line : find_line b key ≡ None → line_with key (told b).lines ≡ none
  unfolding find_line told line_with
  no_line e = none_listed (λ l. same key l.key) (key_is b.lines key) (line_told b.lines) key_told (used_lines b) 0 e

  -- the line at i is the first with the key
  pub line_found : (i : ℕ) → find_line b key ≡ Some i → line_with key (told b).lines ≡ some (line_told b.lines i)
  unfolding find_line told line_with
  line_found i e = first_listed (λ l. same key l.key) (key_is b.lines key) (line_told b.lines) key_told (used_lines b) 0 i e

  -- it is used, and the key is its own
  pub line_used : (i : ℕ) → find_line b key ≡ Some i → (i < used_lines b) × (key_at b.lines i ≡ key)
  unfolding find_line key_is
  line_used i e =
      let h = found_at (key_is b.lines key) (used_lines b) 0 i e in
      (omega (arith, h.1), same_true (key_at b.lines i) key h.2)

  -- no slip has the key
  pub no_slip : find_slip b key ≡ None → slip_with key (told b).slips ≡ none
  unfolding find_slip told slip_with
  no_slip e =
      none_listed (λ t. same key t.says.slip) (slip_is b.slips key) (slip_told b.lines b.slips) slip_told_law (used_slips b) 0 e

  -- the slip at j is the first with the key
  pub slip_found : (j : ℕ) → find_slip b key ≡ Some j → slip_with key (told b).slips ≡ some (slip_told b.lines b.slips j)
  unfolding find_slip told slip_with
  slip_found j e =
      first_listed (λ t. same key t.says.slip) (slip_is b.slips key) (slip_told b.lines b.slips) slip_told_law (used_slips b) 0 j e

-- as many lines and slips are told as are used
pub lines_told : (b : Lent) → length (told b).lines ≡ used_lines b
unfolding told
lines_told b = listed_length (line_told b.lines) (used_lines b) 0

pub slips_told : (b : Lent) → length (told b).slips ≡ used_slips b
unfolding told
slips_told b = listed_length (slip_told b.lines b.slips) (used_slips b) 0

-- what the bytes let pass, the told book lets pass: a delivery
module _ (b : Lent) (key : Key) where
  pub goods_passes : (g : Goods) (i : ℕ) → find_slip b g.slip ≡ None → find_line b key ≡ Some i → (line_at b.lines i).arrived.0 + g.copies ≤ most_arrived → used_slips b < slip_room b
      → judge (rooms_of b) (told b) (goods key g) ≡ done
  unfolding judge tests first_of given found rooms_of limit line_told
  goods_passes g i e f most h =
      rw (no_slip b g.slip e, line_found b key i f, le-ltb most_arrived ((line_at b.lines i).arrived.0 + g.copies) most, slips_told b, lt-leb (slip_room b) (used_slips b) h)

  -- a report
  pub report_passes : (m : Report) (i : ℕ) → find_line b key ≡ Some i → judge (rooms_of b) (told b) (report key m) ≡ done
  unfolding judge tests first_of found
  report_passes m i f = rw (line_found b key i f)
