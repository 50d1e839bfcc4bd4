-- The part of a book that some keys have does with its own records what the book does.
use Prim.Native.Nat.{ℕ, ◌+◌, ◌≤◌}
use native.Mathlib.Omega.{arith}
use mathlib.Core.Path.{◌≡◌, refl, ap}
use mathlib.Core.Bool.{Bool, true, false}
use mathlib.Core.Option.{none}
use mathlib.Core.List.{List}
use lib.Dec.{ltb}
use borrow.Author.Tests.{ltb-false, le-ltb}
use Rattle.cells.specs.Bytes.{same}
use Rattle.cells.proofs.Bools.{split}
use Rattle.cells.proofs.Lists.{same_true}
use Rattle.ledger.specs.Lists.{keep, given, found}
use Rattle.ledger.specs.Book.{Key, school_of, of_school, Report, Line, Slip, Book, Rooms, still_open}
use Rattle.ledger.specs.Booking.{Fit, order, goods, report, line_at, slip_at, done, open_of, tests, judge, new_line, arrive, tell, change_line, enter}
use Rattle.ledger.specs.History.{key_of, lines_of, part}
use Rattle.ledger.proofs.Lists.{not_found, keep_in, keep_out, keep_room, kept_most, first_keep, change_keep, change_apart, first_none}
use Rattle.ledger.proofs.Tests.{none_holds, all_passed}

-- a delivery keeps its line's key
pub arrive_key : (n : ℕ) (l : Line) → (arrive n l).key ≡ l.key
unfolding arrive
arrive_key n l = refl

-- a report keeps its line's key
pub tell_key : (m : Report) (l : Line) → (tell m l).key ≡ l.key
unfolding tell
tell_key m l = refl

module _ (p : Key → Bool) where
  -- a key of the part is no key outside it
  apart : (k : Key) → p k ≡ true → (j : Key) → p j ≡ false → same k j ≡ false
  apart k h j h' = split (same k j) (λ e. cc (same_true k j e)) (λ e. e)

  -- the same key as one outside the part is outside it
  elsewhere : (k : Key) → p k ≡ false → (j : Key) → same k j ≡ true → p j ≡ false
  elsewhere k h j e = cc (same_true k j e)

  -- a key of the part has its line there
  pub line_part : (k : Key) (ls : List Line) → p k ≡ true → line_at k (lines_of p ls) ≡ line_at k ls
  unfolding line_at lines_of
  line_part k ls h = first_keep _ _ (λ l. apart k h l.key) ls

  -- a slip that is not booked is not in the part
  slip_part : (s : Key) (ts : List Slip) → found (slip_at s ts) ≡ false → slip_at s (keep (λ t. p t.line) ts) ≡ none
  unfolding slip_at
  slip_part s ts h = first_none _ _ ts (not_found (slip_at s ts) h)

  -- no school has more open copies in the part than in the book, so there is room below its ceiling
  room_below : (k : Key) (ls : List Line) (n ceiling : ℕ) → ltb ceiling (open_of (school_of k) ls + n) ≡ false
      → ltb ceiling (open_of (school_of k) (lines_of p ls) + n) ≡ false
  unfolding open_of lines_of
  room_below k ls n ceiling h =
      let most = kept_most still_open (λ (l : Line). of_school (school_of k) l.key) (λ (l : Line). p l.key) ls in
      let low : open_of (school_of k) ls + n ≤ ceiling = ltb-false ceiling (open_of (school_of k) ls + n) h in
      le-ltb ceiling (open_of (school_of k) (lines_of p ls) + n) (omega arith)

  -- a change of a line of the part is that change of the part
  change_in : (k : Key) (f : Line → Line) → ((l : Line) → (f l).key ≡ l.key) → (ls : List Line) → p k ≡ true
      → lines_of p (change_line k f ls) ≡ change_line k f (lines_of p ls)
  unfolding change_line lines_of
  change_in k f g ls h = change_keep _ _ (λ l. apart k h l.key) f (λ l. ap p (g l)) ls

  -- a change of another line leaves the part
  change_out : (k : Key) (f : Line → Line) → ((l : Line) → (f l).key ≡ l.key) → (ls : List Line) → p k ≡ false
      → lines_of p (change_line k f ls) ≡ lines_of p ls
  unfolding change_line lines_of
  change_out k f g ls h = change_apart _ _ (λ l. elsewhere k h l.key) f (λ l. ap p (g l)) ls

module _ (p : Key → Bool) (rooms : Rooms) (b : Book) where
  -- the part accepts what the book accepts of its records
  pub judge_part : (r : Fit) → p (key_of r) ≡ true → judge rooms b r ≡ done → judge rooms (part p b) r ≡ done
  unfolding judge tests part key_of lines_of given found
  judge_part (order k o w) h e =
      let c = none_holds (tests rooms b (order k o w)) e in
      let n = line_part p k b.lines h in
      all_passed _ (cc c.0, (room_below p k b.lines o.copies w c.1.0, (keep_room _ _ b.lines c.1.1.0, tt)))
  judge_part (goods k g) h e =
      let c = none_holds (tests rooms b (goods k g)) e in
      let n = line_part p k b.lines h in
      let s = slip_part p g.slip b.slips c.1.0 in
      all_passed _ (cc, (cc, (cc c.1.1.0, (cc c.1.1.1.0, (keep_room _ _ b.slips c.1.1.1.1.0, tt)))))
  judge_part (report k m) h e =
      let c = none_holds (tests rooms b (report k m)) e in
      let n = line_part p k b.lines h in
      all_passed _ (cc c.0, tt)

module _ (p : Key → Bool) (b : Book) where
  -- a record of the part does to the part what it does to the book
  pub enter_in : (r : Fit) → p (key_of r) ≡ true → part p (enter b r) ≡ enter (part p b) r
  unfolding part key_of enter lines_of
  enter_in (order k o c) h = λ i. record { lines = keep_in (λ (l : Line). p l.key) b.lines (new_line k o) h i; slips = (part p b).slips }
  enter_in (goods k g) h =
      λ i. record {
        lines = change_in p k (arrive g.copies) (arrive_key g.copies) b.lines h i;
        slips = keep_in (λ (t : Slip). p t.line) b.slips (record { line = k; says = g }) h i;
      }
  enter_in (report k m) h = λ i. record { lines = change_in p k (tell m) (tell_key m) b.lines h i; slips = (part p b).slips }

  -- another record leaves the part
  pub enter_out : (r : Fit) → p (key_of r) ≡ false → part p (enter b r) ≡ part p b
  unfolding part key_of enter lines_of
  enter_out (order k o c) h = λ i. record { lines = keep_out (λ (l : Line). p l.key) b.lines (new_line k o) h i; slips = (part p b).slips }
  enter_out (goods k g) h =
      λ i. record {
        lines = change_out p k (arrive g.copies) (arrive_key g.copies) b.lines h i;
        slips = keep_out (λ (t : Slip). p t.line) b.slips (record { line = k; says = g }) h i;
      }
  enter_out (report k m) h = λ i. record { lines = change_out p k (tell m) (tell_key m) b.lines h i; slips = (part p b).slips }
