-- A record is accepted exactly where none of the refusals holds, each said of the lent bytes.
use mathlib.Core.Path.{◌≡◌, ◌∙◌, ap, sym, refl}
use mathlib.Core.Bool.{false, false≢true}
use mathlib.Core.Logic.{◌≢◌, ◌⊎◌, inl, inr}
use mathlib.Core.List.{List}
use Prim.Native.Nat.{ℕ, ◌+◌}
use native.Mathlib.Omega.{arith}
use borrow.Author.Tests.{lt-ltb, le-leb}
use Rattle.cells.specs.Bytes.{same}
use Rattle.cells.specs.Search.{first_from}
use Rattle.std.specs.Prelude.{None, Ok, Option, Some}
use Rattle.cells.proofs.Bools.{split}
use Rattle.cells.proofs.Lists.{same_refl, same_true}
use Rattle.record.specs.declared.layout.Kind.{Kind}
use Rattle.record.specs.declared.layout.Kind.TheVariants.{Order, Goods, Closing, Report}
use Rattle.entry.specs.Stored.{most_arrived, line_at, key_at, key_is, slip_key_at, slip_is}
use Rattle.roundtrip.proofs.ReadExactly.{fits_record, record_fits}
use Rattle.book.specs.Lent.{Lent, used_lines, used_slips, line_room, slip_room, find_line, find_slip, open_copies}
use Rattle.roster.specs.Roster.{entries, account_at, account_is, find_account, standing_at, standing}
use Rattle.book.specs.Booking.{line_key, slip_key, school_in, copies_in, new_line_judged, order_judged, arrival_judged, goods_judged, delivery_judged, report_judged, book_judged}
use Rattle.cells.proofs.Searches.{found_at, none_at, first_is, none_is, first_so}
use Rattle.balance.specs.Met.{Met}
use Rattle.balance.specs.Calls.{book_call}
use Rattle.balance.specs.Accepted.{NoLineWith, NoSlipWith, LineWith, OnRoster, Passes, Acceptable, AcceptedExactly}
use Rattle.balance.proofs.Accepted.{Refuses, Accepts, refused_or_accepted}
use Rattle.balance.proofs.Followed.{fit_passed, order_fits, delivery_fits, report_fits_law}
use Rattle.balance.proofs.Numbers.{verdict_number, fit_answer}

-- two lists that are not equal are not the same, and the other way round
not_same : (a b : List ℕ) → a ≢ b → same a b ≡ false
not_same a b ne = split (same a b) (λ e. absurd (ne (same_true a b e))) (λ e. e)

not_equal : (a b : List ℕ) → same a b ≡ false → a ≢ b
not_equal a b e d = false≢true (sym e ∙ rw d (same_refl b))

module _ (b : Lent) (key : List ℕ) where
  -- a search for a line says whether one has the key, and which is the first
  no_line_so : find_line b key ≡ None → NoLineWith b key
  unfolding find_line key_is
  no_line_so e x h = not_equal (key_at b.lines x) key (none_at (key_is b.lines key) (used_lines b) 0 x e (omega arith) (omega arith))

  no_line_is : NoLineWith b key → find_line b key ≡ None
  unfolding find_line key_is
  no_line_is h = none_is (key_is b.lines key) (used_lines b) 0 (λ x a c. not_same (key_at b.lines x) key (h x (omega arith)))

  line_so : (i : ℕ) → find_line b key ≡ Some i → LineWith b key i
  unfolding find_line key_is
  line_so i e =
      let f = found_at (key_is b.lines key) (used_lines b) 0 i e in
      record {
        used = omega (arith, f.1);
        here = same_true (key_at b.lines i) key f.2;
        first = λ x h. not_equal (key_at b.lines x) key (first_so (key_is b.lines key) (used_lines b) 0 i e x (omega arith) h);
      }

  line_is : (i : ℕ) → LineWith b key i → find_line b key ≡ Some i
  unfolding find_line key_is
  line_is i l =
      first_is (key_is b.lines key) (used_lines b) 0 i (omega arith) (omega (arith, l.used)) (rw l.here (same_refl key))
      (λ x a c. not_same (key_at b.lines x) key (l.first x c))

  -- a search for a slip says whether one has the key
  no_slip_so : find_slip b key ≡ None → NoSlipWith b key
  unfolding find_slip slip_is
  no_slip_so e x h = not_equal (slip_key_at b.slips x) key (none_at (slip_is b.slips key) (used_slips b) 0 x e (omega arith) (omega arith))

  no_slip_is : NoSlipWith b key → find_slip b key ≡ None
  unfolding find_slip slip_is
  no_slip_is h = none_is (slip_is b.slips key) (used_slips b) 0 (λ x a c. not_same (slip_key_at b.slips x) key (h x (omega arith)))

-- what the roster says of an account, said of its entries, and the other way round
module _ (roster account : List ℕ) (ceiling : ℕ) where
  on_roster_so : standing roster account ≡ Some ceiling → OnRoster roster account ceiling
  unfolding standing standing_at find_account account_is
  on_roster_so e = go (first_from (account_is roster account) (entries roster) 0) refl e
    where
      go : (f : Option ℕ) → first_from (account_is roster account) (entries roster) 0 ≡ f → standing_at roster f ≡ Some ceiling → OnRoster roster account ceiling
      go None h q = let z : ◌≡◌ {A = ℕ} 0 1 = cc in absurd (omega arith)
      go (Some i) h q =
          let f = found_at (account_is roster account) (entries roster) 0 i h in
          record {
            entry = i;
            there = omega (arith, f.1);
            here = same_true (account_at roster i) account f.2;
            first = λ x l. not_equal (account_at roster x) account (first_so (account_is roster account) (entries roster) 0 i h x (omega arith) l);
            states = cc;
          }

  pub on_roster_is : OnRoster roster account ceiling → standing roster account ≡ Some ceiling
  unfolding standing standing_at find_account account_is
  on_roster_is o =
      let f : first_from (account_is roster account) (entries roster) 0 ≡ Some o.entry =
      first_is (account_is roster account) (entries roster) 0 o.entry (omega arith) (omega (arith, o.there)) (rw o.here (same_refl account))
      (λ x a c. not_same (account_at roster x) account (o.first x c)) in
      rw f (ap Some o.states)

-- what the book judges to fit passes, for each kind
module _ (s : List ℕ) (ceiling : ℕ) (b : Lent) where
  passes_so : (k : Kind) (i : ℕ) → book_judged k s ceiling b ≡ Ok i → Passes k s ceiling b
  unfolding book_judged
  passes_so Order i e =
      let q = order_fits b i (school_in Order s) (copies_in Order s) ceiling (find_line b (line_key Order s)) e in
      record { new = no_line_so b (line_key Order s) q.0; below = q.1.0; room = q.1.1.0 }
  passes_so Goods i e =
      let q = delivery_fits b i (line_key Goods s) (copies_in Goods s) (find_slip b (slip_key s)) e in
      record {
        new = no_slip_so b (slip_key s) q.0;
        line = i;
        there = line_so b (line_key Goods s) i q.1.0;
        limit = q.1.1.0;
        room = q.1.1.1;
      }
  passes_so Closing i e = let z : ◌≡◌ {A = ℕ} 0 1 = cc in omega arith
  passes_so Report i e = record { line = i; there = line_so b (line_key Report s) i (report_fits_law b i (find_line b (line_key Report s)) e) }

  -- what passes fits
  passes_fits : (k : Kind) → Passes k s ceiling b → verdict_number (book_judged k s ceiling b) ≡ 0
  unfolding book_judged order_judged new_line_judged delivery_judged goods_judged arrival_judged report_judged verdict_number
  passes_fits Order p =
      rw (no_line_is b (line_key Order s) p.new, le-leb (open_copies b (school_in Order s) + (copies_in Order s).0) ceiling p.below, lt-ltb (used_lines b) (line_room b) p.room) refl
  passes_fits Goods p =
      rw (no_slip_is b (slip_key s) p.new, line_is b (line_key Goods s) p.line p.there, le-leb ((line_at b.lines p.line).arrived.0 + (copies_in Goods s).0) most_arrived p.limit, lt-ltb (used_slips b) (slip_room b) p.room) refl
  passes_fits Closing p = absurd p
  passes_fits Report p = rw (line_is b (line_key Report s) p.line p.there) refl

-- an accepted record
acceptable : (s : Met) (b : Lent) → Accepts s b → Acceptable s b
acceptable s b a =
    let k : Kind = a.kind in
    let fit = fit_passed k s.given s.roster b a.place a.fits in
    record {
      is_roster = a.is_roster;
      is_sound = a.is_sound;
      is_record = fits_record s.given a.fields a.read;
      kind = k;
      named = a.known;
      something = fit.something;
      copies = fit.copies;
      referenced = fit.referenced;
      ceiling = fit.ceiling;
      is_on_roster = on_roster_so s.roster (school_in k s.given) fit.ceiling fit.is_on_roster;
      passes = passes_so s.given fit.ceiling b k a.place fit.judged_fit;
    }

-- accepted exactly
pub accepted_exactly : AcceptedExactly
accepted_exactly s b =
    record {
      only_acceptable = λ e. go e (refused_or_accepted s b);
      all_acceptable = λ a.
          let r = record_fits s.given a.is_record in
          fit_answer s b r.0 a.kind a.ceiling a.is_roster a.is_sound r.1 a.named a.something a.copies a.referenced
          (on_roster_is s.roster (school_in a.kind s.given) a.ceiling a.is_on_roster)
          ∙ passes_fits s.given a.ceiling b a.kind a.passes;
    }
  where
    go : (book_call s b).said.answer ≡ 0 → Refuses (book_call s b) b ⊎ Accepts s b → Acceptable s b
    go e (inl r) = absurd (r.answer e)
    go e (inr a) = acceptable s b a
