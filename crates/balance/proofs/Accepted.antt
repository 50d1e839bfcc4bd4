-- A record booked: refused with nothing changed, or answered 0 and entered.
use mathlib.Core.Path.{◌≡◌, refl}
use mathlib.Core.Bool.{true}
use mathlib.Core.Logic.{◌⊎◌, inl, inr}
use Prim.Native.Nat.{ℕ}
use native.Mathlib.Omega.{arith}
use Rattle.cells.proofs.Bools.{split}
use Rattle.roster.specs.Roster.{roster_sound}
use Rattle.record.specs.Layout.{kind_of}
use Rattle.record.specs.Answers.{refusal_number}
use Rattle.record.specs.Read.{judged}
use Rattle.record.specs.declared.answer.Refusal.{Refusal}
use Rattle.record.specs.declared.answer.Refusal.TheVariants.{TooLong, UnknownKind, TooShort, Byte, FixedField, NoField, LastField, TooManyFields, Content, Group, SmallTable}
use Rattle.record.specs.Verdicts.{Verdict as Reading}
use Rattle.std.specs.Prelude.{Err, None, Ok, Option, Some}
use Rattle.record.specs.declared.layout.Kind.{Kind}
use Rattle.book.specs.Lent.{Lent, sound}
use Rattle.book.specs.Booking.{refused_number, refused_as, done_as, booked_as, not_booked, agreed_as, line_after, lent_after, fit_judged, Outcome, outcome, entered_as, settled, book_as, book_kind, book_read, book}
use Rattle.book.specs.declared.answer.Refused.{Refused}
use Rattle.book.specs.declared.answer.Refused.TheVariants.{Unsound, Unread, NothingToBook, NoCopies, NoReference, LineExists, LinesUsed, NoLine, SlipBooked, SlipDiffers, SlipsUsed, TooManyArrived, NotOnRoster, CeilingPassed}
use Rattle.book.specs.Verdicts.{Verdict}
use Rattle.balance.specs.Met.{Met}
use Rattle.balance.specs.Calls.{book_call}

-- no refusal of reading has the number 0, and none of booking
unread_number : (r : Refusal) → refusal_number r ≡ 0 → ⊥
unfolding refusal_number
unread_number TooLong e = omega arith
unread_number UnknownKind e = omega arith
unread_number (TooShort p) e = omega arith
unread_number (Byte p) e = omega arith
unread_number (FixedField p) e = omega arith
unread_number (NoField p) e = omega arith
unread_number (LastField p) e = omega arith
unread_number (TooManyFields p) e = omega arith
unread_number (Content p) e = omega arith
unread_number (Group p) e = omega arith
unread_number SmallTable e = omega arith

pub refused_number_law : (r : Refused) → refused_number r ≡ 0 → ⊥
unfolding refused_number
refused_number_law Unsound e = omega arith
refused_number_law (Unread r) e = unread_number r e
refused_number_law NothingToBook e = omega arith
refused_number_law NoCopies e = omega arith
refused_number_law NoReference e = omega arith
refused_number_law LineExists e = omega arith
refused_number_law LinesUsed e = omega arith
refused_number_law NoLine e = omega arith
refused_number_law SlipBooked e = omega arith
refused_number_law SlipDiffers e = omega arith
refused_number_law SlipsUsed e = omega arith
refused_number_law TooManyArrived e = omega arith
refused_number_law NotOnRoster e = omega arith
refused_number_law CeilingPassed e = omega arith

-- the answer is not 0, and the book is as it was
pub record Refuses (o : Outcome) (b : Lent) : Type 0 where
  pub answer : o.said.answer ≡ 0 → ⊥
  pub lent : o.lent ≡ b

-- the roster has the right size and the book is sound, the record is read, of a kind and fit to book at a line; the answer is 0, and the record is entered there
pub record Accepts (s : Met) (b : Lent) : Type 0 where
  pub is_roster : roster_sound s.roster ≡ true
  pub is_sound : sound b ≡ true
  pub fields : ℕ
  pub read : judged s.given ≡ Ok fields
  pub kind : Kind
  pub known : kind_of s.given ≡ Some kind
  pub place : ℕ
  pub fits : fit_judged kind s.given s.roster b ≡ Ok place
  pub said : (book_call s b).said ≡ booked_as (done_as (line_after kind s.given b place)) (agreed_as kind s.given b place)
  pub answer : (book_call s b).said.answer ≡ 0
  pub lent : (book_call s b).lent ≡ lent_after kind s.given b place

-- a refusal
refuses : (r : Refused) (b : Lent) → Refuses (outcome (not_booked r) b) b
unfolding refused_as
refuses r b = record { answer = refused_number_law r; lent = refl }

-- one of the two
pub refused_or_accepted : (s : Met) (b : Lent) → Refuses (book_call s b) b ⊎ Accepts s b
unfolding book book_read book_kind book_as settled entered_as done_as
refused_or_accepted s b =
    split (roster_sound s.roster)
    (λ t. split (sound b) (λ h. at_reading t h (judged s.given) refl) (λ h. inl (rw (t, h) (refuses Unsound b))))
    (λ t. inl (rw t (refuses Unsound b)))
  where
    at_verdict : roster_sound s.roster ≡ true → sound b ≡ true → (n : ℕ) → judged s.given ≡ Ok n → (k : Kind) → kind_of s.given ≡ Some k
        → (v : Verdict) → fit_judged k s.given s.roster b ≡ v → Refuses (book_call s b) b ⊎ Accepts s b
    at_verdict t h n r k g (Err x) f = inl (rw (t, h, r, g, f) (refuses x b))
    at_verdict t h n r k g (Ok i) f =
        inr (record { is_roster = t; is_sound = h; fields = n; read = r; kind = k; known = g; place = i; fits = f; said = rw (t, h, r, g, f); answer = rw (t, h, r, g, f); lent = rw (t, h, r, g, f) })

    at_kind : roster_sound s.roster ≡ true → sound b ≡ true → (n : ℕ) → judged s.given ≡ Ok n → (k : Option Kind) → kind_of s.given ≡ k
        → Refuses (book_call s b) b ⊎ Accepts s b
    at_kind t h n r None g = inl (rw (t, h, r, g) (refuses NothingToBook b))
    at_kind t h n r (Some k) g = at_verdict t h n r k g (fit_judged k s.given s.roster b) refl

    at_reading : roster_sound s.roster ≡ true → sound b ≡ true → (v : Reading) → judged s.given ≡ v → Refuses (book_call s b) b ⊎ Accepts s b
    at_reading t h (Err x) r = inl (rw (t, h, r) (refuses (Unread x) b))
    at_reading t h (Ok n) r = at_kind t h n r (kind_of s.given) refl

-- a record that answers 0 is accepted
pub accepted : (s : Met) (b : Lent) → (book_call s b).said.answer ≡ 0 → Accepts s b
accepted s b e = go (refused_or_accepted s b)
  where
    go : Refuses (book_call s b) b ⊎ Accepts s b → Accepts s b
    go (inl r) = absurd (r.answer e)
    go (inr a) = a
