-- What the promises of booking give: two results that satisfy one are equal, and a refusal changes nothing lent.
use mathlib.Core.Path.{◌≡◌, ◌∙◌, ap, sym}
use mathlib.Core.Logic.{◌⊎◌, inl, inr}
use mathlib.Core.List.{List}
use Prim.Native.Nat.{ℕ}
use Rattle.book.specs.Lent.{Lent}
use Rattle.book.specs.Booking.{Outcome, outcome, book}
use Rattle.book.specs.Asked.{line_asked}
use Rattle.book.specs.declared.answer.Booked.{Booked}
use Rattle.book.specs.declared.answer.Told.{Told}
use Rattle.balance.specs.Met.{Met}
use Rattle.balance.specs.Calls.{book_call}
use Rattle.balance.proofs.Accepted.{Refuses, Accepts, refused_or_accepted}

-- `booking::book`: the answer, place, figures and whether the articles agreed, and the lent book at exit, are fixed by the record, the roster and the lent book at entry
pub book_unique : (s roster : List ℕ) (b : Lent) (said said' : Booked) (exit exit' : Lent)
    → outcome said exit ≡ book s roster b → outcome said' exit' ≡ book s roster b → (said ≡ said') × (exit ≡ exit')
book_unique s roster b said said' exit exit' p q =
    let e = p ∙ sym q in
    (ap (λ (o : Outcome). o.said) e, ap (λ (o : Outcome). o.lent) e)

-- `asking::line`: so is what a call by key says
pub line_unique : (fields : List (List ℕ)) (b : Lent) (said said' : Told) → said ≡ line_asked fields b → said' ≡ line_asked fields b → said ≡ said'
line_unique fields b said said' p q = p ∙ sym q

-- a booking that does not answer 0 leaves the lent book as it was
pub refusal_keeps : (s : Met) (b : Lent) → ((book_call s b).said.answer ≡ 0 → ⊥) → (book_call s b).lent ≡ b
refusal_keeps s b h = go (refused_or_accepted s b)
  where
    go : Refuses (book_call s b) b ⊎ Accepts s b → (book_call s b).lent ≡ b
    go (inl r) = r.lent
    go (inr a) = absurd (h a.answer)
