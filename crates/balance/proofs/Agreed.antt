-- Whether the articles agreed: an accepted record is held against the article of the order with its key.
use mathlib.Core.Path.{◌≡◌, ◌∙◌, ap, sym, refl}
use mathlib.Core.List.{List, [], ◌∷◌, ◌++◌}
use Prim.Native.Nat.{ℕ}
use native.Mathlib.Omega.{arith}
use Rattle.cells.specs.Bytes.{pick, same, joined}
use Rattle.cells.proofs.Lists.{same_refl}
use Rattle.record.specs.Layout.{kind_of}
use Rattle.record.specs.declared.layout.Kind.{Kind}
use Rattle.record.specs.declared.layout.Kind.TheVariants.{Order, Goods, Closing, Report}
use Rattle.std.specs.Prelude.{Ok, Some}
use Rattle.entry.specs.Stored.{article_is}
use Rattle.ledger.specs.Lists.{given}
use Rattle.book.specs.Lent.{Lent}
use Rattle.book.specs.Booking.{article_fields, article_in, agreed_at, agreed_as, book_judged}
use Rattle.book.specs.declared.answer.Booked.{Booked}
use Rattle.balance.specs.Met.{Met}
use Rattle.balance.specs.Told.{rooms_of}
use Rattle.balance.specs.Demand3.{key_fields_in, Given, fresh, give, give_all}
use Rattle.balance.specs.Agreed.{article_on, ordered_for, AgreedTells}
use Rattle.balance.proofs.Accepted.{accepted}
use Rattle.balance.proofs.Bookable.{bookable, keyed}
use Rattle.balance.proofs.Entered.{line_of}
use Rattle.balance.proofs.Followed.{fit_passed, follows}
use Rattle.balance.proofs.Figures.{article_after, own_found}
use Rattle.balance.proofs.Given.{sound_start, given_more}
use Rattle.balance.proofs.Lines.{articles}
use Rattle.balance.proofs.Stands.{Stands, stands}

-- what is told is whether the record names the article of its line afterwards
kind_agreed : (k : Kind) (s : List ℕ) (b : Lent) (i ceiling : ℕ) → book_judged k s ceiling b ≡ Ok i → agreed_as k s b i ≡ pick (same (article_after k s b i) (article_in k s)) 1 0
unfolding agreed_at agreed_as article_after article_is book_judged
kind_agreed Order s b i ceiling e = rw (same_refl (article_in Order s)) refl
kind_agreed Goods s b i ceiling e = refl
kind_agreed Closing s b i ceiling e = let z : ◌≡◌ {A = ℕ} 0 1 = cc in absurd (omega arith)
kind_agreed Report s b i ceiling e = refl

-- the article that a record of a kind names
named_on : (s : Met) (k : Kind) → kind_of s.given ≡ Some k → article_on s ≡ article_in k s.given
unfolding article_on article_in article_fields joined
named_on s Order e = rw e refl
named_on s Goods e = rw e refl
named_on s Closing e = rw e refl
named_on s Report e = rw e refl

pub agreed_tells : AgreedTells
agreed_tells lines slips records s e =
    let g : Given = give_all (fresh lines slips) records in
    let a = accepted s g.book e in
    let h = sound_start records (fresh lines slips) s a in
    let more = given_more records s (fresh lines slips) in
    let after : Stands lines slips (give g s) = rw more at (stands lines slips (records ++ (s ∷ [])) h) in
    let t = keyed s (bookable s g.book a) in
    let f = follows s g.book (stands lines slips records h).kept a in
    let j = fit_passed a.kind s.given s.roster g.book a.place a.fits in
    let ordered : ordered_for g s ≡ article_after a.kind s.given g.book a.place =
    sym (articles (rooms_of (fresh lines slips).book) (give g s) after.kept after.gives after.fit_to_book (key_fields_in s) t.wide)
    ∙ unfold give in rw (t.key_is_law, f.tells, own_found s g.book a) (unfold given in unfold line_of in refl) in
    ap (λ (said : Booked). said.agreed) a.said
    ∙ kind_agreed a.kind s.given g.book a.place j.ceiling j.judged_fit
    ∙ rw (ordered, named_on s a.kind a.known) refl
