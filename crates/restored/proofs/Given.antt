-- What each booked record keeps of a book, any records given to the booking call keep.
use mathlib.Core.Path.{◌≡◌, subst, sym}
use mathlib.Core.Logic.{◌⊎◌, inl, inr}
use mathlib.Core.List.{List, [], ◌∷◌}
use Prim.Native.Nat.{ℕ}
use Rattle.record.specs.declared.layout.Kind.{Kind}
use Rattle.reader.proofs.Fitting.{Fitting, fitting}
use Rattle.book.specs.Lent.{Lent}
use Rattle.book.specs.Booking.{fit_judged, lent_after}
use Rattle.std.specs.Prelude.{Ok}
use Rattle.balance.specs.Met.{Met}
use Rattle.balance.specs.Calls.{book_call}
use Rattle.balance.specs.Demand3.{Given, give, give_all}
use Rattle.balance.proofs.Accepted.{Refuses, Accepts, refused_or_accepted}

-- what a record that fits keeps when it is entered
module _ (P : Lent → Type 0) (entered : (k : Kind) (s roster : List ℕ) (b : Lent) (i n : ℕ) → Fitting k s n → fit_judged k s roster b ≡ Ok i → P b → P (lent_after k s b i)) where
  -- one record keeps, refused or accepted
  one_given : (g : Given) (s : Met) → P g.book → P (give g s).book
  unfolding give
  one_given g s p = go (refused_or_accepted s g.book)
    where
      go : Refuses (book_call s g.book) g.book ⊎ Accepts s g.book → P (book_call s g.book).lent
      go (inl r) = subst P (sym r.lent) p
      go (inr a) =
          subst P (sym a.lent)
          (entered a.kind s.given s.roster g.book a.place a.fields (fitting a.kind s.given a.fields a.known a.read) a.fits p)

  -- and so do any records
  pub all_given : (rs : List Met) (g : Given) → P g.book → P (give_all g rs).book
  unfolding give_all
  all_given [] g p = p
  all_given (r ∷ rs) g p = all_given rs (give g r) (one_given g r p)
