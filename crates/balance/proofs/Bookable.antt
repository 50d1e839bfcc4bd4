-- What is known of every accepted record: it is read, of a kind that is booked, with copies and a reference, and its school is on the roster that it met; so its key fields have their lengths, and it is booked as its bytes say.
use mathlib.Core.Path.{◌≡◌, refl}
use mathlib.Core.Bool.{Bool, true, false, ◌&&◌}
use mathlib.Core.List.{List, [], ◌∷◌}
use Prim.Native.Nat.{ℕ, ◌≤◌}
use native.Mathlib.Omega.{arith}
use lib.ListN.{length, take}
use Rattle.cells.specs.Bytes.{pick, same, all, joined}
use Rattle.cells.proofs.Bools.{and_false}
use Rattle.record.specs.Layout.{layout, fixed_width, kind_of}
use Rattle.record.specs.Read.{judged}
use Rattle.std.specs.Prelude.{Ok, Some}
use Rattle.record.specs.declared.layout.Kind.{Kind}
use Rattle.record.specs.declared.layout.Kind.TheVariants.{Order, Goods, Closing, Report}
use Rattle.reader.proofs.Fitting.{fitting}
use Rattle.ledger.specs.Book.{school_of, of_school as school_is}
use Rattle.ledger.specs.History.{key_of as keyIn, is_order as isOrdering, on_order, on_slip, has_slip}
use Rattle.book.specs.Lent.{Lent}
use Rattle.roster.specs.Roster.{roster_sound, standing}
use Rattle.book.specs.Booking.{key_fields, slip_fields, line_key, slip_key, school_in, nothing_to_book, no_copies, no_reference, fields_in}
use Rattle.book.specs.Asked.{key_widths, are_wide}
use Rattle.balance.specs.Met.{Met}
use Rattle.balance.specs.Told.{fit_as, fit_kind, fit_of}
use Rattle.balance.specs.Demand3.{is_order, is_delivery, copies_on, key_fields_in, slip_fields_in, same_fields, of_school}
use Rattle.balance.proofs.Accepted.{Accepts}
use Rattle.balance.proofs.Followed.{fit_passed}
use Rattle.book.proofs.Fields.{fields_wide}
use Rattle.balance.proofs.Keys.{fields_are_same, school_widths, school_front}

pub record Bookable (s : Met) : Type 0 where
  pub fields : ℕ
  pub read : judged s.given ≡ Ok fields
  pub kind : Kind
  pub known : kind_of s.given ≡ Some kind
  pub something : nothing_to_book kind s.given ≡ false
  pub copies : no_copies kind s.given ≡ false
  pub referenced : no_reference kind s.given ≡ false
  pub is_roster : roster_sound s.roster ≡ true
  pub ceiling : ℕ
  pub is_on_roster : standing s.roster (school_in kind s.given) ≡ Some ceiling

-- an accepted record is
pub bookable : (s : Met) (b : Lent) → Accepts s b → Bookable s
bookable s b a =
    let fit = fit_passed a.kind s.given s.roster b a.place a.fits in
    record {
      fields = a.fields;
      read = a.read;
      kind = a.kind;
      known = a.known;
      something = fit.something;
      copies = fit.copies;
      referenced = fit.referenced;
      is_roster = a.is_roster;
      ceiling = fit.ceiling;
      is_on_roster = fit.is_on_roster;
    }

-- the seven fields of a record's key have their lengths, and make the key of its line
pub record Keyed (s : Met) : Type 0 where
  pub wide : are_wide key_widths (key_fields_in s) ≡ true
  pub key_is_law : joined (key_fields_in s) ≡ keyIn (fit_of s)

-- of a record of a kind that is long enough
kind_keyed : (s : Met) (k : Kind) → fixed_width k ≤ length s.given → nothing_to_book k s.given ≡ false → kind_of s.given ≡ Some k → Keyed s
unfolding key_fields_in key_fields fit_of fit_kind fit_as keyIn line_key layout all nothing_to_book
kind_keyed s Order h n e =
    record { wide = rw e (fields_wide Order s.given h (key_fields Order) refl); key_is_law = rw e refl }
kind_keyed s Goods h n e =
    record { wide = rw e (fields_wide Goods s.given h (key_fields Goods) refl); key_is_law = rw e refl }
kind_keyed s Closing h n e = absurd (let z : ◌≡◌ {A = ℕ} 0 1 = cc in omega arith)
kind_keyed s Report h n e =
    record { wide = rw e (fields_wide Report s.given h (key_fields Report) refl); key_is_law = rw e refl }

pub keyed : (s : Met) → Bookable s → Keyed s
keyed s b =
    let f = fitting b.kind s.given b.fields b.known b.read in
    kind_keyed s b.kind (omega (arith, f.wide)) b.something b.known

-- the lengths of a slip key's fields
abbrev pub slip_widths : List ℕ
slip_widths = 10 ∷ 2 ∷ 10 ∷ 2 ∷ 8 ∷ 10 ∷ 4 ∷ []

-- the test for a school's fields, on the key of a line
abbrev pub school_test : List (List ℕ) → List ℕ → Bool
school_test school k = are_wide school_widths school && school_is (joined school) k

-- a record has a school's fields, or a key's, exactly where it is booked with them
module _ (s : Met) (b : Bookable s) where
  pub school_in_law : (school : List (List ℕ)) → of_school school (key_fields_in s) ≡ school_test school (keyIn (fit_of s))
  unfolding of_school school_is school_of
  school_in_law school =
      let t = keyed s b in
      let two = school_front (key_fields_in s) t.wide in
      rw (fields_are_same school_widths school (take 2 (key_fields_in s)) two.0, two.1, t.key_is_law) refl

  pub key_in : (fields : List (List ℕ)) → same_fields fields (key_fields_in s) ≡ are_wide key_widths fields && same (joined fields) (keyIn (fit_of s))
  key_in fields =
      let t = keyed s b in
      rw (fields_are_same key_widths fields (key_fields_in s) t.wide, t.key_is_law) refl

-- what a record is booked as, by its kind
pub record BookedAs (s : Met) : Type 0 where
  pub ordering : isOrdering (fit_of s) ≡ is_order s
  pub on_order_law : on_order (fit_of s) ≡ pick (is_order s) (copies_on s) 0
  pub on_slip_law : on_slip (fit_of s) ≡ pick (is_delivery s) (copies_on s) 0
  pub slip_in_law : (slip : List (List ℕ)) → is_delivery s && same_fields slip (slip_fields_in s) ≡ are_wide slip_widths slip && has_slip (joined slip) (fit_of s)

-- a delivery has a slip key's fields exactly where it is booked with that key
goods_slip : (s : Met) → fixed_width Goods ≤ length s.given → (slip : List (List ℕ))
    → same_fields slip (slip_fields_in s) ≡ are_wide slip_widths slip && same (joined slip) (slip_key s.given)
unfolding slip_fields_in slip_key layout all
goods_slip s h slip = rw (fields_are_same slip_widths slip (fields_in Goods slip_fields s.given) (fields_wide Goods s.given h slip_fields refl)) refl

kind_booked : (s : Met) (k : Kind) → fixed_width k ≤ length s.given → nothing_to_book k s.given ≡ false → kind_of s.given ≡ Some k → BookedAs s
unfolding fit_of fit_kind fit_as isOrdering on_order on_slip has_slip is_order is_delivery copies_on nothing_to_book
kind_booked s Order h n e = record { ordering = rw e refl; on_order_law = rw e refl; on_slip_law = rw e refl; slip_in_law = λ slip. rw (e, and_false (are_wide slip_widths slip)) refl }
kind_booked s Goods h n e =
    record { ordering = rw e refl; on_order_law = rw e refl; on_slip_law = rw e refl; slip_in_law = λ slip. rw e (goods_slip s h slip) }
kind_booked s Closing h n e = absurd (let z : ◌≡◌ {A = ℕ} 0 1 = cc in omega arith)
kind_booked s Report h n e = record { ordering = rw e refl; on_order_law = rw e refl; on_slip_law = rw e refl; slip_in_law = λ slip. rw (e, and_false (are_wide slip_widths slip)) refl }

pub booked_as_law : (s : Met) → Bookable s → BookedAs s
booked_as_law s b =
    let f = fitting b.kind s.given b.fields b.known b.read in
    kind_booked s b.kind (omega (arith, f.wide)) b.something b.known
