-- Bytes that are a save of a form: how long they are, and that a save is of the form by which it is taken.
use mathlib.Core.Path.{◌≡◌, ◌∙◌, sym, refl}
use mathlib.Core.Bool.{Bool, true, false, ◌&&◌, ◌||◌}
use mathlib.Core.List.{List}
use Prim.Native.Nat.{ℕ, ◌+◌, ◌*◌, ◌<◌}
use native.Mathlib.Nat.{mul-zero}
use native.Mathlib.Omega.{arith}
use borrow.Author.Tests.{eqb-true, eqb-false}
use lib.Dec.{eqb, leb}
use lib.ListN.{length, get_or}
use Rattle.cells.specs.Bytes.{pick}
use Rattle.cells.specs.Search.{all_from}
use Rattle.cells.proofs.Bools.{split, and_left, and_right, or_false}
use Rattle.cells.proofs.Searches.{all_at}
use Rattle.save.specs.Form.{line_kind, saved_line_width, slips_at}
use Rattle.save.specs.Entries.{entries_kept}
use Rattle.save.specs.Saved.{slip_kind, saved_slip_width, end_kind, end_width, saved_width, stated_lines, stated_slips, line_in, slip_in, all_of_kind, in_form, is_save_of, is_save, form_in}
use Rattle.save.specs.declared.form.Form.{Form}
use Rattle.save.specs.declared.form.Form.TheVariants.{Old, New}
use Rattle.save.proofs.Views.{entries_same}

-- bytes in form hold their lines, slips and end
pub form_long : (form : Form) (n m : ℕ) (s : List ℕ) → in_form form n m s ≡ true → length s ≡ slips_at form n + saved_slip_width * m + end_width
unfolding in_form saved_width
form_long form n m s h = eqb-true _ _ (and_left (eqb (length s) (slips_at form n + saved_slip_width * m + end_width)) _ h)

-- without lines the slips stand first, in either form
no_lines_at : (form : Form) → slips_at form 0 ≡ 0
unfolding slips_at
no_lines_at form = mul-zero (saved_line_width form)

-- and the tests are the same
no_lines_form : (form : Form) (m : ℕ) (s : List ℕ) → in_form form 0 m s ≡ eqb (length s) (0 + saved_slip_width * m + end_width) && (all_of_kind slip_kind saved_slip_width 0 m s && eqb (get_or s (0 + saved_slip_width * m) 0) end_kind)
unfolding in_form saved_width all_of_kind all_from
no_lines_form form m s = rw (no_lines_at form) refl

no_lines_judged : (form : Form) (n m : ℕ) (s : List ℕ) → n ≡ 0
    → in_form form n m s && entries_kept n m (line_in form s) (slip_in s (slips_at form n)) ≡ in_form New 0 m s && entries_kept 0 m (line_in New s) (slip_in s 0)
no_lines_judged form n m s e =
    rw (e, no_lines_at form, no_lines_form form m s, no_lines_form New m s, entries_same 0 m (line_in form s) (line_in New s) (slip_in s 0) (slip_in s 0) (λ x h. absurd (omega arith)) (λ x h. refl)) refl

-- so a save without lines is of both forms
pub no_lines : (form form' : Form) (s : List ℕ) → stated_lines s ≡ 0 → is_save_of form s ≡ is_save_of form' s
unfolding is_save_of
no_lines form form' s e =
    rw (no_lines_judged form (stated_lines s) (stated_slips s) s e, no_lines_judged form' (stated_lines s) (stated_slips s) s e) refl

-- a save with lines begins with the kind of its form
pub first_kind : (form : Form) (s : List ℕ) → is_save_of form s ≡ true → 0 < stated_lines s → get_or s 0 0 ≡ line_kind form
unfolding is_save_of in_form all_of_kind
first_kind form s h some =
    let n : ℕ = stated_lines s in
    let m : ℕ = stated_slips s in
    let slips : Bool = all_of_kind slip_kind saved_slip_width (slips_at form n) m s && eqb (get_or s (slips_at form n + saved_slip_width * m) 0) end_kind in
    let f : in_form form n m s ≡ true = and_left (in_form form n m s) _ (and_right (leb end_width (length s)) _ h) in
    let k : all_of_kind (line_kind form) (saved_line_width form) 0 n s ≡ true = and_left (all_of_kind (line_kind form) (saved_line_width form) 0 n s) slips (and_right (eqb (length s) (saved_width form n m)) _ f) in
    let e : get_or s (0 + saved_line_width form * 0) 0 ≡ line_kind form = eqb-true _ _ (all_at (λ i. eqb (get_or s (0 + saved_line_width form * i) 0) (line_kind form)) n 0 0 k (omega arith) (omega arith)) in
    let z : 0 + saved_line_width form * 0 ≡ 0 = omega (arith, mul-zero (saved_line_width form)) in
    rw z at e

-- a first byte that is not its kind: no save of the form
not_kind : (form : Form) (s : List ℕ) → 0 < stated_lines s → (get_or s 0 0 ≡ line_kind form → ⊥) → is_save_of form s ≡ false
not_kind form s some other = split (is_save_of form s) (λ e. absurd (other (first_kind form s e some))) (λ e. e)

-- a test twice
or_twice : (a : Bool) → a || a ≡ a
or_twice true = refl
or_twice false = refl

-- bytes are a save of either form where they are one of the form by which they are taken
pub either_form : (s : List ℕ) → is_save s ≡ is_save_of (form_in s) s
unfolding is_save form_in
either_form s =
    split (eqb (stated_lines s) 0)
    (λ z. let e = eqb-true (stated_lines s) 0 z in
    rw (no_lines Old New s e, no_lines (pick (eqb (get_or s 0 0) (line_kind Old)) Old New) New s e) (or_twice (is_save_of New s)))
    (λ z. let some : 0 < stated_lines s = omega (arith, eqb-false (stated_lines s) 0 z) in
    split (eqb (get_or s 0 0) (line_kind Old))
    (λ k. rw (k, not_kind New s some (λ e. other (sym (eqb-true _ _ k) ∙ e))) (or_false (is_save_of Old s)))
    (λ k. rw (k, not_kind Old s some (eqb-false _ _ k)) refl))
  where
    other : line_kind Old ≡ line_kind New → ⊥
    other e = unfold line_kind in omega (arith, e)
