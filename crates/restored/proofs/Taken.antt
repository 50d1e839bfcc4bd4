-- A save is taken by its form: the one that it is of, and where it has no lines, either.
use mathlib.Core.Path.{◌≡◌, ◌∙◌, ap, sym}
use mathlib.Core.Bool.{true}
use mathlib.Core.List.{List}
use Prim.Native.Nat.{ℕ, ◌<◌, ◌*◌}
use native.Mathlib.Nat.{mul-zero}
use native.Mathlib.Omega.{arith}
use lib.Dec.{eqb}
use lib.ListN.{get_or, set}
use lib.Seq.{sets}
use borrow.Author.Tests.{eqb-true, eqb-false, eq-eqb}
use Rattle.cells.proofs.Bools.{split}
use Rattle.book.specs.Lent.{Lent}
use Rattle.save.specs.Form.{line_kind, saved_line_width, slips_at}
use Rattle.save.specs.Saved.{joined_from, stated_lines, stated_slips, slip_in, is_save_of, is_save, form_in}
use Rattle.save.specs.Load.{loaded_line, lent_loaded}
use Rattle.save.specs.declared.form.Form.{Form}
use Rattle.save.specs.declared.form.Form.TheVariants.{Old, New}
use Rattle.save.proofs.Forms.{first_kind, no_lines, either_form}
use Rattle.restored.proofs.Joined.{joined_same}

-- a save with lines
pub form_taken : (form : Form) (s : List ℕ) → is_save_of form s ≡ true → 0 < stated_lines s → form_in s ≡ form
form_taken form s h some = go form (first_kind form s h some)
  where
    go : (f : Form) → get_or s 0 0 ≡ line_kind f → form_in s ≡ f
    go Old e = unfold form_in in rw (eq-eqb _ _ e)
    go New e = unfold form_in line_kind in rw e

-- any save: where its slips stand
pub slips_taken : (form : Form) (s : List ℕ) → is_save_of form s ≡ true → slips_at (form_in s) (stated_lines s) ≡ slips_at form (stated_lines s)
unfolding slips_at
slips_taken form s h =
    split (eqb (stated_lines s) 0)
    (λ z. rw (eqb-true (stated_lines s) 0 z) (mul-zero (saved_line_width (form_in s)) ∙ sym (mul-zero (saved_line_width form))))
    (λ z. ap (λ (f : Form). saved_line_width f * stated_lines s) (form_taken form s h (omega (arith, eqb-false (stated_lines s) 0 z))))

-- it is a valid save, and one of the form by which it is taken
pub valid_taken : (form : Form) (s : List ℕ) → is_save_of form s ≡ true → is_save_of (form_in s) s ≡ true
valid_taken form s h =
    split (eqb (stated_lines s) 0)
    (λ z. no_lines (form_in s) form s (eqb-true (stated_lines s) 0 z) ∙ h)
    (λ z. rw (form_taken form s h (omega (arith, eqb-false (stated_lines s) 0 z))) h)

pub save_taken : (form : Form) (s : List ℕ) → is_save_of form s ≡ true → is_save s ≡ true
save_taken form s h = either_form s ∙ valid_taken form s h

-- and what it loads to
pub lines_taken : (form : Form) (s : List ℕ) → is_save_of form s ≡ true
    → joined_from (loaded_line (form_in s) s (stated_lines s) (stated_slips s)) (stated_lines s) 0 ≡ joined_from (loaded_line form s (stated_lines s) (stated_slips s)) (stated_lines s) 0
lines_taken form s h =
    joined_same (loaded_line (form_in s) s (stated_lines s) (stated_slips s)) (loaded_line form s (stated_lines s) (stated_slips s)) (stated_lines s) 0
    (λ i a c. ap (λ (f : Form). loaded_line f s (stated_lines s) (stated_slips s) i) (form_taken form s h (omega arith)))

pub slips_loaded : (form : Form) (s : List ℕ) → is_save_of form s ≡ true
    → joined_from (slip_in s (slips_at (form_in s) (stated_lines s))) (stated_slips s) 0 ≡ joined_from (slip_in s (slips_at form (stated_lines s))) (stated_slips s) 0
slips_loaded form s h = ap (λ (at : ℕ). joined_from (slip_in s at) (stated_slips s) 0) (slips_taken form s h)

pub lent_taken : (form : Form) (s : List ℕ) (b : Lent) → is_save_of form s ≡ true
    → lent_loaded (form_in s) s (stated_lines s) (stated_slips s) b ≡ lent_loaded form s (stated_lines s) (stated_slips s) b
unfolding lent_loaded
lent_taken form s b h = λ i. record {
  lines = sets b.lines 0 (lines_taken form s h i);
  slips = sets b.slips 0 (slips_loaded form s h i);
  used = set (set b.used 0 (stated_lines s)) 1 (stated_slips s);
}
