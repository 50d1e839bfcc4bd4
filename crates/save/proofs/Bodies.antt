-- The bodies of the lines and the slips in a save: where they stand and how long each is.
use mathlib.Core.Path.{◌≡◌, ◌∙◌}
use mathlib.Core.List.{List}
use Prim.Native.Nat.{ℕ, suc, ◌+◌, ◌*◌, ◌≤◌, ◌<◌}
use native.Mathlib.Nat.{mul-suc, mul-le-mul_left}
use native.Mathlib.Omega.{arith}
use lib.ListN.{length}
use lib.Seq.{length-slice}
use Rattle.save.specs.Form.{front_width, line_body_width, saved_line_width, slips_at}
use Rattle.save.specs.Saved.{slip_body_width, saved_slip_width, body_in, line_in, slip_in}
use Rattle.save.specs.declared.form.Form.{Form}
use Rattle.save.specs.declared.form.Form.TheVariants.{Old, New}
use Rattle.save.proofs.Fronts.{front_wide}

-- an entry of a width before the n-th ends where that begins, at the latest
pub entry_before : (w i n : ℕ) → i < n → w * i + w ≤ w * n
entry_before w i n h = omega (arith, mul-suc w i, mul-le-mul_left w h)

-- so a line before the n-th ends where the slips behind n lines begin, at the latest
pub line_before : (form : Form) (i n : ℕ) → i < n → saved_line_width form * i + saved_line_width form ≤ slips_at form n
unfolding slips_at
line_before form i n h = entry_before (saved_line_width form) i n h

-- n lines are at most so many bytes, in either form
pub slips_most : (form : Form) (n : ℕ) → slips_at form n ≤ (1 + front_width) * n
unfolding slips_at saved_line_width line_body_width
slips_most Old n = omega arith
slips_most New n = omega arith

-- an entry is one byte longer than its body
pub entry_wide : (form : Form) → saved_line_width form ≡ suc (line_body_width form)
unfolding saved_line_width
entry_wide form = omega arith

-- a line that stands in the save
module _ (form : Form) (s : List ℕ) (i : ℕ) (h : saved_line_width form * i + saved_line_width form ≤ length s) where
  -- its body
  pub body_long : length (body_in form s i) ≡ line_body_width form
  unfolding body_in
  body_long = length-slice (saved_line_width form * i + 1) (saved_line_width form * i + saved_line_width form) s h ∙ omega (arith, entry_wide form)

  -- its front
  pub line_long : length (line_in form s i) ≡ front_width
  unfolding line_in
  line_long = front_wide form (body_in form s i) body_long

-- the body of a slip that stands in the save
pub slip_long : (s : List ℕ) (at j : ℕ) → at + saved_slip_width * j + saved_slip_width ≤ length s → length (slip_in s at j) ≡ slip_body_width
unfolding slip_in
slip_long s at j h = length-slice (at + saved_slip_width * j + 1) (at + saved_slip_width * j + saved_slip_width) s h ∙ omega arith
