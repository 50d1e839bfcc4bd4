-- Entries of one width, one after the other: how long they are, and stored one at a time; so the lines and the slips of a save.
use mathlib.Core.Path.{◌≡◌, ◌∙◌, ap₂, refl}
use mathlib.Core.List.{List, ◌∷◌}
use Prim.Native.Nat.{ℕ, zero, suc, ◌+◌, ◌*◌, ◌-◌, ◌≤◌, ◌<◌}
use native.Mathlib.Nat.{mul-suc}
use native.Mathlib.Numerals.{add-one}
use native.Mathlib.Omega.{arith}
use lib.ListN.{length, take, length-append}
use lib.Seq.{sets, length-take-le}
use Rattle.cells.proofs.Stores.{sets_append}
use Rattle.save.specs.Form.{front_width, line_kind, line_body_width, saved_line_width, slips_at}
use Rattle.save.specs.Saved.{slip_kind, slip_body_width, saved_slip_width, joined_from, line_entries, slip_entries}
use Rattle.save.specs.declared.form.Form.{Form}
use Rattle.save.proofs.Bodies.{entry_wide}
use Rattle.save.proofs.Fronts.{width_most}

-- entries of w bytes are so long together
pub joined_length : (f : ℕ → List ℕ) (w n i : ℕ) → ((k : ℕ) → i ≤ k → k < i + n → length (f k) ≡ w) → length (joined_from f n i) ≡ w * n
unfolding joined_from
joined_length f w zero i h = omega arith
joined_length f w (suc n) i h =
    length-append (f i) (joined_from f n (suc i))
    ∙ ap₂ (λ (x y : ℕ). x + y) (h i (omega arith) (omega arith)) (joined_length f w n (suc i) (λ k a c. h k (omega arith) (omega arith)))
    ∙ omega (arith, mul-suc w n)

-- of n entries those from i on are left, to be stored at a place
module _ (f : ℕ → List ℕ) (n i : ℕ) (d : List ℕ) (at : ℕ) where
  -- the first of them is stored, the rest behind it
  pub joined_next : (w : ℕ) → i < n → length (f i) ≡ w → sets d at (joined_from f (n - i) i) ≡ sets (sets d at (f i)) (at + w) (joined_from f (n - (i + 1)) (i + 1))
  unfolding joined_from
  joined_next w h l =
      let e : n - i ≡ suc (n - suc i) = omega arith in
      rw (add-one, e, ← l) (sets_append d at (f i) (joined_from f (n - suc i) (suc i)))

  -- none is left
  pub joined_end : n ≤ i → sets d at (joined_from f (n - i) i) ≡ d
  unfolding joined_from
  joined_end h =
      let e : n - i ≡ 0 = omega arith in
      rw e refl

-- the same for using: each step is an equation whose left side shows all
pub joined_step : (f : ℕ → List ℕ) (n i : ℕ) (d : List ℕ) (w : ℕ) → i < n → length (f i) ≡ w → sets d (w * i) (joined_from f (n - i) i) ≡ sets (sets d (w * i) (f i)) (w * (i + 1)) (joined_from f (n - (i + 1)) (i + 1))
joined_step f n i d w h l =
    let p : w * i + w ≡ w * (i + 1) = rw (add-one i) (omega (arith, mul-suc w i)) in
    rw (← p) (joined_next f n i d (w * i) w h l)

pub joined_behind : (f : ℕ → List ℕ) (n i : ℕ) (d : List ℕ) (start w : ℕ) → i < n → length (f i) ≡ w → sets d (start + w * i) (joined_from f (n - i) i) ≡ sets (sets d (start + w * i) (f i)) (start + w * (i + 1)) (joined_from f (n - (i + 1)) (i + 1))
joined_behind f n i d start w h l =
    let p : start + w * i + w ≡ start + w * (i + 1) = rw (add-one i) (omega (arith, mul-suc w i)) in
    rw (← p) (joined_next f n i d (start + w * i) w h l)

-- the entry of a line by its front, in either form
pub line_entry_long : (form : Form) (front : List ℕ) → length front ≡ front_width → length (line_kind form ∷ take (line_body_width form) front) ≡ saved_line_width form
line_entry_long form front e =
    omega (arith, entry_wide form, length-take-le (line_body_width form) front (omega (arith, e, width_most form)))

-- all lines, and all slips
pub lines_long : (form : Form) (line : ℕ → List ℕ) (n : ℕ) → ((i : ℕ) → i < n → length (line i) ≡ front_width) → length (line_entries form line n) ≡ slips_at form n
unfolding line_entries slips_at
lines_long form line n h =
    joined_length (λ i. line_kind form ∷ take (line_body_width form) (line i)) (saved_line_width form) n 0 (λ i x y. line_entry_long form (line i) (h i (omega arith)))

pub slips_long : (slip : ℕ → List ℕ) (m : ℕ) → ((j : ℕ) → j < m → length (slip j) ≡ slip_body_width) → length (slip_entries slip m) ≡ saved_slip_width * m
unfolding slip_entries
slips_long slip m h = joined_length (λ j. slip_kind ∷ slip j) saved_slip_width m 0 (λ j x y. omega (arith, h j (omega arith)))
