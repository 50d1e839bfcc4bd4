-- The saved form of a book: of a sound one, read back; and of one that is told by a save, the save in the new form.
use mathlib.Core.Path.{◌≡◌, ◌∙◌, ap, sym}
use mathlib.Core.Bool.{true}
use mathlib.Core.List.{List}
use Prim.Native.Nat.{ℕ, ◌+◌, ◌*◌, ◌≤◌, ◌<◌}
use native.Mathlib.Omega.{arith}
use lib.ListN.{length, take}
use lib.Seq.{slice, length-slice}
use Rattle.cells.specs.Little.{le_at}
use Rattle.cells.proofs.Parts.{parts_join}
use Rattle.entry.specs.Stored.{line_width, arrived_at, slip_width, line_at}
use Rattle.book.specs.Lent.{Lent, used_lines, used_slips}
use Rattle.book.proofs.Sounds.{sound_so}
use Rattle.save.specs.Form.{front_width, front_of, line_body_width, slips_at}
use Rattle.save.specs.Entries.{arrived_on}
use Rattle.save.specs.Saved.{slip_body_width, joined_from, line_front_at, slip_body_at, saved_form, saved_width, stated_lines, stated_slips, line_in, slip_in, is_save_of}
use Rattle.save.specs.Load.{line_from, loaded_line}
use Rattle.save.specs.Moves.{moved}
use Rattle.save.specs.declared.form.Form.{Form}
use Rattle.save.specs.declared.form.Form.TheVariants.{New}
use Rattle.save.proofs.Views.{arrived_same}
use Rattle.restored.specs.Restored.{Bytes, Orderly, Tells}
use Rattle.restored.proofs.Cuts.{bytes_back}
use Rattle.restored.proofs.Joined.{joined_front}
use Rattle.restored.proofs.Says.{new_says}
use Rattle.restored.proofs.Forms.{formed_same, formed_length, formed_line, formed_slip, formed_lines, formed_slips, formed_save, valid_so, moved_formed}
use Rattle.restored.proofs.Taken.{form_taken, slips_taken}

-- a book that a save of bytes tells is saved as the save is moved to the new form
pub told_saved : (form : Form) (s : List ℕ) (b c : Lent) → Bytes s → is_save_of form s ≡ true → Tells s b c → saved_form c ≡ moved form New s
unfolding saved_form
told_saved form s b c bytes valid t =
    let n : ℕ = stated_lines s in
    let m : ℕ = stated_slips s in
    rw (t.count_lines, t.count_slips)
    (formed_same New n m (line_front_at c.lines) (line_in form s) (slip_body_at c.slips) (slip_in s (slips_at form n))
    (λ i a. t.line i a ∙ ap (λ (f : Form). line_in f s i) (form_taken form s valid (omega arith)))
    (λ j a. t.slip j a ∙ ap (λ (at : ℕ). slip_in s at j) (slips_taken form s valid))
    ∙ sym (moved_formed form s bytes (valid_so form s valid) New))

-- an orderly book
module _ (b : Lent) (orderly : Orderly b) where
  abbrev n : ℕ
  n = used_lines b

  abbrev m : ℕ
  m = used_slips b

  abbrev line : ℕ → List ℕ
  line = line_front_at b.lines

  abbrev slip : ℕ → List ℕ
  slip = slip_body_at b.slips

  -- the front of a line is of its width
  line_wide : (i : ℕ) → i < n → length (line i) ≡ front_width
  unfolding line_front_at
  line_wide i a = length-slice (line_width * i) (line_width * i + front_width) b.lines (omega (arith, (sound_so b orderly.is_sound).lines_in)) ∙ omega arith

  -- the new form says all of it
  line_said : (i : ℕ) → i < n → front_of New (take (line_body_width New) (line i)) ≡ line i
  line_said i a = new_says (line i) (line_wide i a)

  -- a slip's body
  slip_wide : (j : ℕ) → j < m → length (slip j) ≡ slip_body_width
  unfolding slip_body_at
  slip_wide j a = length-slice (slip_width * j) (slip_width * j + slip_body_width) b.slips (omega (arith, (sound_so b orderly.is_sound).slips_in)) ∙ omega arith

  -- its lines are a number of two bytes
  few_lines : n < 65536
  few_lines = let say = sound_so b orderly.is_sound in omega (arith, say.lines_fit, say.lines_most)

  -- its slips are
  few_slips : m < 65536
  few_slips = let say = sound_so b orderly.is_sound in omega (arith, say.slips_fit, say.slips_most)

  -- its saved form is so long
  pub saved_width_law : length (saved_form b) ≡ saved_width New n m
  unfolding saved_form
  saved_width_law = formed_length New n m line slip line_wide slip_wide

  -- is a valid save
  pub saved_valid : is_save_of New (saved_form b) ≡ true
  unfolding saved_form
  saved_valid = formed_save New n m line slip line_wide slip_wide line_said few_lines few_slips orderly.entries

  -- states the lines
  pub saved_lines : stated_lines (saved_form b) ≡ n
  unfolding saved_form
  saved_lines = formed_lines New n m line slip line_wide slip_wide few_lines

  -- states the slips
  pub saved_slips : stated_slips (saved_form b) ≡ m
  unfolding saved_form
  saved_slips = formed_slips New n m line slip line_wide slip_wide few_slips

  -- the fronts of lines stand there
  saved_line : (i : ℕ) → i < n → line_in New (saved_form b) i ≡ line i
  unfolding saved_form
  saved_line i a = formed_line New n m line slip line_wide slip_wide line_said i a

  -- the bodies of slips
  saved_slip : (j : ℕ) → j < m → slip_in (saved_form b) (slips_at New n) j ≡ slip j
  unfolding saved_form
  saved_slip j a = formed_slip New n m line slip line_wide slip_wide j a

  -- a line is loaded as it stands in the book
  line_again : Bytes b.lines → (i : ℕ) → i < n → loaded_line New (saved_form b) n m i ≡ slice (line_width * i) (line_width * i + line_width) b.lines
  unfolding loaded_line line_from line_at line_front_at
  line_again bytes i a =
      let at : ℕ = line_width * i + arrived_at in
      let room : at + 4 ≤ length b.lines = omega (arith, (sound_so b orderly.is_sound).lines_in) in
      let sum : arrived_on (slip_in (saved_form b) (slips_at New n)) m i ≡ le_at b.lines at 4 =
      arrived_same m (slip_in (saved_form b) (slips_at New n)) slip saved_slip i ∙ sym (orderly.sums i a) in
      rw (saved_line i a, sum, bytes_back b.lines bytes 4 at room) (parts_join (line_width * i) arrived_at 4 b.lines)

  -- the loaded lines are the used lines of the book
  pub lines_again : Bytes b.lines → joined_from (loaded_line New (saved_form b) n m) n 0 ≡ take (line_width * n) b.lines
  lines_again bytes = joined_front b.lines line_width (loaded_line New (saved_form b) n m) n (sound_so b orderly.is_sound).lines_in (line_again bytes)

  -- the slips
  pub slips_again : joined_from (slip_in (saved_form b) (slips_at New n)) m 0 ≡ take (slip_width * m) b.slips
  unfolding slip_body_at
  slips_again = joined_front b.slips slip_width (slip_in (saved_form b) (slips_at New n)) m (sound_so b orderly.is_sound).slips_in saved_slip
