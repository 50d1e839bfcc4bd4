-- Loading a save of either form into a lent book (RULES 9.4).
use Rattle.std.specs.Prelude.{ℕ, Result, Ok, Err, ◌&&◌, List, ◌++◌, leb, set}
use Rattle.std.proofs.lemmas.List.Edits.{sets}
use Rattle.cells.specs.Bytes.{pick}
use Rattle.cells.specs.Little.{le_bytes}
use Rattle.book.specs.Lent.{Lent, line_room, slip_room, rooms_sound}
use Rattle.save.specs.Form.{slips_at}
use Rattle.save.specs.Entries.{arrived_on}
use Rattle.save.specs.Saved.{refused_number, joined_from, stated_lines, stated_slips, line_in, slip_in, is_save, form_in}
use Rattle.save.specs.declared.answer.Refused.{Refused}
use Rattle.save.specs.declared.answer.Refused.TheVariants.{Unsound, NoSave, TooSmall}
use Rattle.save.specs.declared.answer.Loaded.{Loaded}
use Rattle.save.specs.declared.form.Form.{Form}

-- a line of the book from its front and its A
unfoldable pub line_from : List ℕ → ℕ → List ℕ
line_from front arrived = front ++ le_bytes 4 arrived

-- that of a save of n lines and m slips; A is the sum of its slips
unfoldable pub loaded_line : Form → List ℕ → ℕ → ℕ → ℕ → List ℕ
loaded_line form s n m i = line_from (line_in form s i) (arrived_on (slip_in s (slips_at form n)) m i)

-- the lent book with the counts and entries of the save in it
unfoldable pub lent_loaded : Form → List ℕ → ℕ → ℕ → Lent → Lent
lent_loaded form s n m b =
    record {
      lines = sets b.lines 0 (joined_from (loaded_line form s n m) n 0);
      slips = sets b.slips 0 (joined_from (slip_in s (slips_at form n)) m 0);
      used = set (set b.used 0 n) 1 m;
    }

-- what loading says, and the lent book afterwards
pub record Outcome : Type 0 where
  pub said : Loaded
  pub lent : Lent

abbrev pub outcome : Loaded → Lent → Outcome
outcome said b = record { said = said; lent = b }

-- what a refusal says
unfoldable pub not_loaded : Refused → Loaded
not_loaded r = record { answer = refused_number r; place = 0 }

abbrev pub done_as : Loaded
done_as = record { answer = 0; place = 0 }

-- what loading says: done, or a refusal
unfoldable pub loaded_of : Result (Unit {0}) Refused → Loaded
loaded_of (Ok _) = done_as
loaded_of (Err r) = not_loaded r

unfoldable pub load : List ℕ → Lent → Outcome
load s b =
    pick (rooms_sound b)
    (pick (is_save s)
    (pick (leb (stated_lines s) (line_room b) && leb (stated_slips s) (slip_room b))
    (outcome done_as (lent_loaded (form_in s) s (stated_lines s) (stated_slips s) b))
    (outcome (not_loaded TooSmall) b))
    (outcome (not_loaded NoSave) b))
    (outcome (not_loaded Unsound) b)
