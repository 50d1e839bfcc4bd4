-- Saving and loading, the statements: load of a save gives the book, save of what was loaded gives the bytes, from an old save those of its new form, and what a load can be.
use Rattle.std.specs.Prelude.{ℕ, ◌*◌, ◌≤◌, ◌<◌, ◌≡◌, true, ◌&&◌, ◌⊎◌, List, eqb, leb, ltb, length, take, drop}
use Rattle.std.proofs.lemmas.List.Edits.{sets}
use Rattle.cells.specs.Bytes.{all}
use Rattle.entry.specs.Stored.{line_width, slip_width, line_at}
use Rattle.book.specs.Lent.{Lent, used_lines, used_slips, line_room, slip_room, sound, rooms_sound}
use Rattle.save.specs.Form.{slips_at}
use Rattle.save.specs.Entries.{arrived_on, entries_kept}
use Rattle.save.specs.Saved.{Written, written, line_front_at, slip_body_at, saved_as, save, stated_lines, stated_slips, line_in, slip_in, is_save_of, is_save, form_in}
use Rattle.save.specs.Load.{Outcome, load}
use Rattle.save.specs.Moves.{to_new}
use Rattle.save.specs.declared.form.Form.TheVariants.{Old, New}

-- a list of bytes
abbrev pub Bytes : List ℕ → Type 0
Bytes s = all (λ b. ltb b 256) s ≡ true

-- a book that comes back from its save (RULES 9.5): sound, its entries as a save may have them, each A what its slips come to
pub record Orderly (b : Lent) : Type 0 where
  pub is_sound : sound b ≡ true
  pub entries : entries_kept (used_lines b) (used_slips b) (line_front_at b.lines) (slip_body_at b.slips) ≡ true
  pub sums : (i : ℕ) → i < used_lines b → (line_at b.lines i).arrived.0 ≡ arrived_on (slip_body_at b.slips) (used_slips b) i

-- two books with equal counts and used entries
pub record SameBook (b c : Lent) : Type 0 where
  pub count_lines : used_lines c ≡ used_lines b
  pub count_slips : used_slips c ≡ used_slips b
  pub lines : take (line_width * used_lines b) c.lines ≡ take (line_width * used_lines b) b.lines
  pub slips : take (slip_width * used_slips b) c.slips ≡ take (slip_width * used_slips b) b.slips

-- a lent book, of any contents, with room for the used entries of another
pub record Holds (c b : Lent) : Type 0 where
  pub rooms : rooms_sound c ≡ true
  pub counts : length c.used ≡ 2
  pub lines : used_lines b ≤ line_room c
  pub slips : used_slips b ≤ slip_room c

-- the bytes that a save wrote
abbrev pub saved_bytes : Written → List ℕ
saved_bytes w = take w.said.length w.out

-- a book that was saved and loaded uses the same entries as before, messages and expected dates among them
abbrev pub LoadOfSave : Type 0
LoadOfSave =
    (b c : Lent) (out : List ℕ) → Orderly b → Bytes b.lines → Holds c b → (save b out).said.answer ≡ 0
    → ((load (saved_bytes (save b out)) c).said.answer ≡ 0) × SameBook b (load (saved_bytes (save b out)) c).lent

-- save of what was loaded from a save of the new form gives the same bytes, and changes nothing else of the output
abbrev pub SaveOfLoad : Type 0
SaveOfLoad =
    (s : List ℕ) (b : Lent) (out : List ℕ) → Bytes s → is_save_of New s ≡ true → length b.used ≡ 2 → (load s b).said.answer ≡ 0 → length s ≤ length out
    → save (load s b).lent out ≡ written (saved_as (length s)) (sets out 0 s)

-- save of what was loaded from a save of the old form says and writes what the move to the new form does, into any output
abbrev pub SaveOfOldLoad : Type 0
SaveOfOldLoad =
    (s : List ℕ) (b : Lent) (out : List ℕ) → Bytes s → is_save_of Old s ≡ true → length b.used ≡ 2 → (load s b).said.answer ≡ 0
    → save (load s b).lent out ≡ to_new s out

-- the book c that a save tells, where b was lent: its counts and entries, of each line the front that its form says, as each A the sum of the line's slips, and nothing else is changed
pub record Tells (s : List ℕ) (b c : Lent) : Type 0 where
  pub valid : is_save s ≡ true
  pub count_lines : used_lines c ≡ stated_lines s
  pub count_slips : used_slips c ≡ stated_slips s
  pub line : (i : ℕ) → i < stated_lines s → line_front_at c.lines i ≡ line_in (form_in s) s i
  pub slip : (j : ℕ) → j < stated_slips s → slip_body_at c.slips j ≡ slip_in s (slips_at (form_in s) (stated_lines s)) j
  pub orderly : Orderly c
  pub other_lines : drop (line_width * stated_lines s) c.lines ≡ drop (line_width * stated_lines s) b.lines
  pub other_slips : drop (slip_width * stated_slips s) c.slips ≡ drop (slip_width * stated_slips s) b.slips
  pub line_length : length c.lines ≡ length b.lines
  pub slip_length : length c.slips ≡ length b.slips
  pub used_length : length c.used ≡ 2

-- a refusal: 20, 22 or 23, with nothing changed
pub record Refuses (o : Outcome) (b : Lent) : Type 0 where
  pub answer : (o.said.answer ≡ 20) ⊎ ((o.said.answer ≡ 22) ⊎ (o.said.answer ≡ 23))
  pub lent : o.lent ≡ b

-- a load gives the book that the save tells, or refuses
abbrev pub ToldOrRefused : Type 0
ToldOrRefused = (s : List ℕ) (b : Lent) → length b.used ≡ 2 → (((load s b).said.answer ≡ 0) × Tells s b (load s b).lent) ⊎ Refuses (load s b) b

-- a load is done exactly where the rooms are of right size, the bytes are a valid save, and its lines and slips fit
abbrev pub LoadsExactly : Type 0
LoadsExactly =
    (s : List ℕ) (b : Lent) → eqb (load s b).said.answer 0 ≡ rooms_sound b && (is_save s && (leb (stated_lines s) (line_room b) && leb (stated_slips s) (slip_room b)))
