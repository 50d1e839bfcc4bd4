-- Asking for a line by the fields of its key (RULES 8).
use Rattle.std.specs.Prelude.{ℕ, Bool, true, false, ◌&&◌, List, [], ◌∷◌, eqb, length, None, Option, Some}
use Rattle.cells.specs.Bytes.{pick, joined}
use Rattle.entry.specs.Stored.{line_at}
use Rattle.book.specs.Lent.{Lent, sound, find_line}
use Rattle.book.specs.Booking.{refused_as, done_as}
use Rattle.book.specs.declared.answer.Refused.TheVariants.{Unsound, NoLine}
use Rattle.book.specs.declared.answer.Told.{Told}

-- the lengths of a key's fields: school, its qualifier, supplier, its qualifier, reference
abbrev pub key_widths : List ℕ
key_widths = 10 ∷ 2 ∷ 10 ∷ 2 ∷ 10 ∷ []

-- each field has its length
unfoldable pub are_wide : List ℕ → List (List ℕ) → Bool
are_wide [] [] = true
are_wide [] (f ∷ fs) = false
are_wide (w ∷ ws) [] = false
are_wide (w ∷ ws) (f ∷ fs) = eqb (length f) w && are_wide ws fs

unfoldable pub figures_at : Lent → Option ℕ → Told
figures_at b None = refused_as NoLine
figures_at b (Some i) = done_as (line_at b.lines i)

-- what is asked of a sound book; the key's fields are not judged by the field rules
unfoldable pub figures_of_key : List (List ℕ) → Lent → Told
figures_of_key fields b = pick (are_wide key_widths fields) (figures_at b (find_line b (joined fields))) (refused_as NoLine)

-- 20 first
unfoldable pub line_asked : List (List ℕ) → Lent → Told
line_asked fields b = pick (sound b) (figures_of_key fields b) (refused_as Unsound)
