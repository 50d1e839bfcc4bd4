-- The bytes of a save in either form, saving, and the bytes that are exactly a valid save (RULES 9.2, 9.3).
use Rattle.std.specs.Prelude.{ℕ, zero, suc, ◌+◌, ◌*◌, ◌-◌, Result, Ok, Err, Bool, ◌&&◌, ◌||◌, List, [], ◌∷◌, ◌++◌, eqb, leb, length, get_or, take}
use Rattle.std.proofs.Math.Seq.{slice}
use Rattle.std.proofs.lemmas.List.Edits.{sets}
use Rattle.cells.specs.Bytes.{pick}
use Rattle.cells.specs.Little.{le_at, le_bytes}
use Rattle.cells.specs.Search.{all_from}
use Rattle.entry.specs.Stored.{line_width, slip_width}
use Rattle.book.specs.Lent.{Lent, used_lines, used_slips, sound}
use Rattle.save.specs.Form.{front_width, line_kind, line_body_width, front_of, kind_byte, saved_line_width, slips_at}
use Rattle.save.specs.Entries.{entries_kept}
use Rattle.save.specs.declared.answer.Refused.{Refused}
use Rattle.save.specs.declared.answer.Refused.TheVariants.{Unsound, NoSave, TooSmall, MessageLost}
use Rattle.save.specs.declared.answer.Saved.{Saved}
use Rattle.save.specs.declared.form.Form.{Form}
use Rattle.save.specs.declared.form.Form.TheVariants.{Old, New}

-- the answer number of each refusal
unfoldable pub refused_number : Refused → ℕ
refused_number Unsound = 20
refused_number NoSave = 22
refused_number TooSmall = 23
refused_number MessageLost = 28

-- the byte of kind of a slip, and of the end
abbrev pub slip_kind : ℕ
slip_kind = 2

abbrev pub end_kind : ℕ
end_kind = 0

-- the body of a slip is its entry in the book
abbrev pub slip_body_width : ℕ
slip_body_width = slip_width

abbrev pub saved_slip_width : ℕ
saved_slip_width = kind_byte + slip_body_width

-- the end: a byte of kind, then the used lines and the used slips
abbrev pub count_width : ℕ
count_width = 2

abbrev pub end_width : ℕ
end_width = kind_byte + (count_width + count_width)

-- what stands at the n places from i on, one after the other
unfoldable pub joined_from : (ℕ → List ℕ) → ℕ → ℕ → List ℕ
joined_from f zero i = []
joined_from f (suc n) i = f i ++ joined_from f n (suc i)

-- the front of a line and the body of a slip in the lent bytes of a book
unfoldable pub line_front_at : List ℕ → ℕ → List ℕ
line_front_at lines i = slice (line_width * i) (line_width * i + front_width) lines

unfoldable pub slip_body_at : List ℕ → ℕ → List ℕ
slip_body_at slips j = slice (slip_width * j) (slip_width * j + slip_body_width) slips

-- entries: a byte of kind, then a body; of a line so much of its front as the form has
unfoldable pub line_entries : Form → (ℕ → List ℕ) → ℕ → List ℕ
line_entries form line n = joined_from (λ i. line_kind form ∷ take (line_body_width form) (line i)) n 0

unfoldable pub slip_entries : (ℕ → List ℕ) → ℕ → List ℕ
slip_entries slip m = joined_from (λ j. slip_kind ∷ slip j) m 0

unfoldable pub end_entry : ℕ → ℕ → List ℕ
end_entry n m = end_kind ∷ (le_bytes count_width n ++ le_bytes count_width m)

-- a save of n lines and m slips in a form: the lines, the slips, the end (RULES 9.2)
unfoldable pub formed : Form → ℕ → ℕ → (ℕ → List ℕ) → (ℕ → List ℕ) → List ℕ
formed form n m line slip = line_entries form line n ++ (slip_entries slip m ++ end_entry n m)

-- how long it is
unfoldable pub saved_width : Form → ℕ → ℕ → ℕ
saved_width form n m = slips_at form n + saved_slip_width * m + end_width

-- a book is saved in the new form
unfoldable pub saved_form : Lent → List ℕ
saved_form b = formed New (used_lines b) (used_slips b) (line_front_at b.lines) (slip_body_at b.slips)

-- what saving says, and the lent output afterwards
pub record Written : Type 0 where
  pub said : Saved
  pub out : List ℕ

abbrev pub written : Saved → List ℕ → Written
written said out = record { said = said; out = out }

unfoldable pub not_saved : Refused → Saved
not_saved r = record { answer = refused_number r; place = 0; length = 0 }

unfoldable pub saved_as : ℕ → Saved
saved_as n = record { answer = 0; place = 0; length = n }

-- what saving and moving say: done, with the length of what was written, or a refusal
unfoldable pub saved_of : Result ℕ Refused → Saved
saved_of (Ok length) = saved_as length
saved_of (Err r) = not_saved r

-- saving, with its two refusals in order (RULES 9.3)
unfoldable pub save : Lent → List ℕ → Written
save b out =
    pick (sound b)
    (pick (leb (saved_width New (used_lines b) (used_slips b)) (length out))
    (written (saved_as (saved_width New (used_lines b) (used_slips b))) (sets out 0 (saved_form b)))
    (written (not_saved TooSmall) out))
    (written (not_saved Unsound) out)

-- how far before the end of a save its counts stand
abbrev pub lines_back : ℕ
lines_back = count_width + count_width

abbrev pub slips_back : ℕ
slips_back = count_width

-- the counts that the end of a save states
unfoldable pub stated_lines : List ℕ → ℕ
stated_lines s = le_at s (length s - lines_back) count_width

unfoldable pub stated_slips : List ℕ → ℕ
stated_slips s = le_at s (length s - slips_back) count_width

-- the body of the line with an index in a save of a form, and the front that it says
unfoldable pub body_in : Form → List ℕ → ℕ → List ℕ
body_in form s i = slice (saved_line_width form * i + kind_byte) (saved_line_width form * i + saved_line_width form) s

unfoldable pub line_in : Form → List ℕ → ℕ → List ℕ
line_in form s i = front_of form (body_in form s i)

-- the body of the slip with an index, where the slips stand from a place on
unfoldable pub slip_in : List ℕ → ℕ → ℕ → List ℕ
slip_in s at j = slice (at + saved_slip_width * j + kind_byte) (at + saved_slip_width * j + saved_slip_width) s

-- each of the entries of a width, count of them from a place on, begins with a kind
unfoldable pub all_of_kind : ℕ → ℕ → ℕ → ℕ → List ℕ → Bool
all_of_kind kind width from count s = all_from (λ i. eqb (get_or s (from + width * i) 0) kind) count 0

-- n lines of the form, m slips and the end, and nothing else
unfoldable pub in_form : Form → ℕ → ℕ → List ℕ → Bool
in_form form n m s =
    eqb (length s) (saved_width form n m)
    && (all_of_kind (line_kind form) (saved_line_width form) 0 n s
    && (all_of_kind slip_kind saved_slip_width (slips_at form n) m s && eqb (get_or s (slips_at form n + saved_slip_width * m) 0) end_kind))

-- a valid save of a form and not a byte more (RULES 9.2)
unfoldable pub is_save_of : Form → List ℕ → Bool
is_save_of form s =
    leb end_width (length s)
    && (in_form form (stated_lines s) (stated_slips s) s
    && entries_kept (stated_lines s) (stated_slips s) (line_in form s) (slip_in s (slips_at form (stated_lines s))))

-- a valid save, of either form
unfoldable pub is_save : List ℕ → Bool
is_save s = is_save_of Old s || is_save_of New s

-- the form by which a save is taken: the old one where its first entry is a line of that, else the new one
unfoldable pub form_in : List ℕ → Form
form_in s = pick (eqb (get_or s 0 0) (line_kind Old)) Old New
