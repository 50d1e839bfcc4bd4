-- Moving a save from the old form to the new one and back (RULES 9.6).
use Rattle.std.specs.Prelude.{ℕ, Bool, not, List, ◌++◌, leb, length, drop}
use Rattle.std.proofs.lemmas.List.Edits.{sets}
use Rattle.cells.specs.Bytes.{pick}
use Rattle.cells.specs.Little.{le_at}
use Rattle.cells.specs.Search.{all_from}
use Rattle.entry.specs.Report.{most_message}
use Rattle.entry.specs.Stored.{message_at}
use Rattle.save.specs.Form.{slips_at}
use Rattle.save.specs.Saved.{Written, written, not_saved, saved_as, line_entries, saved_width, stated_lines, stated_slips, line_in, is_save_of}
use Rattle.save.specs.declared.answer.Refused.TheVariants.{NoSave, TooSmall, MessageLost}
use Rattle.save.specs.declared.form.Form.{Form}
use Rattle.save.specs.declared.form.Form.TheVariants.{Old, New}

-- the lines of a save of one form told in another; slips and end as they stand
unfoldable pub moved : Form → Form → List ℕ → List ℕ
moved from to s = line_entries to (line_in from s) (stated_lines s) ++ drop (slips_at from (stated_lines s)) s

-- how long that is
unfoldable pub moved_width : Form → List ℕ → ℕ
moved_width to s = saved_width to (stated_lines s) (stated_slips s)

-- it is put at the front of the output, where that is large enough
unfoldable pub moved_into : Form → Form → List ℕ → List ℕ → Written
moved_into from to s out =
    pick (leb (moved_width to s) (length out))
    (written (saved_as (moved_width to s)) (sets out 0 (moved from to s)))
    (written (not_saved TooSmall) out)

-- from the old form to the new one
unfoldable pub to_new : List ℕ → List ℕ → Written
to_new s out = pick (is_save_of Old s) (moved_into Old New s out) (written (not_saved NoSave) out)

-- the message of a line, by its front, is a number; the old form has no place for it
unfoldable pub is_numbered : List ℕ → Bool
is_numbered front = leb (le_at front message_at 2) most_message

-- no line of a save of the new form has such a message
unfoldable pub none_numbered : List ℕ → Bool
none_numbered s = all_from (λ i. not (is_numbered (line_in New s i))) (stated_lines s) 0

-- and back, where no message would be lost
unfoldable pub to_old : List ℕ → List ℕ → Written
to_old s out =
    pick (is_save_of New s)
    (pick (none_numbered s) (moved_into New Old s out) (written (not_saved MessageLost) out))
    (written (not_saved NoSave) out)
