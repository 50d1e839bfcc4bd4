-- Moving a save between its forms, the statements: there and back gives the bytes, both forms load to the same book, and where each move is done (RULES 9.6).
use Rattle.std.specs.Prelude.{ℕ, ◌≤◌, ◌≡◌, true, not, ◌&&◌, ◌||◌, List, eqb, leb, length}
use Rattle.std.proofs.lemmas.List.Edits.{sets}
use Rattle.cells.specs.Little.{le_at}
use Rattle.cells.specs.Search.{all_from}
use Rattle.entry.specs.Report.{no_report, message_unknown}
use Rattle.entry.specs.Stored.{message_at}
use Rattle.book.specs.Lent.{Lent}
use Rattle.save.specs.Saved.{written, saved_as, saved_width, stated_lines, stated_slips, line_in, is_save_of}
use Rattle.save.specs.Load.{load}
use Rattle.save.specs.Moves.{to_new, none_numbered, to_old}
use Rattle.save.specs.declared.form.Form.TheVariants.{Old, New}
use Rattle.restored.specs.Restored.{Bytes, saved_bytes}

-- old to new and back gives the old bytes
abbrev pub ToNewAndBack : Type 0
ToNewAndBack =
    (s out out' : List ℕ) → Bytes s → (to_new s out).said.answer ≡ 0 → length s ≤ length out'
    → to_old (saved_bytes (to_new s out)) out' ≡ written (saved_as (length s)) (sets out' 0 s)

-- back, and then to new, gives the new bytes, where back is done
abbrev pub BackAndToNew : Type 0
BackAndToNew =
    (s out out' : List ℕ) → Bytes s → (to_old s out).said.answer ≡ 0 → length s ≤ length out'
    → to_new (saved_bytes (to_old s out)) out' ≡ written (saved_as (length s)) (sets out' 0 s)

-- loading an old save is loading its new form, into any rooms, and a new one that was moved back its old form
abbrev pub NewLoadsAlike : Type 0
NewLoadsAlike = (s out : List ℕ) (b : Lent) → Bytes s → (to_new s out).said.answer ≡ 0 → load (saved_bytes (to_new s out)) b ≡ load s b

abbrev pub OldLoadsAlike : Type 0
OldLoadsAlike = (s out : List ℕ) (b : Lent) → Bytes s → (to_old s out).said.answer ≡ 0 → load (saved_bytes (to_old s out)) b ≡ load s b

-- the move to the new form is done exactly for a save of the old form where the output is large enough
abbrev pub ToNewExactly : Type 0
ToNewExactly = (s out : List ℕ) → eqb (to_new s out).said.answer 0 ≡ is_save_of Old s && leb (saved_width New (stated_lines s) (stated_slips s)) (length out)

-- the move back is done exactly for a save of the new form in which no message is a number, where the output is large enough, and answers 28 exactly for one in which a message is
abbrev pub ToOldExactly : Type 0
ToOldExactly =
    (s out : List ℕ)
    → (eqb (to_old s out).said.answer 0 ≡ is_save_of New s && (none_numbered s && leb (saved_width Old (stated_lines s) (stated_slips s)) (length out)))
    × (eqb (to_old s out).said.answer 28 ≡ is_save_of New s && not (none_numbered s))

-- no message is a number exactly where each line has no report or an unknown message
abbrev pub NoneNumbered : Type 0
NoneNumbered =
    (s : List ℕ) → is_save_of New s ≡ true
    → none_numbered s ≡ all_from (λ i. eqb (le_at (line_in New s i) message_at 2) no_report || eqb (le_at (line_in New s i) message_at 2) message_unknown) (stated_lines s) 0

-- a save without lines is of both forms, and no other is
abbrev pub BothForms : Type 0
BothForms = (s : List ℕ) → is_save_of Old s && is_save_of New s ≡ is_save_of Old s && eqb (stated_lines s) 0
