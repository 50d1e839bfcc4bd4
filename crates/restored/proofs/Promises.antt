-- What the promises of saving, loading and moving give: two results that satisfy one are equal, and a refusal changes nothing lent.
use mathlib.Core.Path.{◌≡◌, ◌∙◌, ap, sym}
use mathlib.Core.Bool.{◌&&◌}
use mathlib.Core.List.{List}
use Prim.Native.Nat.{ℕ}
use lib.Dec.{leb}
use lib.ListN.{length}
use Rattle.cells.proofs.Bools.{split}
use Rattle.book.specs.Lent.{Lent, used_lines, used_slips, line_room, slip_room, sound, rooms_sound}
use Rattle.save.specs.Saved.{Written, written, saved_width, saved_as, save, stated_lines, stated_slips, is_save_of, is_save}
use Rattle.save.specs.Load.{Outcome, outcome, load}
use Rattle.save.specs.Moves.{moved_width, moved_into, to_new, none_numbered, to_old}
use Rattle.save.specs.declared.form.Form.{Form}
use Rattle.save.specs.declared.form.Form.TheVariants.{Old, New}
use Rattle.save.specs.declared.answer.Saved.{Saved}
use Rattle.save.specs.declared.answer.Loaded.{Loaded}

-- what is said and the output at exit are fixed by what they have to be
written_unique : (w : Written) (said said' : Saved) (exit exit' : List ℕ) → written said exit ≡ w → written said' exit' ≡ w → (said ≡ said') × (exit ≡ exit')
written_unique w said said' exit exit' p q =
    let e = p ∙ sym q in
    (ap (λ (w : Written). w.said) e, ap (λ (w : Written). w.out) e)

-- saving: the answer, place and length, and the output at exit, are fixed by the lent book and the output at entry
pub save_unique : (b : Lent) (o : List ℕ) (said said' : Saved) (exit exit' : List ℕ)
    → written said exit ≡ save b o → written said' exit' ≡ save b o → (said ≡ said') × (exit ≡ exit')
save_unique b o said said' exit exit' p q = written_unique (save b o) said said' exit exit' p q

-- loading: the answer and place, and the lent book at exit, are fixed by the bytes and the lent book at entry
pub load_unique : (s : List ℕ) (b : Lent) (said said' : Loaded) (exit exit' : Lent)
    → outcome said exit ≡ load s b → outcome said' exit' ≡ load s b → (said ≡ said') × (exit ≡ exit')
load_unique s b said said' exit exit' p q =
    let e = p ∙ sym q in
    (ap (λ (o : Outcome). o.said) e, ap (λ (o : Outcome). o.lent) e)

-- a save that does not answer 0 leaves the output as it was
pub save_refusal_keeps : (b : Lent) (o : List ℕ) → ((save b o).said.answer ≡ 0 → ⊥) → (save b o).out ≡ o
unfolding save saved_as
save_refusal_keeps b o h =
    split (sound b)
    (λ e. split (leb (saved_width New (used_lines b) (used_slips b)) (length o)) (λ f. absurd (h (rw (e, f)))) (λ f. rw (e, f)))
    (λ e. rw e)

-- a load that does not answer 0 leaves the lent book as it was
pub load_refusal_keeps : (s : List ℕ) (b : Lent) → ((load s b).said.answer ≡ 0 → ⊥) → (load s b).lent ≡ b
unfolding load
load_refusal_keeps s b h =
    split (rooms_sound b)
    (λ r. split (is_save s)
    (λ v. split (leb (stated_lines s) (line_room b) && leb (stated_slips s) (slip_room b)) (λ f. absurd (h (rw (r, v, f)))) (λ f. rw (r, v, f)))
    (λ v. rw (r, v)))
    (λ r. rw r)

-- moving, either way: the answer, place and length, and the output at exit, are fixed by the bytes and the output at entry
pub to_new_unique : (s o : List ℕ) (said said' : Saved) (exit exit' : List ℕ) → written said exit ≡ to_new s o → written said' exit' ≡ to_new s o → (said ≡ said') × (exit ≡ exit')
to_new_unique s o said said' exit exit' p q = written_unique (to_new s o) said said' exit exit' p q

pub to_old_unique : (s o : List ℕ) (said said' : Saved) (exit exit' : List ℕ) → written said exit ≡ to_old s o → written said' exit' ≡ to_old s o → (said ≡ said') × (exit ≡ exit')
to_old_unique s o said said' exit exit' p q = written_unique (to_old s o) said said' exit exit' p q

-- a move that does not answer 0 leaves the output as it was
moved_keeps : (from to : Form) (s o : List ℕ) → ((moved_into from to s o).said.answer ≡ 0 → ⊥) → (moved_into from to s o).out ≡ o
unfolding moved_into saved_as
moved_keeps from to s o h = split (leb (moved_width to s) (length o)) (λ e. absurd (h (rw e))) (λ e. rw e)

pub to_new_refusal_keeps : (s o : List ℕ) → ((to_new s o).said.answer ≡ 0 → ⊥) → (to_new s o).out ≡ o
unfolding to_new
to_new_refusal_keeps s o h = split (is_save_of Old s) (λ e. rw e (moved_keeps Old New s o (λ d. h (rw e d)))) (λ e. rw e)

pub to_old_refusal_keeps : (s o : List ℕ) → ((to_old s o).said.answer ≡ 0 → ⊥) → (to_old s o).out ≡ o
unfolding to_old
to_old_refusal_keeps s o h =
    split (is_save_of New s)
    (λ e. split (none_numbered s) (λ k. rw (e, k) (moved_keeps New Old s o (λ d. h (rw (e, k) d)))) (λ k. rw (e, k)))
    (λ e. rw e)
