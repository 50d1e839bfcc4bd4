-- Moving a save between its forms: there and back gives the bytes, both forms load to the same book, and where each move is done.
use mathlib.Core.Path.{◌≡◌, ◌∙◌, ap, sym}
use mathlib.Core.Bool.{Bool, true, false, not, ◌&&◌}
use mathlib.Core.List.{List}
use Prim.Native.Nat.{ℕ, ◌+◌, ◌*◌, ◌≤◌, ◌<◌}
use native.Mathlib.Omega.{arith}
use lib.Dec.{eqb, leb, ltb}
use lib.ListN.{length, take}
use borrow.Author.Tests.{eqb-true, eqb-false, eq-eqb, not-true}
use Rattle.cells.specs.Bytes.{within}
use Rattle.cells.specs.Little.{le_at}
use Rattle.cells.proofs.Bools.{split, and_left, and_right}
use Rattle.cells.proofs.Lists.{all_take, all_drop}
use Rattle.cells.proofs.Searches.{all_at, all_same, each_place}
use Rattle.entry.specs.Stored.{ordered_at, most_copies}
use Rattle.save.specs.Form.{line_kind, line_body_width, front_of, kind_byte, saved_line_width}
use Rattle.save.specs.Entries.{reference_at, line_fields, fields_kept, report_kept, line_kept}
use Rattle.save.specs.Saved.{refused_number, not_saved, saved_as, stated_lines, stated_slips, body_in, line_in, is_save_of}
use Rattle.save.specs.Moves.{moved, moved_width, moved_into, to_new, is_numbered, none_numbered, to_old}
use Rattle.save.specs.declared.form.Form.{Form}
use Rattle.save.specs.declared.form.Form.TheVariants.{Old, New}
use Rattle.save.proofs.Bodies.{line_before, body_long, line_long}
use Rattle.save.proofs.Forms.{first_kind, no_lines}
use Rattle.save.proofs.Fronts.{old_number}
use Rattle.restored.specs.Restored.{Bytes, saved_bytes}
use Rattle.restored.specs.Moves.{ToNewAndBack, BackAndToNew, NewLoadsAlike, OldLoadsAlike, ToNewExactly, ToOldExactly, NoneNumbered, BothForms}
use Rattle.restored.proofs.Kept.{line_kept_law}
use Rattle.restored.proofs.Forms.{valid_so}
use Rattle.restored.proofs.Says.{new_says, old_says, number_or_absent}
use Rattle.restored.proofs.Moved.{moved_lines, move_wrote, moved_save, moved_line, move_back, load_alike}

-- the move to the new form is done exactly for a save of the old form where the output is large enough
pub to_new_exactly : ToNewExactly
unfolding to_new moved_into moved_width saved_as not_saved refused_number
to_new_exactly s out =
    split (is_save_of Old s)
    (λ e. split (leb (moved_width New s) (length out)) (λ h. rw (e, h)) (λ h. rw (e, h)))
    (λ e. rw e)

-- the move back for one of the new form in which no message is a number; where one is, it answers 28
pub to_old_exactly : ToOldExactly
unfolding to_old moved_into moved_width saved_as not_saved refused_number
to_old_exactly s out =
    split (is_save_of New s)
    (λ e. split (none_numbered s)
    (λ k. split (leb (moved_width Old s) (length out)) (λ h. (rw (e, k, h), rw (e, k, h))) (λ h. (rw (e, k, h), rw (e, k, h))))
    (λ k. (rw (e, k), rw (e, k))))
    (λ e. (rw e, rw e))

-- a line of a valid save
module _ (form : Form) (s : List ℕ) (valid : is_save_of form s ≡ true) (i : ℕ) (a : i < stated_lines s) where
  -- stands in it
  stands : saved_line_width form * i + saved_line_width form ≤ length s
  stands = omega (arith, line_before form i (stated_lines s) a, (valid_so form s valid).long)

  -- and its last report goes together
  report_kept_law : report_kept (line_in form s i) ≡ true
  unfolding line_kept
  report_kept_law =
      let front : List ℕ = line_in form s i in
      let copies : Bool = within 1 most_copies (le_at front ordered_at 2) in
      and_right copies (report_kept front)
      (and_right (fields_kept line_fields reference_at (take ordered_at front)) (copies && report_kept front)
      (line_kept_law (stated_lines s) (stated_slips s) (line_in form s) _ (valid_so form s valid).entries i a))

-- a save of the old form
module _ (s out : List ℕ) (bytes : Bytes s) (done : (to_new s out).said.answer ≡ 0) where
  -- it is one
  old_valid : is_save_of Old s ≡ true
  old_valid = and_left (is_save_of Old s) _ (sym (to_new_exactly s out) ∙ eq-eqb _ 0 done)

  -- the new form says all of its lines
  new_all : (i : ℕ) → i < stated_lines s → front_of New (take (line_body_width New) (line_in Old s i)) ≡ line_in Old s i
  new_all i a = new_says (line_in Old s i) (line_long Old s i (stands Old s old_valid i a))

  -- this was written
  to_new_wrote : saved_bytes (to_new s out) ≡ moved Old New s
  unfolding to_new
  to_new_wrote = rw old_valid (move_wrote Old New s bytes old_valid out (rw old_valid at done))

  -- in it no message is a number
  none_there : none_numbered (moved Old New s) ≡ true
  unfolding none_numbered line_in line_body_width
  none_there =
      rw (moved_lines Old New s bytes old_valid)
      (each_place (λ i. not (is_numbered (line_in New (moved Old New s) i))) (stated_lines s) 0
      (λ i a c. let l : i < stated_lines s = omega arith in
      ap (λ (x : List ℕ). not (is_numbered x)) (moved_line Old New s bytes old_valid new_all i l)
      ∙ ap not (old_number (body_in Old s i) (body_long Old s i (stands Old s old_valid i l)))))

  new_and_back : (out' : List ℕ) → length s ≤ length out' → to_old (saved_bytes (to_new s out)) out' ≡ moved_into New Old (moved Old New s) out'
  unfolding to_old
  new_and_back out' room = rw (to_new_wrote, moved_save Old New s bytes old_valid new_all, none_there)

-- old to new and back gives the old bytes
pub to_new_and_back : ToNewAndBack
to_new_and_back s out out' bytes done room =
    new_and_back s out bytes done out' room ∙ move_back Old New s bytes (old_valid s out bytes done) (new_all s out bytes done) out' room

-- loading an old save is loading its new form
pub new_loads_alike : NewLoadsAlike
new_loads_alike s out b bytes done = rw (to_new_wrote s out bytes done) (load_alike Old New s bytes (old_valid s out bytes done) (new_all s out bytes done) b)

-- a save of the new form in which no message is a number
module _ (s out : List ℕ) (bytes : Bytes s) (done : (to_old s out).said.answer ≡ 0) where
  both : is_save_of New s && (none_numbered s && leb (moved_width Old s) (length out)) ≡ true
  unfolding moved_width
  both = sym (to_old_exactly s out).0 ∙ eq-eqb _ 0 done

  new_valid : is_save_of New s ≡ true
  new_valid = and_left (is_save_of New s) _ both

  none_numbered_law : none_numbered s ≡ true
  none_numbered_law = and_left (none_numbered s) _ (and_right (is_save_of New s) _ both)

  -- its lines are bytes
  line_bytes : (i : ℕ) → Bytes (line_in New s i)
  unfolding line_in front_of body_in
  line_bytes i =
      let w : ℕ = saved_line_width New in
      all_drop (λ b. ltb b 256) (w * i + kind_byte) (take (w * i + w) s) (all_take (λ b. ltb b 256) (w * i + w) s bytes)

  -- the old form says all of them
  old_all : (i : ℕ) → i < stated_lines s → front_of Old (take (line_body_width Old) (line_in New s i)) ≡ line_in New s i
  unfolding none_numbered
  old_all i a =
      old_says (line_in New s i) (line_bytes i) (line_long New s i (stands New s new_valid i a)) (report_kept_law New s new_valid i a)
      (not-true _ (all_at (λ i. not (is_numbered (line_in New s i))) (stated_lines s) 0 i none_numbered_law (omega arith) (omega arith)))

  to_old_wrote : saved_bytes (to_old s out) ≡ moved New Old s
  unfolding to_old
  to_old_wrote = rw (new_valid, none_numbered_law) (move_wrote New Old s bytes new_valid out (rw (new_valid, none_numbered_law) at done))

  back_and_new : (out' : List ℕ) → length s ≤ length out' → to_new (saved_bytes (to_old s out)) out' ≡ moved_into Old New (moved New Old s) out'
  unfolding to_new
  back_and_new out' room = rw (to_old_wrote, moved_save New Old s bytes new_valid old_all)

-- back, and then to new, gives the new bytes
pub back_and_to_new : BackAndToNew
back_and_to_new s out out' bytes done room =
    back_and_new s out bytes done out' room ∙ move_back New Old s bytes (new_valid s out bytes done) (old_all s out bytes done) out' room

-- loading a new save that was moved back is loading its old form
pub old_loads_alike : OldLoadsAlike
old_loads_alike s out b bytes done = rw (to_old_wrote s out bytes done) (load_alike New Old s bytes (new_valid s out bytes done) (old_all s out bytes done) b)

-- no message is a number exactly where each line has no report or an unknown message
pub none_numbered_where : NoneNumbered
unfolding none_numbered
none_numbered_where s valid =
    all_same _ _ (stated_lines s) 0 (λ i a c. number_or_absent (line_in New s i) (report_kept_law New s valid i (omega arith)))

-- a save without lines is of both forms, and no other is
pub both_forms : BothForms
both_forms s =
    split (is_save_of Old s)
    (λ old. split (eqb (stated_lines s) 0)
    (λ z. rw (no_lines New Old s (eqb-true (stated_lines s) 0 z), old, z))
    (λ z. rw (old, z)
    (split (is_save_of New s)
    (λ new. absurd (apart (sym (first_kind Old s old (some z)) ∙ first_kind New s new (some z))))
    (λ new. new))))
    (λ old. rw old)
  where
    some : eqb (stated_lines s) 0 ≡ false → 0 < stated_lines s
    some z = omega (arith, eqb-false (stated_lines s) 0 z)

    apart : line_kind Old ≡ line_kind New → ⊥
    apart e = unfold line_kind in omega (arith, e)
