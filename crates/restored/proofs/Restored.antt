-- Load of a save gives the book, save of what was loaded gives the bytes, from an old save those of its new form, and a load gives the book that the save tells or refuses.
use mathlib.Core.Path.{◌≡◌, ◌∙◌, ap, sym, refl}
use mathlib.Core.Bool.{Bool, true, ◌&&◌}
use mathlib.Core.Logic.{◌⊎◌, inl, inr}
use mathlib.Core.List.{List}
use Prim.Native.Nat.{ℕ, ◌*◌, ◌≤◌}
use native.Mathlib.Omega.{arith}
use lib.Dec.{leb}
use lib.ListN.{length, take}
use lib.Seq.{take_at}
use borrow.Author.Tests.{leb-true, le-leb}
use Rattle.cells.proofs.Bools.{split, and_left, and_right}
use Rattle.entry.specs.Stored.{line_width, slip_width}
use Rattle.book.specs.Lent.{Lent, used_lines, used_slips, line_room, slip_room, rooms_sound}
use Rattle.save.specs.Saved.{refused_number, not_saved, saved_form, saved_width, saved_as, save, stated_lines, stated_slips, is_save_of, is_save, form_in}
use Rattle.save.specs.Load.{Outcome, done_as, outcome, not_loaded, lent_loaded, load}
use Rattle.save.specs.Moves.{moved_width, moved_into, to_new}
use Rattle.save.specs.declared.form.Form.{Form}
use Rattle.save.specs.declared.form.Form.TheVariants.{Old, New}
use Rattle.restored.specs.Restored.{Bytes, Orderly, SameBook, Holds, saved_bytes, LoadOfSave, SaveOfLoad, SaveOfOldLoad, Tells, Refuses, ToldOrRefused, LoadsExactly}
use Rattle.restored.proofs.Cuts.{stored_front}
use Rattle.restored.proofs.Taken.{save_taken, lines_taken, slips_loaded}
use Rattle.restored.proofs.Loaded.{loaded_count_lines, loaded_count_slips, front_lines, front_slips, loaded_tells}
use Rattle.restored.proofs.Saved.{told_saved, saved_width_law, saved_valid, saved_lines, saved_slips, lines_again, slips_again}
use Rattle.restored.proofs.Moved.{kept_whole}

-- a load gives the book that the save tells, or refuses
pub told_or_refused : ToldOrRefused
unfolding load not_loaded refused_number
told_or_refused s b two =
    let x : Bool = leb (stated_lines s) (line_room b) in
    let y : Bool = leb (stated_slips s) (slip_room b) in
    split (rooms_sound b)
    (λ r. split (is_save s)
    (λ v. split (x && y)
    (λ f. inl (rw (r, v, f) (refl, loaded_tells s b two v (leb-true _ _ (and_left x y f)) (leb-true _ _ (and_right x y f)) r)))
    (λ f. inr (rw (r, v, f) (record { answer = inr (inr refl); lent = refl }))))
    (λ v. inr (rw (r, v) (record { answer = inr (inl refl); lent = refl }))))
    (λ r. inr (rw r (record { answer = inl refl; lent = refl })))

-- a load is done exactly where the rooms are of right size, the bytes are a valid save, and its lines and slips fit
pub loads_exactly : LoadsExactly
unfolding load not_loaded refused_number
loads_exactly s b =
    split (rooms_sound b)
    (λ r. split (is_save s)
    (λ v. split (leb (stated_lines s) (line_room b) && leb (stated_slips s) (slip_room b)) (λ f. rw (r, v, f)) (λ f. rw (r, v, f)))
    (λ v. rw (r, v)))
    (λ r. rw r)

-- a refusal does not answer 0
not_refused : (o : Outcome) (b : Lent) → Refuses o b → o.said.answer ≡ 0 → ⊥
not_refused o b r e = go r.answer
  where
    go : (o.said.answer ≡ 20) ⊎ ((o.said.answer ≡ 22) ⊎ (o.said.answer ≡ 23)) → ⊥
    go (inl a) = omega arith
    go (inr (inl a)) = omega arith
    go (inr (inr a)) = omega arith

-- so a load that answers 0 gives the book that the save tells
pub loaded_so : (s : List ℕ) (b : Lent) → length b.used ≡ 2 → (load s b).said.answer ≡ 0 → Tells s b (load s b).lent
loaded_so s b two done = go (told_or_refused s b two)
  where
    go : (((load s b).said.answer ≡ 0) × Tells s b (load s b).lent) ⊎ Refuses (load s b) b → Tells s b (load s b).lent
    go (inl t) = t.1
    go (inr r) = absurd (not_refused (load s b) b r done)

-- save of what was loaded from a save of a form gives its bytes in the new form
save_as : (form : Form) (s : List ℕ) (b : Lent) (out : List ℕ) → Bytes s → is_save_of form s ≡ true → length b.used ≡ 2 → (load s b).said.answer ≡ 0
    → save (load s b).lent out ≡ moved_into form New s out
unfolding save moved_into moved_width
save_as form s b out bytes valid two done =
    let c : Lent = (load s b).lent in
    let t : Tells s b c = loaded_so s b two done in
    rw (t.orderly.is_sound, t.count_lines, t.count_slips, told_saved form s b c bytes valid t)

-- from one of the new form the same bytes
pub save_of_load : SaveOfLoad
save_of_load s b out bytes valid two done room = save_as New s b out bytes valid two done ∙ kept_whole New s out bytes valid room

-- from one of the old form what the move to the new form gives
pub save_of_old_load : SaveOfOldLoad
unfolding to_new
save_of_old_load s b out bytes valid two done = rw valid (save_as Old s b out bytes valid two done)

-- a save that answers 0 wrote the saved form
saved_so : (b : Lent) (out : List ℕ) → Orderly b → (save b out).said.answer ≡ 0 → saved_bytes (save b out) ≡ saved_form b
unfolding save saved_as not_saved refused_number
saved_so b out o e =
    let w : ℕ = saved_width New (used_lines b) (used_slips b) in
    let sound = o.is_sound in
    split (leb w (length out))
    (λ h. rw (sound, h) (ap (take w) (stored_front out (saved_form b) w (saved_width_law b o) (leb-true _ _ h)) ∙ take_at (saved_form b) _ w (saved_width_law b o)))
    (λ h. let z : ◌≡◌ {A = ℕ} 23 0 = rw (sound, h) at e in absurd (omega arith))

-- the saved form of an orderly book, loaded
module _ (b c : Lent) (o : Orderly b) (bytes : Bytes b.lines) (holds : Holds c b) where
  abbrev s : List ℕ
  s = saved_form b

  -- it is a valid save
  valid : is_save s ≡ true
  valid = save_taken New s (saved_valid b o)

  -- its lines fit
  line_fit : stated_lines s ≤ line_room c
  line_fit = rw (saved_lines b o) holds.lines

  -- its slips fit
  slip_fit : stated_slips s ≤ slip_room c
  slip_fit = rw (saved_slips b o) holds.slips

  -- the load is done
  loads : load s c ≡ outcome done_as (lent_loaded (form_in s) s (stated_lines s) (stated_slips s) c)
  unfolding load
  loads = rw (holds.rooms, valid, le-leb (stated_lines s) (line_room c) line_fit, le-leb (stated_slips s) (slip_room c) slip_fit)

  -- the counts and the used entries are the book's
  same_book : SameBook b (lent_loaded (form_in s) s (stated_lines s) (stated_slips s) c)
  same_book =
      let two = holds.counts in
      let n = saved_lines b o in
      let m = saved_slips b o in
      let loaded : Lent = lent_loaded (form_in s) s (stated_lines s) (stated_slips s) c in
      record {
        count_lines = loaded_count_lines s c two valid line_fit slip_fit ∙ n;
        count_slips = loaded_count_slips s c two valid line_fit slip_fit ∙ m;
        lines =
            ap (λ (k : ℕ). take (line_width * k) loaded.lines) (sym n)
            ∙ front_lines s c two valid line_fit slip_fit
            ∙ lines_taken New s (saved_valid b o)
            ∙ rw (n, m) (lines_again b o bytes);
        slips =
            ap (λ (k : ℕ). take (slip_width * k) loaded.slips) (sym m)
            ∙ front_slips s c two valid line_fit slip_fit
            ∙ slips_loaded New s (saved_valid b o)
            ∙ rw (n, m) (slips_again b o);
      }

  -- so the load gives the book
  load_saved : ((load s c).said.answer ≡ 0) × SameBook b (load s c).lent
  load_saved = rw loads (refl, same_book)

-- load of a save gives the book
pub load_of_save : LoadOfSave
load_of_save b c out o bytes holds done = rw (saved_so b out o done) (load_saved b c o bytes holds)
