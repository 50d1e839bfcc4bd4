-- The front of a line that the body of either form says: what both have in common, what stands behind a body of the old form, and how long it is.
use mathlib.Core.Path.{◌≡◌, ◌∙◌, ap, sym, refl}
use mathlib.Core.Bool.{false}
use mathlib.Core.List.{List, ◌++◌}
use Prim.Native.Nat.{ℕ, zero, suc, ◌+◌, ◌/◌, ◌≤◌, ◌<◌}
use native.Mathlib.Nat.{add_assoc}
use native.Mathlib.Omega.{arith}
use lib.Dec.{eqb, leb}
use lib.ListN.{length, get_or, take, drop, length-append}
use lib.Seq.{slice, take-take, take_all, take_at, take-append-add, drop-append-add, get_or-append-add, get_or-take}
use borrow.Author.Tests.{le-leb, eqb-true, eqb-false}
use Rattle.cells.specs.Bytes.{same}
use Rattle.cells.specs.Little.{le_at, le_bytes}
use Rattle.cells.proofs.Bools.{split}
use Rattle.cells.proofs.Numbers.{le_back}
use Rattle.cells.proofs.Stores.{le_ext}
use Rattle.cells.proofs.Within.{number_within}
use Rattle.entry.specs.Report.{no_mark, least_mark, most_mark, blank_date, report_sound}
use Rattle.entry.specs.Stored.{key_width, ordered_at, mark_at, message_at, expected_at}
use Rattle.save.specs.Form.{front_width, line_body_width, unsaved_width, unsaved_message, unsaved, front_of}
use Rattle.save.specs.Entries.{report_kept, parties_agree}
use Rattle.save.specs.Moves.{is_numbered}
use Rattle.save.specs.declared.form.Form.{Form}
use Rattle.save.specs.declared.form.Form.TheVariants.{Old, New}

-- two lists with one front of w bytes
module _ (s t : List ℕ) (w : ℕ) (e : take w s ≡ take w t) where
  -- a shorter front
  pub take_same : (n : ℕ) → n ≤ w → take n s ≡ take n t
  take_same n h = sym (take-take n w s h) ∙ ap (take n) e ∙ take-take n w t h

  -- a part of it
  pub part_same : (a b : ℕ) → b ≤ w → slice a b s ≡ slice a b t
  part_same a b h = ap (drop a) (take_same b h)

  -- a byte
  pub byte_same : (p : ℕ) → p < w → get_or s p 0 ≡ get_or t p 0
  byte_same p h = sym (get_or-take w s p 0 h) ∙ ap (λ (l : List ℕ). get_or l p 0) e ∙ get_or-take w t p 0 h

  -- a number
  pub number_same : (p n : ℕ) → p + n ≤ w → le_at s p n ≡ le_at t p n
  number_same p n h = le_ext s t p p n (λ k a. byte_same (p + k) (omega arith))

-- two lines with one front have one school and one supplier
pub parties_same : (slip s t : List ℕ) → take message_at s ≡ take message_at t → parties_agree slip s ≡ parties_agree slip t
unfolding parties_agree
parties_same slip s t e = rw (part_same s t message_at e 12 24 (omega arith), part_same s t message_at e 0 12 (omega arith))

-- past a front
module _ (xs ys : List ℕ) (w : ℕ) (wide : length xs ≡ w) where
  -- a byte
  pub byte_past : (x : ℕ) → get_or (xs ++ ys) (w + x) 0 ≡ get_or ys x 0
  byte_past x = rw (← wide) (get_or-append-add xs ys x 0)

  -- a number
  pub number_past : (x n : ℕ) → le_at (xs ++ ys) (w + x) n ≡ le_at ys x n
  number_past x n = le_ext (xs ++ ys) ys (w + x) x n (λ k h. rw (add_assoc w x k) (byte_past (x + k)))

  -- a part
  pub part_past : (x y : ℕ) → slice (w + x) (w + y) (xs ++ ys) ≡ slice x y ys
  part_past x y = rw (← wide) (ap (drop (length xs + x)) (take-append-add xs ys y) ∙ drop-append-add xs (take y ys) x)

-- a number that is a front
pub number_front : (xs ys : List ℕ) (w : ℕ) → length xs ≡ w → le_at (xs ++ ys) 0 w ≡ le_at xs 0 w
number_front xs ys w e =
    sym (number_within (xs ++ ys) 0 w 0 w (omega arith)) ∙ ap (λ (l : List ℕ). le_at l 0 w) (take_at xs ys w e)

-- a number is so many bytes
pub bytes_wide : (w n : ℕ) → length (le_bytes w n) ≡ w
unfolding le_bytes
bytes_wide zero n = refl
bytes_wide (suc w) n = ap suc (bytes_wide w (n / 256))

-- a body goes to the mark at least, and is no more than a front
pub width_least : (form : Form) → message_at ≤ line_body_width form
unfolding line_body_width
width_least Old = omega arith
width_least New = omega arith

pub width_most : (form : Form) → line_body_width form ≤ front_width
unfolding line_body_width
width_most Old = omega arith
width_most New = omega arith

pub old_width : (form : Form) → form ≡ Old → line_body_width form ≡ message_at
unfolding line_body_width
old_width form e = rw e refl

pub new_width : (form : Form) → form ≡ New → line_body_width form ≡ front_width
unfolding line_body_width
new_width form e = rw e refl

-- message and expected date that were not saved are so many bytes
pub unsaved_wide : (mark : ℕ) → length (unsaved mark) ≡ unsaved_width
unfolding unsaved le_bytes
unsaved_wide mark = refl

-- what they say
small_message : (mark : ℕ) → unsaved_message mark < 65536
unfolding unsaved_message
small_message mark = split (eqb mark no_mark) (λ e. rw e (omega arith)) (λ e. rw e (omega arith))

pub unsaved_number : (mark : ℕ) → le_at (unsaved mark) 0 2 ≡ unsaved_message mark
unfolding unsaved le_at le_bytes
unsaved_number mark = le_back 2 (unsaved_message mark) (small_message mark)

pub unsaved_date : (mark : ℕ) → slice 2 unsaved_width (unsaved mark) ≡ blank_date
unfolding unsaved le_bytes
unsaved_date mark = refl

-- it goes together with the mark where that is one of the three
unsaved_goes : (mark : ℕ) → report_sound mark (unsaved_message mark) blank_date ≡ leb mark most_mark
unfolding report_sound unsaved_message same
unsaved_goes mark =
    split (eqb mark no_mark) (λ e. rw (e, eqb-true mark no_mark e) refl)
    (λ e. rw (e, le-leb least_mark mark (omega (arith, eqb-false mark no_mark e)))
    (split (leb mark most_mark) (λ h. rw h refl) (λ h. rw h refl)))

-- a body of either form, and the front that it says
module _ (form : Form) (body : List ℕ) (wide : length body ≡ line_body_width form) where
  -- up to the message they are the same
  pub front_kept : take message_at (front_of form body) ≡ take message_at body
  front_kept = go form wide
    where
      go : (f : Form) → length body ≡ line_body_width f → take message_at (front_of f body) ≡ take message_at body
      go Old w = unfold front_of line_body_width in take_at body (unsaved (get_or body mark_at 0)) message_at w ∙ sym (take_all message_at body (omega arith))
      go New w = unfold front_of in refl

  -- so they have one key, one article, one Q, and parties that agree with the same slips
  pub front_key : take key_width (front_of form body) ≡ take key_width body
  front_key = take_same (front_of form body) body message_at front_kept key_width (omega arith)

  pub front_named : take ordered_at (front_of form body) ≡ take ordered_at body
  front_named = take_same (front_of form body) body message_at front_kept ordered_at (omega arith)

  pub front_ordered : le_at (front_of form body) ordered_at 2 ≡ le_at body ordered_at 2
  front_ordered = number_same (front_of form body) body message_at front_kept ordered_at 2 (omega arith)

  pub front_parties : (slip : List ℕ) → parties_agree slip (front_of form body) ≡ parties_agree slip body
  front_parties slip = parties_same slip (front_of form body) body front_kept

  -- it has the width of a front
  pub front_wide : length (front_of form body) ≡ front_width
  front_wide = go form wide
    where
      go : (f : Form) → length body ≡ line_body_width f → length (front_of f body) ≡ front_width
      go Old w = unfold front_of line_body_width in length-append body (unsaved (get_or body mark_at 0)) ∙ rw (w, unsaved_wide (get_or body mark_at 0)) refl
      go New w = unfold front_of line_body_width in w

  -- the body is the front of it
  pub front_body : take (line_body_width form) (front_of form body) ≡ body
  front_body = go form wide
    where
      go : (f : Form) → length body ≡ line_body_width f → take (line_body_width f) (front_of f body) ≡ body
      go Old w = unfold front_of line_body_width in take_at body (unsaved (get_or body mark_at 0)) message_at w
      go New w = unfold front_of in take_all (line_body_width New) body (omega arith)

  -- of it the old form has so much as of the body, and the new form all
  pub old_part : (to : Form) → to ≡ Old → take (line_body_width to) (front_of form body) ≡ take message_at body
  old_part to e = rw (old_width to e) front_kept

  pub new_part : (to : Form) → to ≡ New → take (line_body_width to) (front_of form body) ≡ front_of form body
  new_part to e = rw (new_width to e) (take_all front_width (front_of form body) (omega (arith, front_wide)))

-- a body of the old form says a report that goes together with the mark where that is one of the three
pub old_report : (body : List ℕ) → length body ≡ message_at → report_kept (front_of Old body) ≡ leb (get_or body mark_at 0) most_mark
unfolding report_kept front_of line_body_width
old_report body wide =
    let mark : ℕ = get_or body mark_at 0 in
    let u : List ℕ = unsaved mark in
    let m : get_or (body ++ u) mark_at 0 ≡ mark = byte_same (body ++ u) body message_at (front_kept Old body wide) mark_at (omega arith) in
    let n : le_at (body ++ u) message_at 2 ≡ unsaved_message mark = number_past body u message_at wide 0 2 ∙ unsaved_number mark in
    let d : slice expected_at front_width (body ++ u) ≡ blank_date = part_past body u message_at wide 2 unsaved_width ∙ unsaved_date mark in
    rw (m, n, d) (unsaved_goes mark)

-- and its message is no number
pub old_number : (body : List ℕ) → length body ≡ message_at → is_numbered (front_of Old body) ≡ false
unfolding is_numbered front_of unsaved_message
old_number body wide =
    let mark : ℕ = get_or body mark_at 0 in
    let n : le_at (body ++ unsaved mark) message_at 2 ≡ unsaved_message mark = number_past body (unsaved mark) message_at wide 0 2 ∙ unsaved_number mark in
    rw n (split (eqb mark no_mark) (λ e. rw e refl) (λ e. rw e refl))
