-- What the steps keep is what came since the last CR LF, and so the records they give are those of the file.
use mathlib.Core.Path.{◌≡◌, refl, sym, ap, ◌∙◌}
use mathlib.Core.List.{List, [], ◌∷◌, ◌++◌}
use Prim.Native.Nat.{ℕ, suc, ◌+◌, ◌-◌, ◌≤◌, ◌<◌, min}
use native.Mathlib.Omega.{arith}
use lib.Dec.{ltb}
use lib.ListN.{length, take, length-append, length-set, length-take}
use lib.Seq.{take_all, take-take, take-append-le, take-suc-set, length-take-le}
use borrow.Author.Tests.{ltb-true, ltb-false, lt-ltb, le-ltb, ne_eqb}
use Rattle.cells.proofs.Bools.{split}
use Rattle.feed.specs.declared.Held.{Held}
use Rattle.feed.specs.Cut.{last_of, front, ends_at, left_over, cut_from, cut, most_held, most_counted, held_of, ends_now, held_next, buffer_next, ended_length, left_length, Holds, firsts, fed_last, fed_from}

-- the last byte is the one that came last
pub last_next : (d : ℕ) (s : List ℕ) (b : ℕ) → last_of d (s ++ (b ∷ [])) ≡ b
unfolding last_of
last_next d [] b = refl
last_next d (c ∷ s) b = last_next c s b

-- a record that fits the buffer is held whole, and a longer one stays over-long
pub held_whole : (s : List ℕ) → length s ≤ most_held → take most_held s ≡ s
held_whole s h = take_all most_held s h

pub held_over : (s : List ℕ) → most_held ≤ length s → length (take most_held s) ≡ most_held
held_over s h = length-take-le most_held s h

-- the first bytes of the first bytes of a list
take_both : (n m : ℕ) (s : List ℕ) → take (min n m) s ≡ take m (take n s)
take_both n m s =
    split
    (ltb m n)
    (λ e.
    let h : m < n = ltb-true m n e in
    let k : min n m ≡ m = omega arith in
    rw k (sym (take-take m n s (omega arith))))
    (λ e.
    let h : n ≤ m = ltb-false m n e in
    let k : min n m ≡ n = omega arith in
    let l : length (take n s) ≤ m = simp length-take (omega arith) in
    rw k (sym (take_all m (take n s) l)))

-- before the first byte, and after each CR LF, nothing is held
pub start_holds : (buffer : List ℕ) → length buffer ≡ most_held → Holds (held_of []) buffer []
unfolding held_of left_length
start_holds buffer w = record { counts = refl; keeps = refl; wide = w }

-- what stays the same where these bytes are held
module _ (h : Held) (buffer held : List ℕ) (holds : Holds h buffer held) where
  -- how many bytes are counted
  pub count_is : h.count ≡ min (length held) most_counted
  unfolding held_of
  count_is = ap (λ (x : Held). x.count) holds.counts

  -- the test of the next byte is the one of the definition
  pub ends_so : (b : ℕ) → ends_now h b ≡ ends_at held b
  unfolding ends_now ends_at held_of
  ends_so b = rw holds.counts

  pub left_count : left_length h ≡ min (length held) most_held
  unfolding left_length
  left_count = rw count_is (omega arith)

  pub ended_count : ended_length h ≡ min (length held - 1) most_held
  unfolding ended_length
  ended_count = rw count_is (omega arith)

  -- a byte that is held comes behind those held
  pub next_counts : (b : ℕ) → held_next h b ≡ held_of (held ++ (b ∷ []))
  unfolding held_next held_of
  next_counts b =
      let n : min (h.count + 1) most_counted ≡ min (length (held ++ (b ∷ []))) most_counted = simp (count_is, length-append) (omega arith) in
      rw (last_next 0 held b, n)

  pub next_wide : (b : ℕ) → length (buffer_next h buffer b) ≡ most_held
  unfolding buffer_next
  next_wide b = split (ltb h.count most_held) (λ e. rw e (simp length-set holds.wide)) (λ e. rw e holds.wide)

  -- where there is room the byte is stored, and else the buffer stays
  next_room : (b : ℕ) → length held < most_held → take (left_length (held_next h b)) (buffer_next h buffer b) ≡ take most_held (held ++ (b ∷ []))
  unfolding held_next buffer_next left_length
  next_room b k =
      let n : h.count ≡ length held = count_is ∙ omega arith in
      let m : min (min (length held + 1) most_counted) most_held ≡ suc (length held) = omega arith in
      let l : min (length held) most_held ≡ length held = omega arith in
      let w : length held < length buffer = rw holds.wide k in
      let e : take (length held) buffer ≡ held = rw (left_count, l, held_whole held (omega arith)) at holds.keeps in
      let a : length (held ++ (b ∷ [])) ≤ most_held = simp length-append (omega arith) in
      rw (n, lt-ltb (length held) most_held k, m, take-suc-set buffer (length held) b w, e) (sym (held_whole (held ++ (b ∷ [])) a))

  next_full : (b : ℕ) → most_held ≤ length held → take (left_length (held_next h b)) (buffer_next h buffer b) ≡ take most_held (held ++ (b ∷ []))
  unfolding held_next buffer_next left_length
  next_full b k =
      let n : most_held ≤ h.count = rw count_is (omega arith) in
      let m : min (min (h.count + 1) most_counted) most_held ≡ most_held = omega arith in
      let l : left_length h ≡ most_held = left_count ∙ omega arith in
      let e : take most_held buffer ≡ take most_held held = rw l at holds.keeps in
      rw (le-ltb h.count most_held n, m, e) (sym (take-append-le most_held held (b ∷ []) k))

  pub next_keeps : (b : ℕ) → take (left_length (held_next h b)) (buffer_next h buffer b) ≡ take most_held (held ++ (b ∷ []))
  next_keeps b =
      split
      (ltb (length held) most_held)
      (λ e. next_room b (ltb-true (length held) most_held e))
      (λ e. next_full b (ltb-false (length held) most_held e))

  pub next_holds : (b : ℕ) → Holds (held_next h b) (buffer_next h buffer b) (held ++ (b ∷ []))
  next_holds b = record { counts = next_counts b; keeps = next_keeps b; wide = next_wide b }

  -- of the bytes that are held, the buffer's first are the first
  buffer_is : (k : ℕ) → k ≤ length held → k ≤ most_held → take k buffer ≡ take k held
  buffer_is k a m =
      let l : k ≤ left_length h = rw left_count (omega arith) in
      sym (take-take k (left_length h) buffer l) ∙ ap (take k) holds.keeps ∙ take-take k most_held held m

  -- where a CR LF ends the record, it is what was held but the CR
  pub ended_is : take (ended_length h) buffer ≡ take most_held (front held)
  unfolding front
  ended_is =
      let n : ℕ = length held - 1 in
      rw (ended_count, buffer_is (min n most_held) (omega arith) (omega arith)) (take_both n most_held held)

-- at the end of the file: the bytes left over, if any, are the last record
left_is : (h : Held) (buffer held : List ℕ) → Holds h buffer held → fed_last h buffer ≡ firsts (left_over held)
unfolding fed_last firsts left_over
left_is h buffer [] holds =
    let n : left_length h ≡ 0 = left_count h buffer [] holds in
    rw n
left_is h buffer (b ∷ bs) holds =
    let n : (left_length h ≡ 0 → ⊥) = λ e. let z : min (suc (length bs)) most_held ≡ 0 = sym (left_count h buffer (b ∷ bs) holds) ∙ e in omega arith in
    rw (ne_eqb (left_length h) 0 n, holds.keeps)

-- the records that the steps give are the records of the file, each as far as the buffer has room
pub fed_cuts : (h : Held) (buffer held bs : List ℕ) → Holds h buffer held → fed_from h buffer bs ≡ firsts (cut_from held bs)
unfolding fed_from cut_from firsts
fed_cuts h buffer held [] holds = left_is h buffer held holds
fed_cuts h buffer held (b ∷ bs) holds =
    let ended = fed_cuts (held_of []) buffer [] bs (start_holds buffer holds.wide) in
    let next = fed_cuts (held_next h b) (buffer_next h buffer b) (held ++ (b ∷ [])) bs (next_holds h buffer held holds b) in
    let e : ends_now h b ≡ ends_at held b = ends_so h buffer held holds b in
    split
    (ends_at held b)
    (λ t. rw (e, t, ended_is h buffer held holds, ended))
    (λ t. rw (e, t, next))

pub file_cuts : (buffer file : List ℕ) → length buffer ≡ most_held → fed_from (held_of []) buffer file ≡ firsts (cut file)
file_cuts buffer file w = fed_cuts (held_of []) buffer [] file (start_holds buffer w)
