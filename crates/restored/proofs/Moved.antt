-- A valid save moved to a form that says all of its lines: it is a valid save of that form with the same lines and slips, loads to the same book, and moves back to the same bytes.
use mathlib.Core.Path.{◌≡◌, ◌∙◌, ap, sym}
use mathlib.Core.Bool.{true}
use mathlib.Core.List.{List}
use Prim.Native.Nat.{ℕ, suc, ◌+◌, ◌≤◌, ◌<◌}
use native.Mathlib.Omega.{arith}
use lib.Dec.{leb, ltb}
use lib.ListN.{length, get_or, take, set}
use lib.Seq.{sets, take_at}
use borrow.Author.Tests.{le-leb, leb-true, ltb-true}
use Rattle.cells.specs.Little.{le_at}
use Rattle.cells.proofs.Bools.{split}
use Rattle.signs.proofs.Runs.{all_at}
use Rattle.book.specs.Lent.{Lent}
use Rattle.save.specs.Form.{front_width, line_body_width, front_of, slips_at}
use Rattle.save.specs.Saved.{slip_body_width, written, refused_number, not_saved, saved_as, saved_width, stated_lines, stated_slips, line_in, slip_in, is_save_of, form_in}
use Rattle.save.specs.Load.{line_from, loaded_line, lent_loaded, load}
use Rattle.save.specs.Moves.{moved, moved_width, moved_into}
use Rattle.save.specs.declared.form.Form.{Form}
use Rattle.save.proofs.Bodies.{line_before, line_long, slip_long}
use Rattle.save.proofs.Views.{arrived_same}
use Rattle.restored.specs.Restored.{Bytes, saved_bytes}
use Rattle.restored.proofs.Cuts.{stored_front}
use Rattle.restored.proofs.Joined.{joined_same}
use Rattle.restored.proofs.Forms.{Valid, valid_so, moved_formed, valid_formed, formed_length, formed_lines, formed_slips, formed_line, formed_slip, formed_save, formed_moved}
use Rattle.restored.proofs.Taken.{save_taken, lent_taken}

-- a save moved to its own form stays as it is, where the output is large enough
pub kept_whole : (form : Form) (s out : List ℕ) → Bytes s → is_save_of form s ≡ true → length s ≤ length out → moved_into form form s out ≡ written (saved_as (length s)) (sets out 0 s)
unfolding moved_into moved_width saved_width
kept_whole form s out bytes valid room =
    let v : Valid form s = valid_so form s valid in
    rw (← v.long, le-leb (length s) (length out) room, moved_formed form s bytes v form, valid_formed form s bytes v)

-- a number of two bytes
two_bytes : (s : List ℕ) → Bytes s → (p : ℕ) → p + 2 ≤ length s → le_at s p 2 < 65536
unfolding le_at
two_bytes s h p r =
    let low : get_or s p 0 < 256 = ltb-true _ 256 (all_at (λ b. ltb b 256) s p h (omega arith)) in
    let high : get_or s (suc p) 0 < 256 = ltb-true _ 256 (all_at (λ b. ltb b 256) s (suc p) h (omega arith)) in
    omega arith

module _ (from to : Form) (s : List ℕ) (bytes : Bytes s) (valid : is_save_of from s ≡ true) where
  abbrev n : ℕ
  n = stated_lines s

  abbrev m : ℕ
  m = stated_slips s

  abbrev line : ℕ → List ℕ
  line = line_in from s

  abbrev slip : ℕ → List ℕ
  slip = slip_in s (slips_at from n)

  abbrev t : List ℕ
  t = moved from to s

  valid_here : Valid from s
  valid_here = valid_so from s valid

  -- its lines are a number of two bytes
  few_lines : n < 65536
  unfolding stated_lines
  few_lines = two_bytes s bytes _ (omega (arith, valid_here.long))

  -- its slips are
  few_slips : m < 65536
  unfolding stated_slips
  few_slips = two_bytes s bytes _ (omega (arith, valid_here.long))

  -- the fronts of its lines are of their width
  line_wide : (i : ℕ) → i < n → length (line i) ≡ front_width
  line_wide i a = line_long from s i (omega (arith, line_before from i n a, valid_here.long))

  -- the bodies of its slips
  slip_wide : (j : ℕ) → j < m → length (slip j) ≡ slip_body_width
  slip_wide j a = slip_long s (slips_at from n) j (omega (arith, valid_here.long))

  -- moved it is so long
  moved_length : length t ≡ moved_width to s
  unfolding moved_width
  moved_length = ap length (moved_formed from s bytes valid_here to) ∙ formed_length to n m line slip line_wide slip_wide

  -- states the lines
  pub moved_lines : stated_lines t ≡ n
  moved_lines = ap stated_lines (moved_formed from s bytes valid_here to) ∙ formed_lines to n m line slip line_wide slip_wide few_lines

  -- states the slips
  moved_slips : stated_slips t ≡ m
  moved_slips = ap stated_slips (moved_formed from s bytes valid_here to) ∙ formed_slips to n m line slip line_wide slip_wide few_slips

  -- a move that is done wrote it
  pub move_wrote : (out : List ℕ) → (moved_into from to s out).said.answer ≡ 0 → saved_bytes (moved_into from to s out) ≡ t
  unfolding moved_into saved_as not_saved refused_number
  move_wrote out e =
      let w : ℕ = moved_width to s in
      split (leb w (length out))
      (λ h. rw h (ap (take w) (stored_front out t w moved_length (leb-true _ _ h)) ∙ take_at t _ w moved_length))
      (λ h. let z : ◌≡◌ {A = ℕ} 23 0 = rw h at e in absurd (omega arith))

  -- a form that says all of its lines
  module _ (says : (i : ℕ) → i < n → front_of to (take (line_body_width to) (line i)) ≡ line i) where
    -- has a valid save of them
    pub moved_save : is_save_of to t ≡ true
    moved_save = ap (is_save_of to) (moved_formed from s bytes valid_here to) ∙ formed_save to n m line slip line_wide slip_wide says few_lines few_slips valid_here.entries

    -- in which they stand
    pub moved_line : (i : ℕ) → i < n → line_in to t i ≡ line i
    moved_line i a = ap (λ (x : List ℕ). line_in to x i) (moved_formed from s bytes valid_here to) ∙ formed_line to n m line slip line_wide slip_wide says i a

    -- and the slips
    moved_slip : (j : ℕ) → j < m → slip_in t (slips_at to n) j ≡ slip j
    moved_slip j a = ap (λ (x : List ℕ). slip_in x (slips_at to n) j) (moved_formed from s bytes valid_here to) ∙ formed_slip to n m line slip line_wide slip_wide j a

    -- moved back it is as it was
    moved_back : moved to from t ≡ s
    moved_back =
        ap (moved to from) (moved_formed from s bytes valid_here to)
        ∙ formed_moved to n m line slip line_wide slip_wide says from few_lines
        ∙ valid_formed from s bytes valid_here

    -- and so into an output that is large enough
    pub move_back : (out : List ℕ) → length s ≤ length out → moved_into to from t out ≡ written (saved_as (length s)) (sets out 0 s)
    unfolding moved_into moved_width saved_width
    move_back out room = rw (moved_lines, moved_slips, ← valid_here.long, le-leb (length s) (length out) room, moved_back)

    -- each line is loaded as from the first save
    line_alike : (i : ℕ) → i < n → loaded_line to t n m i ≡ loaded_line from s n m i
    unfolding loaded_line line_from
    line_alike i a = rw (moved_line i a, arrived_same m (slip_in t (slips_at to n)) slip moved_slip i)

    -- so the book is the same
    lent_alike : (b : Lent) → lent_loaded to t n m b ≡ lent_loaded from s n m b
    unfolding lent_loaded
    lent_alike b = λ i. record {
      lines = sets b.lines 0 (joined_same (loaded_line to t n m) (loaded_line from s n m) n 0 (λ k a c. line_alike k (omega arith)) i);
      slips = sets b.slips 0 (joined_same (slip_in t (slips_at to n)) slip m 0 (λ k a c. moved_slip k (omega arith)) i);
      used = set (set b.used 0 n) 1 m;
    }

    -- by whatever form the two are taken
    lent_same : (b : Lent) → lent_loaded (form_in t) t n m b ≡ lent_loaded (form_in s) s n m b
    lent_same b =
        (rw (moved_lines, moved_slips) at (lent_taken to t b moved_save)) ∙ lent_alike b ∙ sym (lent_taken from s b valid)

    -- and what loading answers
    pub load_alike : (b : Lent) → load t b ≡ load s b
    unfolding load
    load_alike b = rw (save_taken to t moved_save, save_taken from s valid, moved_lines, moved_slips, lent_same b)
