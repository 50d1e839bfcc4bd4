-- The bytes of a save in either form: where its entries stand, what its end states, that it is valid where its lines and slips are; and that a valid save, or one that was moved, is the form of its own lines and slips.
use mathlib.Core.Path.{◌≡◌, ◌∙◌, ap, ap₂, sym, refl}
use mathlib.Core.Bool.{Bool, true, ◌&&◌}
use mathlib.Core.List.{List, [], ◌∷◌, ◌++◌}
use Prim.Native.Nat.{ℕ, suc, ◌+◌, ◌*◌, ◌-◌, ◌<◌}
use native.Mathlib.Nat.{zero-add, add-zero, add_assoc}
use native.Mathlib.Numerals.{add-one}
use native.Mathlib.Omega.{arith}
use lib.Dec.{eqb, leb}
use lib.ListN.{length, get_or, take, drop, length-append}
use lib.Seq.{slice, drop-cons, drop_at, length-take-le}
use borrow.Author.Tests.{eqb-true, eq-eqb, le-leb}
use Rattle.cells.specs.Little.{le_at, le_bytes}
use Rattle.cells.specs.Search.{all_from}
use Rattle.cells.proofs.Bools.{and_left, and_right}
use Rattle.cells.proofs.Numbers.{le_back}
use Rattle.cells.proofs.Parts.{to_end}
use Rattle.cells.proofs.Searches.{all_at, each_place}
use Rattle.save.specs.Form.{front_width, line_kind, line_body_width, front_of, saved_line_width, slips_at}
use Rattle.save.specs.Entries.{entries_kept}
use Rattle.save.specs.Saved.{slip_kind, end_kind, slip_body_width, saved_slip_width, end_width, joined_from, line_entries, slip_entries, end_entry, formed, saved_width, stated_lines, stated_slips, body_in, line_in, slip_in, all_of_kind, in_form, is_save_of}
use Rattle.save.specs.Moves.{moved}
use Rattle.save.specs.declared.form.Form.{Form}
use Rattle.save.proofs.Bodies.{entry_wide, line_before, body_long}
use Rattle.save.proofs.Fronts.{byte_past, number_past, part_past, number_front, bytes_wide, width_most, front_body}
use Rattle.save.proofs.Joined.{lines_long, slips_long}
use Rattle.save.proofs.Views.{entries_same}
use Rattle.restored.specs.Restored.{Bytes}
use Rattle.restored.proofs.Cuts.{part_and_rest, bytes_back}
use Rattle.restored.proofs.Joined.{joined_same, kinded_kind, kinded_body, kinded_cut}

-- the end is five bytes
end_wide : (n m : ℕ) → length (end_entry n m) ≡ end_width
unfolding end_entry le_bytes
end_wide n m = refl

-- it states the lines
end_lines : (n m : ℕ) → n < 65536 → le_at (end_entry n m) 1 2 ≡ n
unfolding end_entry
end_lines n m h =
    number_past (end_kind ∷ []) (le_bytes 2 n ++ le_bytes 2 m) 1 refl 0 2 ∙ number_front (le_bytes 2 n) (le_bytes 2 m) 2 (bytes_wide 2 n) ∙ le_back 2 n h

-- it states the slips
end_slips : (n m : ℕ) → m < 65536 → le_at (end_entry n m) 3 2 ≡ m
unfolding end_entry
end_slips n m h =
    number_past (end_kind ∷ []) (le_bytes 2 n ++ le_bytes 2 m) 1 refl 2 2 ∙ number_past (le_bytes 2 n) (le_bytes 2 m) 2 (bytes_wide 2 n) 0 2 ∙ le_back 2 m h

-- equal lines have one form
lines_formed : (form : Form) (n : ℕ) (line line' : ℕ → List ℕ) → ((i : ℕ) → i < n → line i ≡ line' i) → line_entries form line n ≡ line_entries form line' n
unfolding line_entries
lines_formed form n line line' h =
    joined_same (λ i. line_kind form ∷ take (line_body_width form) (line i)) (λ i. line_kind form ∷ take (line_body_width form) (line' i)) n 0
    (λ i a c. ap (λ (l : List ℕ). line_kind form ∷ take (line_body_width form) l) (h i (omega arith)))

-- so equal lines and slips have
pub formed_same : (form : Form) (n m : ℕ) (line line' slip slip' : ℕ → List ℕ) → ((i : ℕ) → i < n → line i ≡ line' i) → ((j : ℕ) → j < m → slip j ≡ slip' j)
    → formed form n m line slip ≡ formed form n m line' slip'
unfolding formed slip_entries
formed_same form n m line line' slip slip' h k =
    ap₂ (λ (x y : List ℕ). x ++ (y ++ end_entry n m))
    (lines_formed form n line line' h)
    (joined_same (λ j. slip_kind ∷ slip j) (λ j. slip_kind ∷ slip' j) m 0 (λ j a c. ap (λ (l : List ℕ). slip_kind ∷ l) (k j (omega arith))))

-- lines and slips of their widths
module _ (form : Form) (n m : ℕ) (line slip : ℕ → List ℕ) (lineWide : (i : ℕ) → i < n → length (line i) ≡ front_width) (slipWide : (j : ℕ) → j < m → length (slip j) ≡ slip_body_width) where
  abbrev s : List ℕ
  s = formed form n m line slip

  abbrev at : ℕ
  at = slips_at form n

  abbrev body : ℕ → List ℕ
  body i = take (line_body_width form) (line i)

  abbrev rest : List ℕ
  rest = slip_entries slip m ++ end_entry n m

  -- a body is of its width
  body_wide : (i : ℕ) → i < n → length (body i) ≡ line_body_width form
  body_wide i a = length-take-le (line_body_width form) (line i) (omega (arith, lineWide i a, width_most form))

  -- the lines are so long
  line_run : length (line_entries form line n) ≡ at
  line_run = lines_long form line n lineWide

  -- the slips are so long
  slip_run : length (slip_entries slip m) ≡ saved_slip_width * m
  slip_run = slips_long slip m slipWide

  -- the whole is so long
  pub formed_length : length s ≡ saved_width form n m
  unfolding formed saved_width
  formed_length =
      length-append (line_entries form line n) rest
      ∙ rw (line_run, length-append (slip_entries slip m) (end_entry n m), slip_run, end_wide n m) (omega arith)

  -- the bodies of lines stand in their entries
  formed_body : (i : ℕ) → i < n → body_in form s i ≡ body i
  unfolding formed line_entries body_in
  formed_body i a = kinded_body (line_kind form) (line_body_width form) (saved_line_width form) (entry_wide form) n body body_wide rest i a

  -- and those of slips
  pub formed_slip : (j : ℕ) → j < m → slip_in s at j ≡ slip j
  unfolding formed slip_in slip_entries
  formed_slip j a =
      rw (add_assoc at (saved_slip_width * j) 1, add_assoc at (saved_slip_width * j) saved_slip_width)
      (part_past (line_entries form line n) rest at line_run (saved_slip_width * j + 1) (saved_slip_width * j + saved_slip_width)
      ∙ kinded_body slip_kind slip_body_width saved_slip_width refl m slip slipWide (end_entry n m) j a)

  -- a number of the end
  from_end : (x w : ℕ) → le_at s (at + (saved_slip_width * m + x)) w ≡ le_at (end_entry n m) x w
  unfolding formed
  from_end x w =
      number_past (line_entries form line n) rest at line_run (saved_slip_width * m + x) w
      ∙ number_past (slip_entries slip m) (end_entry n m) (saved_slip_width * m) slip_run x w

  -- it states the lines
  pub formed_lines : n < 65536 → stated_lines s ≡ n
  unfolding stated_lines saved_width
  formed_lines h =
      let e : length s - 4 ≡ at + (saved_slip_width * m + 1) = omega (arith, formed_length) in
      rw e (from_end 1 2 ∙ end_lines n m h)

  -- it states the slips
  pub formed_slips : m < 65536 → stated_slips s ≡ m
  unfolding stated_slips saved_width
  formed_slips h =
      let e : length s - 2 ≡ at + (saved_slip_width * m + 3) = omega (arith, formed_length) in
      rw e (from_end 3 2 ∙ end_slips n m h)

  -- each line begins with its kind
  line_kinds : all_of_kind (line_kind form) (saved_line_width form) 0 n s ≡ true
  unfolding all_of_kind formed line_entries
  line_kinds =
      each_place (λ i. eqb (get_or s (0 + saved_line_width form * i) 0) (line_kind form)) n 0
      (λ i a c. rw (zero-add (saved_line_width form * i)) (eq-eqb _ _ (kinded_kind (line_kind form) (line_body_width form) (saved_line_width form) (entry_wide form) n body body_wide rest i (omega arith))))

  -- each slip
  slip_kinds : all_of_kind slip_kind saved_slip_width at m s ≡ true
  unfolding all_of_kind formed slip_entries
  slip_kinds =
      each_place (λ j. eqb (get_or s (at + saved_slip_width * j) 0) slip_kind) m 0
      (λ j a c. eq-eqb _ _ (byte_past (line_entries form line n) rest at line_run (saved_slip_width * j) ∙ kinded_kind slip_kind slip_body_width saved_slip_width refl m slip slipWide (end_entry n m) j (omega arith)))

  -- the end
  end_kind_law : get_or s (at + saved_slip_width * m) 0 ≡ end_kind
  unfolding formed end_entry
  end_kind_law =
      byte_past (line_entries form line n) rest at line_run (saved_slip_width * m)
      ∙ ap (λ (x : ℕ). get_or rest x 0) (sym (add-zero (saved_slip_width * m)))
      ∙ byte_past (slip_entries slip m) (end_entry n m) (saved_slip_width * m) slip_run 0

  -- it has the form of a save
  formed_in_form : in_form form n m s ≡ true
  unfolding in_form
  formed_in_form = rw (eq-eqb _ _ formed_length, line_kinds, slip_kinds, end_kind_law)

  -- lines of which the form says all
  module _ (says : (i : ℕ) → i < n → front_of form (body i) ≡ line i) where
    -- stand in their entries
    pub formed_line : (i : ℕ) → i < n → line_in form s i ≡ line i
    unfolding line_in
    formed_line i a = ap (front_of form) (formed_body i a) ∙ says i a

    -- make a valid save where they and the slips keep the rules
    pub formed_save : n < 65536 → m < 65536 → entries_kept n m line slip ≡ true → is_save_of form s ≡ true
    unfolding is_save_of saved_width
    formed_save h k e =
        rw (formed_lines h, formed_slips k, le-leb end_width (length s) (omega (arith, formed_length)), formed_in_form)
        (entries_same n m (line_in form s) line (slip_in s at) slip formed_line formed_slip ∙ e)

    -- and are moved to any form as they are
    pub formed_moved : (to : Form) → n < 65536 → moved form to s ≡ formed to n m line slip
    unfolding moved formed
    formed_moved to h =
        rw (formed_lines h)
        (ap₂ (λ (x y : List ℕ). x ++ y) (lines_formed to n (line_in form s) line formed_line) (drop_at (line_entries form line n) rest at line_run))

-- what a valid save of a form is
pub record Valid (form : Form) (s : List ℕ) : Type 0 where
  pub long : length s ≡ slips_at form (stated_lines s) + saved_slip_width * stated_slips s + end_width
  pub line_kind_law : (i : ℕ) → i < stated_lines s → get_or s (0 + saved_line_width form * i) 0 ≡ line_kind form
  pub slip_kind_law : (j : ℕ) → j < stated_slips s → get_or s (slips_at form (stated_lines s) + saved_slip_width * j) 0 ≡ slip_kind
  pub end_kind_law : get_or s (slips_at form (stated_lines s) + saved_slip_width * stated_slips s) 0 ≡ end_kind
  pub entries : entries_kept (stated_lines s) (stated_slips s) (line_in form s) (slip_in s (slips_at form (stated_lines s))) ≡ true

-- a save that passes the test
pub valid_so : (form : Form) (s : List ℕ) → is_save_of form s ≡ true → Valid form s
unfolding is_save_of in_form all_of_kind saved_width
valid_so form s h =
    let n : ℕ = stated_lines s in
    let m : ℕ = stated_slips s in
    let at : ℕ = slips_at form n in
    let a : Bool = leb end_width (length s) in
    let b : Bool = eqb (length s) (at + saved_slip_width * m + end_width) in
    let c : Bool = all_from (λ i. eqb (get_or s (0 + saved_line_width form * i) 0) (line_kind form)) n 0 in
    let d : Bool = all_from (λ j. eqb (get_or s (at + saved_slip_width * j) 0) slip_kind) m 0 in
    let e : Bool = eqb (get_or s (at + saved_slip_width * m) 0) end_kind in
    let k : Bool = entries_kept n m (line_in form s) (slip_in s at) in
    let bk : (b && (c && (d && e))) && k ≡ true = and_right a ((b && (c && (d && e))) && k) h in
    let be : b && (c && (d && e)) ≡ true = and_left (b && (c && (d && e))) k bk in
    let ce : c && (d && e) ≡ true = and_right b (c && (d && e)) be in
    let de : d && e ≡ true = and_right c (d && e) ce in
    record {
      long = eqb-true _ _ (and_left b (c && (d && e)) be);
      line_kind_law = λ i l. eqb-true _ _ (all_at (λ i. eqb (get_or s (0 + saved_line_width form * i) 0) (line_kind form)) n 0 i (and_left c (d && e) ce) (omega arith) (omega arith));
      slip_kind_law = λ j l. eqb-true _ _ (all_at (λ j. eqb (get_or s (at + saved_slip_width * j) 0) slip_kind) m 0 j (and_left d e de) (omega arith) (omega arith));
      end_kind_law = eqb-true _ _ (and_right d e de);
      entries = and_right (b && (c && (d && e))) k bk;
    }

-- a valid save of bytes
module _ (form : Form) (s : List ℕ) (bytes : Bytes s) (v : Valid form s) where
  abbrev lines : ℕ
  lines = stated_lines s

  abbrev slips : ℕ
  slips = stated_slips s

  abbrev start : ℕ
  start = slips_at form lines

  -- its last five bytes are its end
  end_back : drop (start + saved_slip_width * slips) s ≡ end_entry lines slips
  unfolding end_entry stated_lines stated_slips
  end_back =
      let p : ℕ = start + saved_slip_width * slips in
      let long : length s ≡ p + 5 = v.long in
      let a : length s - 4 ≡ p + 1 = omega arith in
      let b : length s - 2 ≡ p + 3 = omega arith in
      let three : p + 1 + 2 ≡ p + 3 = omega arith in
      let kind : get_or s p 0 ≡ end_kind = v.end_kind_law in
      let first : le_bytes 2 lines ≡ slice (p + 1) (p + 3) s =
      ap (λ (x : ℕ). le_bytes 2 (le_at s x 2)) a ∙ bytes_back s bytes 2 (p + 1) (omega arith) ∙ ap (λ (x : ℕ). slice (p + 1) x s) three in
      let second : le_bytes 2 slips ≡ drop (p + 3) s =
      ap (λ (x : ℕ). le_bytes 2 (le_at s x 2)) b ∙ bytes_back s bytes 2 (p + 3) (omega arith) ∙ to_end (p + 3) (p + 3 + 2) s (omega arith) in
      let after : slice (p + 1) (p + 3) s ++ drop (p + 3) s ≡ drop (suc p) s =
      rw (← add-one p) (ap (λ (x : ℕ). slice (p + 1) x s ++ drop x s) (sym three) ∙ part_and_rest s (p + 1) 2) in
      drop-cons s p 0 (omega arith) ∙ ap₂ (λ (x : ℕ) (l : List ℕ). x ∷ l) kind (sym after ∙ ap₂ (λ (x y : List ℕ). x ++ y) (sym first) (sym second))

  -- behind its lines stand its slips and its end
  slips_back_law : drop start s ≡ slip_entries (slip_in s start) slips ++ end_entry lines slips
  unfolding slip_entries slip_in
  slips_back_law =
      sym (ap (λ (l : List ℕ). joined_from (λ j. slip_kind ∷ slip_in s start j) slips 0 ++ l) (sym end_back)
      ∙ kinded_cut s start slip_kind saved_slip_width slips (slip_in s start) (omega arith) (omega (arith, v.long)) v.slip_kind_law (λ k a. refl))

  -- moved to a form it is the form of its lines and slips
  pub moved_formed : (to : Form) → moved form to s ≡ formed to lines slips (line_in form s) (slip_in s start)
  unfolding moved formed
  moved_formed to = ap (λ (l : List ℕ). line_entries to (line_in form s) lines ++ l) slips_back_law

  -- a body stands where its entry does
  body_back : (i : ℕ) → i < lines → take (line_body_width form) (line_in form s i) ≡ body_in form s i
  unfolding line_in
  body_back i a = front_body form (body_in form s i) (body_long form s i (omega (arith, line_before form i lines a, v.long)))

  -- so it is itself the form of its lines and slips
  pub valid_formed : formed form lines slips (line_in form s) (slip_in s start) ≡ s
  unfolding formed line_entries body_in slips_at
  valid_formed =
      let w : ℕ = saved_line_width form in
      let e : 0 + w * lines ≡ w * lines = zero-add (w * lines) in
      ap (λ (l : List ℕ). line_entries form (line_in form s) lines ++ l) (sym slips_back_law)
      ∙ ap (λ (x : ℕ). line_entries form (line_in form s) lines ++ drop x s) (sym e)
      ∙ kinded_cut s 0 (line_kind form) w lines (λ i. take (line_body_width form) (line_in form s i)) (omega (arith, entry_wide form)) (omega (arith, v.long)) v.line_kind_law
      (λ k a. body_back k a ∙ rw (zero-add (w * k)))
