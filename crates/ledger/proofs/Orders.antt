-- Lines and accepted orders are one to one: a figure summed over the lines is summed over the orders, each by the line with its key.
use Prim.Native.Nat.{ℕ, ◌+◌, ◌≤◌}
use native.Mathlib.Omega.{arith}
use mathlib.Core.Path.{◌≡◌, refl, ap, ◌∙◌, sym}
use mathlib.Core.Bool.{Bool}
use mathlib.Core.List.{List, [], ◌∷◌, ◌++◌, map, map-append}
use lib.ListN.{length}
use Rattle.cells.specs.Bytes.{same}
use Rattle.cells.proofs.Bools.{split}
use Rattle.cells.proofs.Lists.{same_refl, same_true}
use Rattle.ledger.specs.Lists.{keep, total, first, change, given}
use Rattle.ledger.specs.Book.{Key, Line, Rooms}
use Rattle.ledger.specs.Booking.{Fit, order, goods, report, line_at, new_line, arrive, tell, change_line, enter}
use Rattle.ledger.specs.History.{State, empty, bookings, key_of, lines_of, part, records_of, is_order}
use Rattle.ledger.proofs.Lists.{keep_in, keep_out, total_kept, total_map, keep_swap}
use Rattle.ledger.proofs.Parts.{arrive_key, tell_key, line_part}
use Rattle.ledger.proofs.Histories.{Lasts, by_bookings, alone}
use Rattle.ledger.proofs.Lines.{distinct_lines}

-- the keys of lines
abbrev keys_of : List Line → List Key
keys_of ls = map (λ (l : Line). l.key) ls

-- the accepted orders
abbrev pub orders_in : List Fit → List Fit
orders_in rs = keep is_order rs

-- a change that keeps the keys
change_keys : (q : Line → Bool) (f : Line → Line) → ((l : Line) → (f l).key ≡ l.key) → (ls : List Line) → keys_of (change q f ls) ≡ keys_of ls
unfolding change
change_keys q f h [] = refl
change_keys q f h (l ∷ ls) = let ih = change_keys q f h ls in let k = h l in split (q l) (λ e. cc) (λ e. cc)

-- the keys of the lines are those of the accepted orders, in their order
abbrev KeysAgree : State → Type 0
KeysAgree st = keys_of st.book.lines ≡ map key_of (orders_in st.accepted)

keys_last : (rooms : Rooms) → Lasts KeysAgree rooms
unfolding enter change_line key_of is_order
keys_last rooms st (order k o c) e h =
    rw (keep_in is_order st.accepted (order k o c) refl)
    (map-append (λ (l : Line). l.key) st.book.lines (new_line k o ∷ [])
    ∙ ap (λ (ks : List Key). ks ++ (k ∷ [])) h
    ∙ sym (map-append key_of (orders_in st.accepted) (order k o c ∷ [])))
keys_last rooms st (goods k g) e h =
    rw (keep_out is_order st.accepted (goods k g) refl) (change_keys _ (arrive g.copies) (arrive_key g.copies) st.book.lines ∙ h)
keys_last rooms st (report k m) e h =
    rw (keep_out is_order st.accepted (report k m) refl) (change_keys _ (tell m) (tell_key m) st.book.lines ∙ h)

keys_agree : (rooms : Rooms) (rs : List Fit) → KeysAgree (bookings rooms empty rs)
unfolding keep
keys_agree rooms rs = by_bookings KeysAgree rooms (keys_last rooms) rs empty refl

-- no two lines have one key
abbrev Distinct : List Line → Type 0
Distinct ls = (k : Key) → length (keep (λ (l : Line). same k l.key) ls) ≤ 1

-- the line of a key, as a figure; 0 where there is none
abbrev pub figure_at : (Line → ℕ) → List Line → Key → ℕ
figure_at f ls k = given 0 f (line_at k ls)

-- the first of distinct lines has a key that no other has
first_apart : (l : Line) (ls : List Line) → Distinct (l ∷ ls) → keep (λ (x : Line). same l.key x.key) ls ≡ []
unfolding keep
first_apart l ls d =
    let q : Line → Bool = λ x. same l.key x.key in
    let h : length (l ∷ keep q ls) ≤ 1 = rw (same_refl l.key) at (d l.key) in
    go (keep q ls) h
  where
    go : (xs : List Line) → length (l ∷ xs) ≤ 1 → xs ≡ []
    go [] h = refl
    go (x ∷ xs) h = absurd (omega arith)

-- the others are distinct too
rest_distinct : (l : Line) (ls : List Line) → Distinct (l ∷ ls) → Distinct ls
unfolding keep
rest_distinct l ls d k =
    let h = d k in
    split (same k l.key) (λ e. omega (arith, rw e at h)) (λ e. rw e at h)

-- where no line of a list has the first one's key, their own lines are found behind it
behind : (f : Line → ℕ) (l : Line) (ls xs : List Line) → keep (λ (x : Line). same l.key x.key) xs ≡ []
    → total (figure_at f (l ∷ ls)) (keys_of xs) ≡ total (figure_at f ls) (keys_of xs)
unfolding keep total line_at first
behind f l ls [] e = refl
behind f l ls (x ∷ xs) e =
    split (same l.key x.key)
    (λ t. let z : ◌≡◌ {A = List Line} (x ∷ keep (λ (y : Line). same l.key y.key) xs) [] = rw t at e in cc)
    (λ t.
    let ih = behind f l ls xs (rw t at e) in
    split (same x.key l.key)
    (λ u. let d = same_true x.key l.key u in let z = same_refl l.key in cc)
    (λ u. rw u (ap (λ (n : ℕ). figure_at f ls x.key + n) ih)))

-- a figure summed over distinct lines is summed over their keys
by_keys : (f : Line → ℕ) (ls : List Line) → Distinct ls → total f ls ≡ total (figure_at f ls) (keys_of ls)
unfolding total line_at first given
by_keys f [] d = refl
by_keys f (l ∷ ls) d =
    let ih = by_keys f ls (rest_distinct l ls d) in
    let b = behind f l ls ls (first_apart l ls d) in
    rw (same_refl l.key) (ap (λ (n : ℕ). f l + n) (ih ∙ sym b))

-- of the state after some bookings, and of the part that some keys have
module _ (p : Key → Bool) (rooms : Rooms) (rs : List Fit) where
  abbrev end : State
  end = bookings rooms empty rs

  abbrev own : List Fit
  own = records_of p end.accepted

  abbrev own_lines : List Line
  own_lines = lines_of p end.book.lines

  own_distinct : Distinct own_lines
  unfolding part
  own_distinct k = rw (alone p rooms rs) at (distinct_lines rooms own k)

  own_keys : keys_of own_lines ≡ map key_of (orders_in own)
  unfolding part
  own_keys = rw (alone p rooms rs) at (keys_agree rooms own)

  -- a figure summed over their lines is summed over their orders, each by the line with its key
  pub lines_by_orders : (f : Line → ℕ)
      → total f (lines_of p end.book.lines) ≡ total (λ r. figure_at f end.book.lines (key_of r)) (orders_in (records_of p end.accepted))
  unfolding records_of
  lines_by_orders f =
      let q : Fit → Bool = λ r. p (key_of r) in
      let swap = keep_swap is_order q end.accepted in
      by_keys f own_lines own_distinct
      ∙ ap (total (figure_at f own_lines)) own_keys
      ∙ total_map (figure_at f own_lines) key_of (orders_in own)
      ∙ rw swap
      (total_kept (λ r. figure_at f own_lines (key_of r)) (λ r. figure_at f end.book.lines (key_of r)) q
      (λ r h. ap (given 0 f) (line_part p (key_of r) end.book.lines h)) (orders_in end.accepted))
