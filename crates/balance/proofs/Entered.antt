-- A line changed, a line added and a slip added: what the book then tells, and that it stays sound with the same rooms.
use mathlib.Core.Path.{◌≡◌, ◌∙◌, ap, ap₂, refl}
use mathlib.Core.Bool.{true}
use mathlib.Core.Logic.{◌≢◌}
use mathlib.Core.List.{List, [], ◌∷◌, ◌++◌}
use Prim.Native.Nat.{ℕ, suc, ◌+◌, ◌*◌, ◌≤◌, ◌<◌}
use native.Mathlib.Numerals.{add-one}
use native.Mathlib.Omega.{arith}
use lib.Dec.{eqb}
use lib.ListN.{length, set, length-set}
use lib.Seq.{get_or-set_same, get_or-set_other}
use borrow.Author.Tests.{eqb-true, eqb-false}
use Rattle.cells.proofs.Bools.{split}
use Rattle.rules.specs.declared.amount.Copies.{Copies}
use Rattle.entry.specs.Line.{new_line}
use Rattle.entry.specs.Report.{blank_date}
use Rattle.entry.specs.Stored.{line_width, key_width, ordered_at, slip_width, slip_key_width, most_copies, line_at, date_at, add_line, key_at, article_at, line_sound, slip_line_at, add_slip}
use Rattle.entry.specs.declared.line.Line.{Line as Stored}
use Rattle.entry.proofs.Kept.{Changed, other_line, other_date, same_key, same_article, add_length, add_back, add_date, add_key, add_article, add_apart, add_date_apart, add_key_apart, add_article_apart, slip_length, slip_key_law, slip_line, slip_copies_law, slip_key_apart, slip_line_apart, slip_copies_apart}
use Rattle.entry.proofs.Sound.{other_sound, add_sound, add_sound_apart}
use Rattle.ledger.specs.Book.{Key, Line, Slip}
use Rattle.book.specs.Lent.{Lent, used_lines, used_slips, line_room, slip_room}
use Rattle.balance.specs.Told.{report_of, line_told, slip_told, told, rooms_of}
use Rattle.balance.proofs.Listings.{listed_same, listed_more}
use Rattle.book.proofs.Sounds.{sound_so}
use Rattle.balance.proofs.Soundness.{still_sound, Kept, line_room_law, slip_room_law}

-- a line with a key, an article and the bytes of an expected date, as the book tells it
unfoldable pub line_of : Key → List ℕ → List ℕ → Stored → Line
line_of key article date l = record {
  key = key;
  asked = record { copies = l.ordered.0; article = article };
  arrived = l.arrived.0;
  last = report_of l.mark l.message date;
}

-- a used line has its bytes in the room
pub at : (b : Lent) (i : ℕ) → Kept b → i < used_lines b → line_width * i + line_width ≤ length b.lines
at b i k used =
    let say = sound_so b k.is_sound in
    line_room_law b say i (omega (arith, say.lines_fit))

-- the book with other lines
abbrev pub with_lines : Lent → List ℕ → Lent
with_lines b ls = record { lines = ls; slips = b.slips; used = b.used }

-- the line at i changed, and is sound
module _ (b : Lent) (i : ℕ) (ls : List ℕ) (c : Changed ls b.lines i) (k : Kept b) where
  pub put_here : line_told ls i ≡ line_of (key_at b.lines i) (article_at b.lines i) (date_at ls i) (line_at ls i)
  unfolding line_told line_of
  put_here = rw (same_key c i, same_article c i)

  pub put_other : (x : ℕ) → x ≢ i → line_told ls x ≡ line_told b.lines x
  unfolding line_told
  put_other x ne = rw (same_key c x, same_article c x, other_line c x ne, other_date c x ne)

  pub put_slips : (told (with_lines b ls)).slips ≡ (told b).slips
  unfolding told slip_told used_slips
  put_slips =
      listed_same (slip_told ls b.slips) (slip_told b.lines b.slips) (used_slips b) 0
      (λ x a d. rw (same_key c (slip_line_at b.slips x)))

  pub put_rooms : rooms_of (with_lines b ls) ≡ rooms_of b
  unfolding rooms_of line_room slip_room
  put_rooms = rw c.room

  pub put_kept : line_sound ls i ≡ true → Kept (with_lines b ls)
  unfolding used_lines used_slips line_room slip_room
  put_kept fine =
      let say = sound_so b k.is_sound in
      let sized = c.room in
      record {
        is_sound =
            still_sound b (with_lines b ls) k.is_sound sized refl (rw sized say.lines_fit) say.slips_fit
            (λ x h. split (eqb x i)
            (λ e. let d = eqb-true x i e in rw d fine)
            (λ e. other_sound c x (eqb-false x i e) ∙ say.line_sound_law x h))
            say.slip_names;
        counts = k.counts;
      }

-- a line added with what it is named by
abbrev pub more_line : Lent → List ℕ → Copies → Lent
more_line b named n = record { lines = add_line b.lines (used_lines b) named n; slips = b.slips; used = set b.used 0 (used_lines b + 1) }

module _ (b : Lent) (key article : List ℕ) (n : Copies) (k : Kept b) (room : used_lines b < line_room b) (wide : length key ≡ key_width) (whole : length (key ++ article) ≡ ordered_at) (least : 1 ≤ n.0) (most : n.0 ≤ most_copies) where
  pub next : line_width * used_lines b + line_width ≤ length b.lines
  next = line_room_law b (sound_so b k.is_sound) (used_lines b) room

  pub lines_after : used_lines (more_line b (key ++ article) n) ≡ suc (used_lines b)
  unfolding used_lines
  lines_after = rw (get_or-set_same b.used 0 (used_lines b + 1) 0 (omega (arith, k.counts))) (add-one (used_lines b))

  pub slips_after : used_slips (more_line b (key ++ article) n) ≡ used_slips b
  unfolding used_slips
  slips_after = get_or-set_other b.used 0 1 (used_lines b + 1) 0 (λ e. omega arith)

  add_other : (x : ℕ) → 0 ≤ x → x < 0 + used_lines b → line_told (add_line b.lines (used_lines b) (key ++ article) n) x ≡ line_told b.lines x
  unfolding line_told
  add_other x a c =
      let ne : x ≢ used_lines b = λ e. omega arith in
      rw (add_key_apart b.lines (used_lines b) (key ++ article) n whole x ne, add_article_apart b.lines (used_lines b) (key ++ article) n whole x ne, add_apart b.lines (used_lines b) (key ++ article) n whole x ne, add_date_apart b.lines (used_lines b) (key ++ article) n whole x ne)

  add_here : line_told (add_line b.lines (used_lines b) (key ++ article) n) (used_lines b) ≡ line_of key article blank_date (new_line n)
  unfolding line_told line_of
  add_here =
      rw (add_key b.lines (used_lines b) key article n wide whole next, add_article b.lines (used_lines b) key article n wide whole next, add_back b.lines (used_lines b) (key ++ article) n whole next (omega arith), add_date b.lines (used_lines b) (key ++ article) n whole next)

  -- each line is told as before, and the new one last
  pub add_lines : (told (more_line b (key ++ article) n)).lines ≡ (told b).lines ++ (line_of key article blank_date (new_line n) ∷ [])
  unfolding told
  add_lines =
      let f = line_told (add_line b.lines (used_lines b) (key ++ article) n) in
      rw lines_after
      (listed_more f (used_lines b) 0
      ∙ ap₂ (λ (x : List Line) (y : Line). x ++ (y ∷ []))
      (listed_same f (line_told b.lines) (used_lines b) 0 add_other)
      (ap f (omega arith) ∙ add_here))

  add_slip_told : (x : ℕ) → 0 ≤ x → x < 0 + used_slips b
      → slip_told (add_line b.lines (used_lines b) (key ++ article) n) b.slips x ≡ slip_told b.lines b.slips x
  unfolding slip_told
  add_slip_told x a c =
      let lt = (sound_so b k.is_sound).slip_names x (omega arith) in
      let ne : slip_line_at b.slips x ≢ used_lines b = λ e. omega arith in
      rw (add_key_apart b.lines (used_lines b) (key ++ article) n whole (slip_line_at b.slips x) ne)

  -- slips name used lines, so each is told as before
  pub add_slips : (told (more_line b (key ++ article) n)).slips ≡ (told b).slips
  unfolding told
  add_slips =
      rw slips_after
      (listed_same (slip_told (add_line b.lines (used_lines b) (key ++ article) n) b.slips) (slip_told b.lines b.slips) (used_slips b) 0 add_slip_told)

  pub add_rooms : rooms_of (more_line b (key ++ article) n) ≡ rooms_of b
  unfolding rooms_of line_room slip_room
  add_rooms = rw (add_length b.lines (used_lines b) (key ++ article) n)

  pub add_kept : Kept (more_line b (key ++ article) n)
  unfolding line_room slip_room
  add_kept =
      let say = sound_so b k.is_sound in
      let at_end : ℕ = used_lines b in
      let sized = add_length b.lines at_end (key ++ article) n in
      record {
        is_sound =
            still_sound b (more_line b (key ++ article) n) k.is_sound sized refl (rw (lines_after, sized) room) (rw slips_after say.slips_fit)
            (λ x h. split (eqb x at_end)
            (λ e. let d = eqb-true x at_end e in rw d (add_sound b.lines at_end (key ++ article) n whole next least most))
            (λ e.
            let ne = eqb-false x at_end e in
            add_sound_apart b.lines at_end (key ++ article) n whole x ne ∙ say.line_sound_law x (omega (arith, lines_after))))
            (λ x h. omega (arith, lines_after, say.slip_names x (omega (arith, slips_after))));
        counts = rw (length-set b.used 0 (at_end + 1)) k.counts;
      }

-- a slip added that names the line at i
abbrev pub more_slip : Lent → Key → ℕ → Copies → Lent
more_slip b key i copies = record { lines = b.lines; slips = add_slip b.slips (used_slips b) key i copies; used = set b.used 1 (used_slips b + 1) }

module _ (b : Lent) (key : Key) (i : ℕ) (copies : Copies) (k : Kept b) (room : used_slips b < slip_room b) (wide : length key ≡ slip_key_width) (used : i < used_lines b) (few : copies.0 < 65536) where
  pub slip_next : slip_width * used_slips b + slip_width ≤ length b.slips
  slip_next = slip_room_law b (sound_so b k.is_sound) (used_slips b) room

  pub lines_as_before : used_lines (more_slip b key i copies) ≡ used_lines b
  unfolding used_lines
  lines_as_before = get_or-set_other b.used 1 0 (used_slips b + 1) 0 (λ e. omega arith)

  pub one_slip_more : used_slips (more_slip b key i copies) ≡ suc (used_slips b)
  unfolding used_slips
  one_slip_more = rw (get_or-set_same b.used 1 (used_slips b + 1) 0 (omega (arith, k.counts))) (add-one (used_slips b))

  names : slip_line_at (add_slip b.slips (used_slips b) key i copies) (used_slips b) ≡ i
  names = slip_line b.slips (used_slips b) key i copies wide slip_next (omega (arith, sound_so b k.is_sound))

  -- each line is told as before
  pub slip_lines : (told (more_slip b key i copies)).lines ≡ (told b).lines
  unfolding told
  slip_lines = rw lines_as_before

  slip_other : (x : ℕ) → 0 ≤ x → x < 0 + used_slips b
      → slip_told b.lines (add_slip b.slips (used_slips b) key i copies) x ≡ slip_told b.lines b.slips x
  unfolding slip_told
  slip_other x a c =
      let ne : x ≢ used_slips b = λ e. omega arith in
      rw (slip_line_apart b.slips (used_slips b) key i copies wide x ne, slip_key_apart b.slips (used_slips b) key i copies wide x ne, slip_copies_apart b.slips (used_slips b) key i copies wide x ne)

  slip_here : slip_told b.lines (add_slip b.slips (used_slips b) key i copies) (used_slips b) ≡ record { line = key_at b.lines i; says = record { slip = key; copies = copies.0 } }
  unfolding slip_told
  slip_here =
      rw (names, slip_key_law b.slips (used_slips b) key i copies wide slip_next, slip_copies_law b.slips (used_slips b) key i copies wide slip_next few)

  -- each slip is told as before, and the new one last
  pub slip_slips : (told (more_slip b key i copies)).slips ≡ (told b).slips ++ (record { line = key_at b.lines i; says = record { slip = key; copies = copies.0 } } ∷ [])
  unfolding told
  slip_slips =
      let f = slip_told b.lines (add_slip b.slips (used_slips b) key i copies) in
      rw one_slip_more
      (listed_more f (used_slips b) 0
      ∙ ap₂ (λ (x : List Slip) (y : Slip). x ++ (y ∷ []))
      (listed_same f (slip_told b.lines b.slips) (used_slips b) 0 slip_other)
      (ap f (omega arith) ∙ slip_here))

  pub slip_rooms : rooms_of (more_slip b key i copies) ≡ rooms_of b
  unfolding rooms_of line_room slip_room
  slip_rooms = rw (slip_length b.slips (used_slips b) key i copies)

  pub slip_kept_law : Kept (more_slip b key i copies)
  unfolding line_room slip_room
  slip_kept_law =
      let say = sound_so b k.is_sound in
      let n : ℕ = used_slips b in
      let sized = slip_length b.slips n key i copies in
      record {
        is_sound =
            still_sound b (more_slip b key i copies) k.is_sound refl sized (rw lines_as_before say.lines_fit) (rw (one_slip_more, sized) room)
            (λ x h. say.line_sound_law x (omega (arith, lines_as_before)))
            (λ x h. split (eqb x n)
            (λ e. let d = eqb-true x n e in rw (d, names, lines_as_before) used)
            (λ e.
            let ne = eqb-false x n e in
            rw (slip_line_apart b.slips n key i copies wide x ne, lines_as_before) (say.slip_names x (omega (arith, one_slip_more)))));
        counts = rw (length-set b.used 1 (n + 1)) k.counts;
      }
