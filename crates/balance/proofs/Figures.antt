-- The figures and the last report that the calls answer are those of the book that the bytes tell.
use mathlib.Core.Path.{◌≡◌, ◌∙◌, ap, sym, refl}
use mathlib.Core.Bool.{Bool, true}
use mathlib.Core.Logic.{◌≢◌}
use mathlib.Core.Option.{none, some}
use mathlib.Core.List.{List, [], ◌∷◌, ◌++◌}
use Prim.Native.Nat.{ℕ}
use native.Mathlib.Omega.{arith}
use Rattle.cells.specs.Bytes.{bytes, same, joined}
use Rattle.cells.proofs.Bools.{split}
use Rattle.cells.proofs.Lists.{same_refl}
use Rattle.rules.specs.Values.{expected_of}
use Rattle.record.specs.Values.{field_bytes}
use Rattle.record.specs.declared.layout.Kind.{Kind}
use Rattle.record.specs.declared.layout.Kind.TheVariants.{Order, Goods, Closing, Report}
use Rattle.entry.specs.Line.{new_line, with_report, with_arrivals, open_of, let_go_of, filled_of, figures_of, reported_of}
use Rattle.entry.specs.Report.{blank_date, report_told}
use Rattle.entry.specs.Stored.{line_at, date_at, key_at, article_at}
use Rattle.entry.specs.declared.report.Message.{Message}
use Rattle.entry.specs.declared.report.Message.TheVariants.{NoReport, Unknown, Numbered}
use Rattle.entry.proofs.Kept.{blank_date_law}
use Rattle.entry.proofs.Sound.{Said, sound_said}
use Rattle.entry.specs.declared.line.Mark.{Mark}
use Rattle.entry.specs.declared.line.Mark.TheVariants.{Unmarked, Held, Dropped}
use Rattle.entry.specs.declared.line.Line.{Line as Stored}
use Rattle.ledger.specs.Lists.{first, change}
use Rattle.ledger.specs.Book.{Key, Line, ordered, filled, let_go, still_open, extra, is_n}
use Rattle.ledger.specs.Booking.{new_line as newTold, arrive, tell, change_line, enter, line_at as line_with}
use Rattle.ledger.specs.History.{key_of as keyIn}
use Rattle.ledger.proofs.Parts.{arrive_key, tell_key}
use Rattle.book.specs.Lent.{Lent, sound, find_line, find_slip}
use Rattle.book.proofs.Sounds.{sound_so}
use Rattle.book.specs.Booking.{line_key, article_in, slip_key, school_in, copies_in, mark_in, message_in, date_in, book_judged, line_after, done_as, told_in}
use Rattle.book.specs.Asked.{figures_at, figures_of_key, line_asked}
use Rattle.std.specs.Prelude.{None, Ok, Option, Some}
use Rattle.balance.specs.Met.{Met}
use Rattle.balance.specs.Calls.{book_call}
use Rattle.balance.specs.Told.{known_number, report_of, line_told, told, fit_as, fit_kind, fit_of}
use Rattle.balance.specs.Demand3.{key_fields_in}
use Rattle.balance.specs.Joined.{figures_told, message_from, reported_told, says_of, AskedTells, BookedTells}
use Rattle.balance.proofs.Accepted.{Accepts, accepted}
use Rattle.balance.proofs.Entered.{line_of}
use Rattle.balance.proofs.Found.{no_line, line_found, line_used}
use Rattle.balance.proofs.Followed.{fit_passed, order_fits, delivery_fits, report_fits_law, said_in, report_mark, follows}
use Rattle.balance.proofs.Bookable.{bookable, keyed}

-- one rule for figures: those of a stored line are those of the line that it is told as
figures_told_law : (key : Key) (article date : List ℕ) (l : Stored) → figures_of l ≡ figures_told (line_of key article date l)
unfolding figures_of filled_of figures_told line_of report_of ordered filled let_go still_open extra is_n open_of let_go_of
figures_told_law key article date l = go l.mark refl
  where
    go : (m : Mark) → l.mark ≡ m → figures_of l ≡ figures_told (line_of key article date l)
    go Unmarked e = rw e refl
    go Held e = rw e refl
    go Dropped e = rw e refl

-- and one for the last report: what a line keeps of it goes together with the bytes of its expected date
pub record Together (l : Stored) (date : List ℕ) : Type 0 where
  pub dated : l.expected ≡ expected_of date
  pub said : Said l.mark l.message date

known_back : (n : Message) → n ≢ NoReport → message_from (known_number n) ≡ n
unfolding message_from known_number
known_back NoReport ne = absurd (ne refl)
known_back Unknown ne = refl
known_back (Numbered n) ne = refl

reported_told_law : (l : Stored) (date : List ℕ) → Together l date → reported_of l ≡ reported_told (report_of l.mark l.message date)
unfolding reported_of reported_told report_of Said
reported_told_law l date t = go l.mark t.said
  where
    go : (m : Mark) → Said m l.message date → report_told l.message l.expected ≡ reported_told (report_of m l.message date)
    go Unmarked s = rw (t.dated, s.0, s.1, blank_date_law) refl
    go Held s = rw (t.dated, known_back l.message s) refl
    go Dropped s = rw (t.dated, known_back l.message s) refl

-- so what a call says of a line is what it says of the line told
pub done_told : (key : Key) (article date : List ℕ) (l : Stored) → Together l date → done_as l ≡ says_of (some (line_of key article date l))
unfolding done_as says_of
done_told key article date l t = rw (figures_told_law key article date l, reported_told_law l date t) (unfold line_of in refl)

-- the line at a place, told
line_of_law : (lines : List ℕ) (i : ℕ) → line_told lines i ≡ line_of (key_at lines i) (article_at lines i) (date_at lines i) (line_at lines i)
unfolding line_told line_of
line_of_law lines i = refl

-- a used line of a sound book
pub line_together : (b : Lent) (key : Key) (i : ℕ) → sound b ≡ true → find_line b key ≡ Some i → Together (line_at b.lines i) (date_at b.lines i)
line_together b key i h e =
    record { dated = unfold line_at in refl; said = sound_said b.lines i ((sound_so b h).line_sound_law i (line_used b key i e).0) }

-- what is said of what a search found
found_told : (b : Lent) (key : Key) → sound b ≡ true → (f : Option ℕ) → find_line b key ≡ f → figures_at b f ≡ says_of (line_with key (told b).lines)
unfolding figures_at
found_told b key h None e = rw (no_line b key e) (unfold says_of in refl)
found_told b key h (Some i) e =
    done_told (key_at b.lines i) (article_at b.lines i) (date_at b.lines i) (line_at b.lines i) (line_together b key i h e)
    ∙ ap says_of (ap some (sym (line_of_law b.lines i)) ∙ sym (line_found b key i e))

-- the call by key
pub asked_tells : AskedTells
unfolding line_asked figures_of_key
asked_tells fields b = split (sound b) (λ h. rw (h, found_told b (joined fields) h (find_line b (joined fields)) refl) refl) (λ h. rw h refl)

-- the first match among more entries, and after a change
module _ {A : Type 0} (q : A → Bool) where
  first_added : (l : List A) (a : A) → first q l ≡ none → q a ≡ true → first q (l ++ (a ∷ [])) ≡ some a
  unfolding first
  first_added [] a e t = rw t refl
  first_added (b ∷ l) a e t =
      split (q b) (λ h. let z : ◌≡◌ {A = ℕ} 0 1 = cc in absurd (omega arith)) (λ h. rw h (first_added l a (rw h at e) t))

  first_changed : (f : A → A) → ((a : A) → q (f a) ≡ q a) → (l : List A) (a : A) → first q l ≡ some a → first q (change q f l) ≡ some (f a)
  unfolding first change
  first_changed f h [] a e = let z : ◌≡◌ {A = ℕ} 0 1 = cc in absurd (omega arith)
  first_changed f h (b ∷ l) a e =
      split (q b) (λ t. let d : b ≡ a = cc in rw (t, h b, t) (ap (λ (x : A). some (f x)) d)) (λ t. rw (t, t) (first_changed f h l a (rw t at e)))

-- the key, the article and the expected date of a record's line afterwards: an order's own and eight blanks, a report's date, else those that stand in the line
unfoldable pub key_after : Kind → List ℕ → Lent → ℕ → Key
key_after Order s b i = line_key Order s
key_after Goods s b i = key_at b.lines i
key_after Closing s b i = key_at b.lines i
key_after Report s b i = key_at b.lines i

unfoldable pub article_after : Kind → List ℕ → Lent → ℕ → List ℕ
article_after Order s b i = article_in Order s
article_after Goods s b i = article_at b.lines i
article_after Closing s b i = article_at b.lines i
article_after Report s b i = article_at b.lines i

unfoldable pub date_after : Kind → List ℕ → Lent → ℕ → List ℕ
date_after Order s b i = blank_date
date_after Goods s b i = date_at b.lines i
date_after Closing s b i = date_at b.lines i
date_after Report s b i = date_in s

-- what a report's record says goes together
pub said_in_law : (s : List ℕ) → Said (mark_in s) (message_in s) (date_in s)
unfolding mark_in message_in Said
said_in_law s = split (same (field_bytes Report 10 s) (bytes "J")) (λ e. rw e (λ p. let z : ◌≡◌ {A = ℕ} 0 1 = cc in omega arith)) (λ e. rw e (λ p. let z : ◌≡◌ {A = ℕ} 0 1 = cc in omega arith))

-- a record that was accepted, entered in the told book: its line is found there by its key
module _ (s roster : List ℕ) (b : Lent) (i : ℕ) where
  -- the line after a record of a kind, told
  abbrev pub told_after : Kind → Line
  told_after k = line_of (key_after k s b i) (article_after k s b i) (date_after k s b i) (line_after k s b i)

  order_found : find_line b (line_key Order s) ≡ None → line_with (line_key Order s) (enter (told b) (fit_as Order s roster)).lines ≡ some (told_after Order)
  unfolding line_after new_line fit_as enter line_with line_of report_of key_after article_after date_after
  order_found e =
      let key : Key = line_key Order s in
      let l : Line = newTold key (record { copies = (copies_in Order s).0; article = article_in Order s }) in
      first_added (λ (x : Line). same key x.key) (told b).lines l (no_line b key e) (same_refl key)

  -- a line that is changed
  changed_found : (key : Key) (l : Line) (f : Line → Line) → ((x : Line) → (f x).key ≡ x.key) → find_line b key ≡ Some i
      → l ≡ f (line_told b.lines i) → line_with key (change_line key f (told b).lines) ≡ some l
  unfolding change_line line_with
  changed_found key l f h e d =
      let q : Line → Bool = λ x. same key x.key in
      first_changed q f (λ x. ap (same key) (h x)) (told b).lines (line_told b.lines i) (line_found b key i e) ∙ ap some (sym d)

  goods_found : find_line b (line_key Goods s) ≡ Some i → line_with (line_key Goods s) (enter (told b) (fit_as Goods s roster)).lines ≡ some (told_after Goods)
  unfolding line_after fit_as enter key_after article_after date_after line_of with_arrivals arrive line_told
  goods_found e = changed_found (line_key Goods s) _ (arrive (copies_in Goods s).0) (arrive_key (copies_in Goods s).0) e refl

  report_found : find_line b (line_key Report s) ≡ Some i → line_with (line_key Report s) (enter (told b) (fit_as Report s roster)).lines ≡ some (told_after Report)
  unfolding line_after fit_as enter key_after article_after date_after line_of with_report tell line_told
  report_found e = changed_found (line_key Report s) _ (tell (said_in s)) (tell_key (said_in s)) e (rw (report_mark s) refl)

  pub kind_found : (k : Kind) (ceiling : ℕ) → book_judged k s ceiling b ≡ Ok i
      → line_with (keyIn (fit_as k s roster)) (enter (told b) (fit_as k s roster)).lines ≡ some (told_after k)
  unfolding book_judged keyIn fit_as
  kind_found Order ceiling e = order_found (order_fits b i (school_in Order s) (copies_in Order s) ceiling (find_line b (line_key Order s)) e).0
  kind_found Goods ceiling e = goods_found (delivery_fits b i (line_key Goods s) (copies_in Goods s) (find_slip b (slip_key s)) e).1.0
  kind_found Closing ceiling e = let z : ◌≡◌ {A = ℕ} 0 1 = cc in absurd (omega arith)
  kind_found Report ceiling e = report_found (report_fits_law b i (find_line b (line_key Report s)) e)

  -- what its line keeps of its last report goes together
  pub kind_together : (k : Kind) (ceiling : ℕ) → sound b ≡ true → book_judged k s ceiling b ≡ Ok i → Together (line_after k s b i) (date_after k s b i)
  unfolding book_judged line_after date_after new_line with_arrivals with_report Said
  kind_together Order ceiling h e = record { dated = sym blank_date_law; said = (refl, refl) }
  kind_together Goods ceiling h e =
      let t = line_together b (line_key Goods s) i h (delivery_fits b i (line_key Goods s) (copies_in Goods s) (find_slip b (slip_key s)) e).1.0 in
      record { dated = t.dated; said = t.said }
  kind_together Closing ceiling h e = let z : ◌≡◌ {A = ℕ} 0 1 = cc in absurd (omega arith)
  kind_together Report ceiling h e = record { dated = refl; said = said_in_law s }

-- so for a record that is accepted
pub own_found : (s : Met) (b : Lent) (a : Accepts s b) → line_with (keyIn (fit_of s)) (enter (told b) (fit_of s)).lines ≡ some (told_after s.given s.roster b a.place a.kind)
unfolding fit_of fit_kind
own_found s b a =
    let j = fit_passed a.kind s.given s.roster b a.place a.fits in
    rw a.known (kind_found s.given s.roster b a.place a.kind j.ceiling j.judged_fit)

-- where booking answers 0, the call by key says the same of the record's own key
pub booked_tells : BookedTells
booked_tells s b two e =
    let a = accepted s b e in
    let f = follows s b (record { is_sound = a.is_sound; counts = two }) a in
    let t = keyed s (bookable s b a) in
    let j = fit_passed a.kind s.given s.roster b a.place a.fits in
    asked_tells (key_fields_in s) (book_call s b).lent
    ∙ rw (f.kept.is_sound, t.wide, t.key_is_law, f.tells) (ap says_of (own_found s b a) ∙ sym (ap told_in a.said ∙ done_told _ _ _ _ (kind_together s.given s.roster b a.place a.kind j.ceiling a.is_sound j.judged_fit)))
