-- What the call by key answers, and the article of a line, follow from the key's own accepted records.
use mathlib.Core.Path.{◌≡◌, ◌∙◌, ap, sym, refl}
use mathlib.Core.Bool.{Bool, true, false}
use mathlib.Core.Option.{Option, none, some}
use mathlib.Core.List.{List, [], ◌∷◌, map}
use Prim.Native.Nat.{ℕ}
use native.Mathlib.Omega.{arith}
use Rattle.cells.specs.Bytes.{pick, same, joined}
use Rattle.cells.proofs.Bools.{split}
use Rattle.rules.specs.Values.{expected_of}
use Rattle.rules.specs.declared.expected.Expected.{Expected}
use Rattle.rules.specs.declared.expected.Expected.TheVariants.{Blanks}
use Rattle.record.specs.Layout.{kind_of}
use Rattle.record.specs.declared.layout.Kind.{Kind}
use Rattle.record.specs.declared.layout.Kind.TheVariants.{Order, Goods, Closing, Report}
use Rattle.std.specs.Prelude.{Some}
use Rattle.entry.specs.Report.{blank_date}
use Rattle.entry.specs.declared.report.Message.{Message}
use Rattle.entry.specs.declared.report.Message.TheVariants.{NoReport}
use Rattle.entry.proofs.Kept.{blank_date_law}
use Rattle.entry.proofs.Sound.{Said}
use Rattle.entry.specs.declared.line.Mark.{Mark}
use Rattle.entry.specs.declared.line.Mark.TheVariants.{Unmarked}
use Rattle.ledger.specs.Lists.{keep, total, given}
use Rattle.ledger.specs.Book.{Key, Report as Telling, Line, Rooms}
use Rattle.ledger.specs.Booking.{Fit, line_at as line_with}
use Rattle.ledger.specs.History.{key_of as keyIn, lines_of, records_of as fits_of, on_slip, last_report, line_from as lineGiven}
use Rattle.ledger.proofs.Lists.{Each, total_map}
use Rattle.ledger.proofs.Members.{total_keep, foremost, first_foremost, each_kept, keep_each, total_each, keep_mapped, keep_nothing}
use Rattle.ledger.proofs.Gives.{Gives}
use Rattle.ledger.proofs.Lines.{every_line}
use Rattle.book.specs.Booking.{article_in, copies_in, mark_in, message_in, date_in, nothing_to_book}
use Rattle.book.specs.Asked.{key_widths, are_wide, line_asked}
use Rattle.balance.specs.Met.{Met}
use Rattle.balance.specs.Told.{report_of, told, fit_as, fit_kind, fit_of}
use Rattle.balance.specs.Demand3.{is_order, is_delivery, is_report, copies_on, key_fields_in, same_fields, records_with, last_said, line_made, line_from, Given}
use Rattle.balance.specs.Joined.{says_of}
use Rattle.balance.specs.Agreed.{article_on, article_from}
use Rattle.balance.proofs.Soundness.{Kept}
use Rattle.balance.proofs.Entered.{line_of}
use Rattle.balance.proofs.Followed.{report_mark}
use Rattle.balance.proofs.Bookable.{Bookable, booked_as_law, key_in}
use Rattle.balance.proofs.Figures.{Together, done_told, asked_tells, said_in_law}

-- the copies on some records that are booked as deliveries
pub slips_total : (ss : List Met) → Each Bookable ss → total on_slip (map fit_of ss) ≡ total copies_on (keep is_delivery ss)
slips_total ss h =
    total_map on_slip fit_of ss
    ∙ total_each Bookable (λ s. on_slip (fit_of s)) (λ s. pick (is_delivery s) (copies_on s) 0) (λ s b. (booked_as_law s b).on_slip_law) ss h
    ∙ sym (total_keep copies_on is_delivery ss)

-- what the last of some reports says, or what was said before, as a last report
abbrev last_of : Mark → Message → List ℕ → List Met → Option Telling
last_of m n d rs = report_of (last_said mark_in m rs) (last_said message_in n rs) (last_said date_in d rs)

-- the last report among some records
last_report_law : (ss : List Met) → Each Bookable ss → (m : Mark) (n : Message) (d : List ℕ) → last_report (report_of m n d) (map fit_of ss) ≡ last_of m n d (keep is_report ss)
unfolding last_report last_said keep fit_of fit_kind fit_as is_report nothing_to_book
last_report_law [] h m n d = refl
last_report_law (s ∷ ss) h m n d = go h.0.kind h.0.known h.0.something (λ a b c. last_report_law ss h.1 a b c)
  where
    go : (k : Kind) → kind_of s.given ≡ Some k → nothing_to_book k s.given ≡ false
        → ((a : Mark) (b : Message) (c : List ℕ) → last_report (report_of a b c) (map fit_of ss) ≡ last_of a b c (keep is_report ss))
        → last_report (report_of m n d) (fit_of s ∷ map fit_of ss) ≡ last_of m n d (pick (is_report s) (s ∷ keep is_report ss) (keep is_report ss))
    go Order e t rest = rw e (rest m n d)
    go Goods e t rest = rw e (rest m n d)
    go Closing e t rest = absurd (let z : ◌≡◌ {A = ℕ} 0 1 = cc in omega arith)
    go Report e t rest =
        rw e (ap (λ (r : Option Telling). last_report r (map fit_of ss)) (sym (report_mark s.given)) ∙ rest (mark_in s.given) (message_in s.given) (date_in s.given))

-- what the last of some reports says goes together
last_dated : (rs : List Met) (e : Expected) (d : List ℕ) → e ≡ expected_of d → last_said (λ s. expected_of (date_in s)) e rs ≡ expected_of (last_said date_in d rs)
unfolding last_said
last_dated [] e d h = h
last_dated (r ∷ rs) e d h = last_dated rs (expected_of (date_in r.given)) (date_in r.given) refl

last_goes : (rs : List Met) (m : Mark) (n : Message) (d : List ℕ) → Said m n d → Said (last_said mark_in m rs) (last_said message_in n rs) (last_said date_in d rs)
unfolding last_said
last_goes [] m n d h = h
last_goes (r ∷ rs) m n d h = last_goes rs (mark_in r.given) (message_in r.given) (date_in r.given) (said_in_law r.given)

made_together : (ordered arrived : ℕ) (rs : List Met) → Together (line_made ordered arrived rs) (last_said date_in blank_date rs)
unfolding line_made Said
made_together ordered arrived rs =
    record { dated = last_dated rs Blanks blank_date (sym blank_date_law); said = last_goes rs Unmarked NoReport blank_date (refl, refl) }

-- the line that an order begins, with the records after it
abbrev begun : Key → Met → List Met → Line
begun key s ss =
    line_of key (article_on s) (last_said date_in blank_date (keep is_report ss)) (line_made (copies_on s) (total copies_on (keep is_delivery ss)) (keep is_report ss))

-- it is the line that the order begins on lists
order_begins : (key : Key) (s : Met) (ss : List Met) → Each Bookable ss
    → record { key = key; asked = record { copies = copies_on s; article = article_on s }; arrived = total on_slip (map fit_of ss); last = last_report none (map fit_of ss) } ≡ begun key s ss
unfolding line_of line_made
order_begins key s ss h =
    let last : last_report none (map fit_of ss) ≡ last_of Unmarked NoReport blank_date (keep is_report ss) = unfold report_of in last_report_law ss h Unmarked NoReport blank_date in
    rw (slips_total ss h, last) refl

-- the line that the first order among some records begins
unfoldable pub first_begun : Key → List Met → Option Line
first_begun key [] = none
first_begun key (s ∷ ss) = pick (is_order s) (some (begun key s ss)) (first_begun key ss)

-- a key's own records make this line
own_begun : (key : Key) (ss : List Met) → Each Bookable ss → foremost (lineGiven key (map fit_of ss)) ≡ first_begun key ss
unfolding lineGiven first_begun fit_of fit_kind fit_as is_order nothing_to_book
own_begun key [] h = refl
own_begun key (s ∷ ss) h = go h.0.kind h.0.known h.0.something (own_begun key ss h.1)
  where
    go : (k : Kind) → kind_of s.given ≡ Some k → nothing_to_book k s.given ≡ false → foremost (lineGiven key (map fit_of ss)) ≡ first_begun key ss
        → foremost (lineGiven key (fit_of s ∷ map fit_of ss)) ≡ first_begun key (s ∷ ss)
    go Order e n rest =
        let c : copies_on s ≡ (copies_in Order s.given).0 = unfold copies_on in rw e refl in
        let a : article_on s ≡ article_in Order s.given = unfold article_on in rw e refl in
        rw (e, ← c, ← a) (ap (λ (l : Line). some l) (order_begins key s ss h.1))
    go Goods e n rest = rw e rest
    go Closing e n rest = absurd (let z : ◌≡◌ {A = ℕ} 0 1 = cc in omega arith)
    go Report e n rest = rw e rest

-- what the call by key says of it, and its article
begun_says : (key : Key) (ss : List Met) → says_of (first_begun key ss) ≡ line_from ss
unfolding first_begun line_from
begun_says key [] = unfold says_of in refl
begun_says key (s ∷ ss) = let rest = begun_says key ss in split (is_order s) (λ e. rw e (sym (done_told key (article_on s) _ _ (made_together (copies_on s) (total copies_on (keep is_delivery ss)) (keep is_report ss))))) (λ e. rw e rest)

begun_article : (key : Key) (ss : List Met) → given [] (λ (l : Line). l.asked.article) (first_begun key ss) ≡ article_from ss
unfolding first_begun article_from given line_of
begun_article key [] = refl
begun_article key (s ∷ ss) = let rest = begun_article key ss in split (is_order s) (λ e. rw e refl) (λ e. rw e rest)

-- of a sound lent book whose told book these accepted records give
module _ (rooms : Rooms) (g : Given) (kept : Kept g.book) (gives : Gives rooms (map fit_of g.accepted) (told g.book)) (all : Each Bookable g.accepted) where
  abbrev fits : List Fit
  fits = map fit_of g.accepted

  -- the first line with a key is what the key's own records make
  line_given : (key : Key) → line_with key (told g.book).lines ≡ foremost (lineGiven key (fits_of (same key) fits))
  unfolding line_with lines_of
  line_given key =
      first_foremost (λ (l : Line). same key l.key) (told g.book).lines
      ∙ ap (foremost {A = Line}) (rw gives at (every_line rooms fits key))

  -- so of the records that have the fields of a key
  begun_with : (fields : List (List ℕ)) → are_wide key_widths fields ≡ true
      → line_with (joined fields) (told g.book).lines ≡ first_begun (joined fields) (records_with fields g.accepted)
  unfolding records_with fits_of
  begun_with fields w =
      let with : Met → Bool = λ s. same_fields fields (key_fields_in s) in
      let mine = keep_mapped Bookable fit_of (λ (r : Fit). same (joined fields) (keyIn r)) with (λ s b. sym (rw w at (key_in s b fields))) g.accepted all in
      line_given (joined fields) ∙ ap (λ (rs : List Fit). foremost (lineGiven (joined fields) rs)) mine ∙ own_begun (joined fields) (keep with g.accepted) (each_kept Bookable with g.accepted all)

  -- each key's answer follows from its own accepted records
  pub answers : (fields : List (List ℕ)) → line_asked fields g.book ≡ line_from (records_with fields g.accepted)
  unfolding records_with
  answers fields =
      let with : Met → Bool = λ s. same_fields fields (key_fields_in s) in
      asked_tells fields g.book
      ∙ rw kept.is_sound
      (split (are_wide key_widths fields)
      (λ w. rw w (ap says_of (begun_with fields w) ∙ begun_says (joined fields) (records_with fields g.accepted)))
      (λ w.
      let none-mine = keep_each Bookable with (λ s. false) (λ s b. rw w at (key_in s b fields)) g.accepted all ∙ keep_nothing g.accepted in
      rw (w, none-mine) (unfold line_from in refl)))

  -- and so does the article of its line
  pub articles : (fields : List (List ℕ)) → are_wide key_widths fields ≡ true
      → given [] (λ (l : Line). l.asked.article) (line_with (joined fields) (told g.book).lines) ≡ article_from (records_with fields g.accepted)
  articles fields w = ap (given [] (λ (l : Line). l.asked.article)) (begun_with fields w) ∙ begun_article (joined fields) (records_with fields g.accepted)
