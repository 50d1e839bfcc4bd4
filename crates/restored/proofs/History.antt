-- An orderly book starts from the history that its entries state: what booking promises, from there on.
use mathlib.Core.Path.{◌≡◌, ◌∙◌, subst, refl}
use mathlib.Core.List.{List, ◌++◌, map, append-nil}
use native.Mathlib.Omega.{arith}
use Rattle.ledger.specs.Book.{Rooms}
use Rattle.ledger.specs.Booking.{Fit, most_arrived}
use Rattle.ledger.specs.Demand3.{Promise3}
use Rattle.ledger.proofs.Gives.{Gives}
use Rattle.ledger.proofs.Demand3.{promise3}
use Rattle.entry.specs.Stored.{key_at, slip_key_at, slip_line_at}
use Rattle.entry.proofs.Sound.{sound_bounded}
use Rattle.book.specs.Lent.{Lent, used_lines, used_slips, line_room, slip_room}
use Rattle.book.proofs.Sounds.{sound_so}
use Rattle.balance.specs.Told.{line_told, slip_told, told, rooms_of, fit_of}
use Rattle.balance.specs.Demand3.{give_all}
use Rattle.balance.proofs.Found.{same_turned}
use Rattle.balance.proofs.Given.{Booked, all_given}
use Rattle.save.specs.Load.{load}
use Rattle.restored.specs.Restored.{Tells}
use Rattle.restored.specs.History.{history_of, resumed, state_after, Resumes, ResumesLoaded}
use Rattle.restored.proofs.Restored.{loaded_so}
use Rattle.restored.proofs.Ordered.{booked_on, Ordered}
use Rattle.restored.proofs.Opened.{ordered}
use Rattle.restored.proofs.Stated.{Stated, history_gives}

-- the entries that an orderly book tells
entries_told : (b : Lent) → Ordered b → Stated (rooms_of b) (used_lines b) (used_slips b) (line_told b.lines) (slip_told b.lines b.slips) (slip_line_at b.slips)
unfolding rooms_of line_told slip_told booked_on most_arrived
entries_told b o =
    let say = sound_so b o.kept.is_sound in
    record {
      lines_fit = say.lines_fit;
      few = omega (arith, say.lines_fit, say.lines_most);
      small = λ i h. (sound_bounded b.lines i (say.line_sound_law i h)).most;
      slips_fit = say.slips_fit;
      line_new = λ e i g h. same_turned (key_at b.lines i) (key_at b.lines e) ∙ o.line_new e i g h;
      slip_new = λ e j g h. same_turned (slip_key_at b.slips j) (slip_key_at b.slips e) ∙ o.slip_new e j g h;
      used = say.slip_names;
      names = λ j h. refl;
      sums = o.sums;
      most = λ i h. (sound_bounded b.lines i (say.line_sound_law i h)).sum;
    }

-- the history that they state gives what the book tells
told_gives : (b : Lent) → Ordered b → Gives (rooms_of b) (history_of (told b)) (told b)
unfolding told
told_gives b o =
    history_gives (rooms_of b) (used_lines b) (used_slips b) (line_told b.lines) (slip_told b.lines b.slips) (slip_line_at b.slips) (entries_told b o)

-- what booking promises, from there on
pub resumes : Resumes
resumes b records o two =
    let rooms : Rooms = rooms_of b in
    let earlier : List Fit = history_of (told b) in
    let kept : Ordered b = ordered b o two in
    let start : Booked rooms earlier (resumed b) = record { kept = kept.kept; lent = refl; tells = rw (append-nil earlier) (told_gives b kept) } in
    subst (Promise3 rooms) (all_given rooms earlier records (resumed b) start).tells
    (promise3 rooms (earlier ++ map fit_of (give_all (resumed b) records).accepted))

-- so after a load, in the rooms lent to it
pub resumes_loaded : ResumesLoaded
resumes_loaded s b records two done =
    let c : Lent = (load s b).lent in
    let t : Tells s b c = loaded_so s b two done in
    let rooms : rooms_of c ≡ rooms_of b = unfold rooms_of line_room slip_room in rw (t.line_length, t.slip_length) in
    subst (λ (r : Rooms). Promise3 r (state_after c records)) rooms (resumes c records t.orderly t.used_length)
