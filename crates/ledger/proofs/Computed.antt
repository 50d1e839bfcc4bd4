-- The cases of the booking rule, by computation.
use mathlib.Core.Path.{◌≡◌, refl}
use mathlib.Core.Bool.{true, false}
use mathlib.Core.List.{[], ◌∷◌}
use Rattle.cells.specs.Bytes.{same, bytes}
use Rattle.ledger.specs.Lists.{keep, total, first, change, given, found}
use Rattle.ledger.specs.Book.{J, N, school_of, of_school, ordered, filled, extra, is_n, let_go, still_open}
use Rattle.ledger.specs.Booking.{line_at, slip_at, first_of, most_arrived, is_same, open_of, tests, judge, arrive, tell, change_line, enter}
use Rattle.ledger.specs.History.{empty, settle, key_of}
use Rattle.ledger.specs.Cases.{key, ours, second, theirs, ordering, ordering_under, arriving, telling, desk, wide, narrow}

pub record Computed : Type 0 where
  -- the eight records of RULES 12: deliveries after an N still fill
  pub sample : desk wide empty
      (ordering ours 10
      ∷ arriving ours "0001" 4
      ∷ arriving ours "0001" 4
      ∷ telling ours N
      ∷ arriving ours "0002" 3
      ∷ telling ours J
      ∷ arriving ours "0003" 5
      ∷ arriving ours "0001" 5
      ∷ [])
      ≡ (0 ∷ 10 ∷ 0 ∷ 10 ∷ 0 ∷ 0 ∷ [])
      ∷ (0 ∷ 10 ∷ 4 ∷ 6 ∷ 0 ∷ 0 ∷ [])
      ∷ (17 ∷ 0 ∷ 0 ∷ 0 ∷ 0 ∷ 0 ∷ [])
      ∷ (0 ∷ 10 ∷ 4 ∷ 0 ∷ 6 ∷ 0 ∷ [])
      ∷ (0 ∷ 10 ∷ 7 ∷ 0 ∷ 3 ∷ 0 ∷ [])
      ∷ (0 ∷ 10 ∷ 7 ∷ 3 ∷ 0 ∷ 0 ∷ [])
      ∷ (0 ∷ 10 ∷ 10 ∷ 0 ∷ 0 ∷ 2 ∷ [])
      ∷ (18 ∷ 0 ∷ 0 ∷ 0 ∷ 0 ∷ 0 ∷ [])
      ∷ []
  -- two schools with one reference are two lines; a slip booked for one is 18 for the other; an order twice is 14
  pub schools : desk wide empty
      (ordering ours 2 ∷ ordering theirs 3 ∷ ordering ours 2 ∷ arriving theirs "0001" 1 ∷ arriving ours "0001" 1 ∷ telling theirs N ∷ arriving ours "0002" 2 ∷ [])
      ≡ (0 ∷ 2 ∷ 0 ∷ 2 ∷ 0 ∷ 0 ∷ [])
      ∷ (0 ∷ 3 ∷ 0 ∷ 3 ∷ 0 ∷ 0 ∷ [])
      ∷ (14 ∷ 0 ∷ 0 ∷ 0 ∷ 0 ∷ 0 ∷ [])
      ∷ (0 ∷ 3 ∷ 1 ∷ 2 ∷ 0 ∷ 0 ∷ [])
      ∷ (18 ∷ 0 ∷ 0 ∷ 0 ∷ 0 ∷ 0 ∷ [])
      ∷ (0 ∷ 3 ∷ 1 ∷ 0 ∷ 2 ∷ 0 ∷ [])
      ∷ (0 ∷ 2 ∷ 2 ∷ 0 ∷ 0 ∷ 0 ∷ [])
      ∷ []
  -- no line 16, all lines used 15, all slips used 19; a booked slip is 17 even where all slips are used
  pub rooms : desk narrow empty
      (arriving ours "0001" 1 ∷ telling ours J ∷ ordering ours 2 ∷ ordering theirs 2 ∷ arriving ours "0001" 1 ∷ arriving ours "0002" 1 ∷ arriving ours "0001" 1 ∷ [])
      ≡ (16 ∷ 0 ∷ 0 ∷ 0 ∷ 0 ∷ 0 ∷ [])
      ∷ (16 ∷ 0 ∷ 0 ∷ 0 ∷ 0 ∷ 0 ∷ [])
      ∷ (0 ∷ 2 ∷ 0 ∷ 2 ∷ 0 ∷ 0 ∷ [])
      ∷ (15 ∷ 0 ∷ 0 ∷ 0 ∷ 0 ∷ 0 ∷ [])
      ∷ (0 ∷ 2 ∷ 1 ∷ 1 ∷ 0 ∷ 0 ∷ [])
      ∷ (19 ∷ 0 ∷ 0 ∷ 0 ∷ 0 ∷ 0 ∷ [])
      ∷ (17 ∷ 0 ∷ 0 ∷ 0 ∷ 0 ∷ 0 ∷ [])
      ∷ []
  -- A may reach 9,999,999 and not pass it
  pub limit : desk wide empty (ordering ours 9 ∷ arriving ours "0001" 9999998 ∷ arriving ours "0002" 2 ∷ arriving ours "0003" 1 ∷ arriving ours "0004" 1 ∷ [])
      ≡ (0 ∷ 9 ∷ 0 ∷ 9 ∷ 0 ∷ 0 ∷ [])
      ∷ (0 ∷ 9 ∷ 9 ∷ 0 ∷ 0 ∷ 9999989 ∷ [])
      ∷ (21 ∷ 0 ∷ 0 ∷ 0 ∷ 0 ∷ 0 ∷ [])
      ∷ (0 ∷ 9 ∷ 9 ∷ 0 ∷ 0 ∷ 9999990 ∷ [])
      ∷ (21 ∷ 0 ∷ 0 ∷ 0 ∷ 0 ∷ 0 ∷ [])
      ∷ []
  -- the room for lines is not that for slips: all slips used 19, and yet a line is free
  pub two_rooms : desk (record { for_lines = 2; for_slips = 1 }) empty
      (ordering ours 2 ∷ arriving ours "0001" 1 ∷ arriving ours "0002" 1 ∷ ordering theirs 2 ∷ [])
      ≡ (0 ∷ 2 ∷ 0 ∷ 2 ∷ 0 ∷ 0 ∷ [])
      ∷ (0 ∷ 2 ∷ 1 ∷ 1 ∷ 0 ∷ 0 ∷ [])
      ∷ (19 ∷ 0 ∷ 0 ∷ 0 ∷ 0 ∷ 0 ∷ [])
      ∷ (0 ∷ 2 ∷ 0 ∷ 2 ∷ 0 ∷ 0 ∷ [])
      ∷ []
  -- where two refusals hold the first counts, with all lines and slips used: 14 before 15; 18 before 16, 21 and 19; 16 before 21 and 19; 21 before 19
  pub first_counts : desk narrow empty
      (ordering ours 2
      ∷ ordering ours 2
      ∷ arriving ours "0001" 1
      ∷ arriving theirs "0001" 1
      ∷ arriving ours "0001" 9999999
      ∷ arriving theirs "0002" 10000000
      ∷ arriving ours "0002" 9999999
      ∷ [])
      ≡ (0 ∷ 2 ∷ 0 ∷ 2 ∷ 0 ∷ 0 ∷ [])
      ∷ (14 ∷ 0 ∷ 0 ∷ 0 ∷ 0 ∷ 0 ∷ [])
      ∷ (0 ∷ 2 ∷ 1 ∷ 1 ∷ 0 ∷ 0 ∷ [])
      ∷ (18 ∷ 0 ∷ 0 ∷ 0 ∷ 0 ∷ 0 ∷ [])
      ∷ (18 ∷ 0 ∷ 0 ∷ 0 ∷ 0 ∷ 0 ∷ [])
      ∷ (16 ∷ 0 ∷ 0 ∷ 0 ∷ 0 ∷ 0 ∷ [])
      ∷ (21 ∷ 0 ∷ 0 ∷ 0 ∷ 0 ∷ 0 ∷ [])
      ∷ []
  -- 25: at the ceiling and one above it; 14 before it, and it before 15; what an N let go is not counted, a J that opens it again past the ceiling stands, and then nothing more is ordered; another school's copies are not counted
  pub ceiling : desk (record { for_lines = 2; for_slips = 1 }) empty
      (ordering_under 10 ours 11
      ∷ ordering_under 10 ours 10
      ∷ ordering_under 9 ours 1
      ∷ ordering_under 10 second 1
      ∷ telling ours N
      ∷ ordering_under 10 second 10
      ∷ telling ours J
      ∷ ordering_under 20 (key "43210     VD" "24000     VDA-19      9783442756841EN") 1
      ∷ ordering_under 10 theirs 10
      ∷ [])
      ≡ (25 ∷ 0 ∷ 0 ∷ 0 ∷ 0 ∷ 0 ∷ [])
      ∷ (0 ∷ 10 ∷ 0 ∷ 10 ∷ 0 ∷ 0 ∷ [])
      ∷ (14 ∷ 0 ∷ 0 ∷ 0 ∷ 0 ∷ 0 ∷ [])
      ∷ (25 ∷ 0 ∷ 0 ∷ 0 ∷ 0 ∷ 0 ∷ [])
      ∷ (0 ∷ 10 ∷ 0 ∷ 0 ∷ 10 ∷ 0 ∷ [])
      ∷ (0 ∷ 10 ∷ 0 ∷ 10 ∷ 0 ∷ 0 ∷ [])
      ∷ (0 ∷ 10 ∷ 0 ∷ 10 ∷ 0 ∷ 0 ∷ [])
      ∷ (25 ∷ 0 ∷ 0 ∷ 0 ∷ 0 ∷ 0 ∷ [])
      ∷ (15 ∷ 0 ∷ 0 ∷ 0 ∷ 0 ∷ 0 ∷ [])
      ∷ []
  -- copies that arrived are not open, and extra copies give nothing back
  pub ceiling_filled : desk wide empty
      (ordering_under 10 ours 10 ∷ arriving ours "0001" 12 ∷ ordering_under 10 second 11 ∷ ordering_under 10 second 10 ∷ [])
      ≡ (0 ∷ 10 ∷ 0 ∷ 10 ∷ 0 ∷ 0 ∷ [])
      ∷ (0 ∷ 10 ∷ 10 ∷ 0 ∷ 0 ∷ 2 ∷ [])
      ∷ (25 ∷ 0 ∷ 0 ∷ 0 ∷ 0 ∷ 0 ∷ [])
      ∷ (0 ∷ 10 ∷ 0 ∷ 10 ∷ 0 ∷ 0 ∷ [])
      ∷ []
  -- a line is of the school that heads its key, address and qualifier, and of no other
  pub own_school : of_school (bytes "43210     VD") ours ≡ true
  pub other_school : of_school (bytes "43210     VD") theirs ≡ false

pub computed : Computed
unfolding same school_of of_school open_of keep total first change given found ordered filled extra is_n let_go still_open line_at slip_at first_of most_arrived is_same tests judge arrive tell change_line enter settle key_of desk
computed = record { sample = refl; schools = refl; rooms = refl; limit = refl; two_rooms = refl; first_counts = refl; ceiling = refl; ceiling_filled = refl; own_school = refl; other_school = refl }
