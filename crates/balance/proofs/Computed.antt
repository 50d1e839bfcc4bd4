-- What the promises read out of records, computed on the samples of RULES 12: kinds, key fields, copies, schools, and the line that a key's own records make.
use mathlib.Core.Path.{◌≡◌, refl}
use mathlib.Core.Bool.{true, false}
use mathlib.Core.List.{List, [], ◌∷◌}
use Prim.Native.Nat.{ℕ}
use Rattle.cells.specs.Bytes.{bytes, same, all}
use Rattle.signs.specs.Class.{belongs, all_of, of_class}
use Rattle.rules.specs.Number.{number_from}
use Rattle.record.specs.Layout.{layout, total as width_of, start_of, kind_of}
use Rattle.record.specs.Values.{field_bytes}
use Rattle.record.specs.Samples.{X, Y, Z, put}
use Rattle.rules.specs.Day.{leap, month_days, real_day, day_of, is_day, dated}
use Rattle.rules.specs.Values.{expected_of}
use Rattle.entry.specs.Report.{no_report, message_number, form_of, day_on, report_told}
use Rattle.entry.specs.Line.{open_of, let_go_of, filled_of, figures_of, reported_of}
use Rattle.ledger.specs.Lists.{keep, total}
use Rattle.book.specs.Booking.{key_fields, copies_in, mark_in, message_in, date_in, refused_number, refused_place, refused_as, done_as}
use Rattle.book.specs.Cases.{schools, printed}
use Rattle.book.specs.Reports.{report_on}
use Rattle.balance.specs.Met.{Met}
use Rattle.balance.specs.Demand3.{is_order, is_delivery, is_report, copies_on, key_fields_in, slip_fields_in, same_fields, of_school, records_of, records_with, last_said, line_made, line_from}

-- the school of the samples, and another with the same reference
abbrev ours : List (List ℕ)
ours = bytes "43210     " ∷ bytes "VD" ∷ []

abbrev theirs : List (List ℕ)
theirs = bytes "43211     " ∷ bytes "VD" ∷ []

-- the five fields of the key that X, Y and Z share
abbrev key : List (List ℕ)
key =
    bytes "43210     "
    ∷ bytes "VD"
    ∷ bytes "24000     "
    ∷ bytes "VD"
    ∷ bytes "A-17      "
    ∷ []

-- the samples, each with the roster of the cases
abbrev meets : List ℕ → Met
meets s = record { given = s; roster = schools }

abbrev x : Met
x = meets X

abbrev y : Met
y = meets Y

abbrev z : Met
z = meets Z

-- an order of the other school, and the samples that the desk accepts, with this order among them
abbrev another : Met
another = meets (put 4 "43211     " X)

abbrev accepted : List Met
accepted =
    x
    ∷ another
    ∷ y
    ∷ z
    ∷ meets (put 46 "0002" (put 75 "0003" Y))
    ∷ meets (put 63 "015J" Z)
    ∷ meets (put 46 "0003" (put 75 "0005" Y))
    ∷ []

pub record Computed : Type 0 where
  pub order_key : key_fields_in x ≡ key
  pub delivery_key : key_fields_in y ≡ key
  pub report_key : key_fields_in z ≡ key
  pub slip : slip_fields_in y
      ≡ bytes "24000     "
      ∷ bytes "VD"
      ∷ bytes "43210     "
      ∷ bytes "VD"
      ∷ bytes "20240226"
      ∷ bytes "70012345  "
      ∷ bytes "0001"
      ∷ []
  pub kinds : is_order x ∷ is_delivery x ∷ is_delivery y ∷ is_report y ∷ is_report z ∷ is_order z ∷ []
      ≡ true ∷ false ∷ true ∷ false ∷ true ∷ false ∷ []
  pub copies : copies_on x ∷ copies_on y ∷ copies_on z ∷ [] ≡ 10 ∷ 4 ∷ 0 ∷ []
  pub school : of_school ours (key_fields_in y) ∷ of_school theirs (key_fields_in y) ∷ of_school theirs (key_fields_in another) ∷ []
      ≡ true ∷ false ∷ true ∷ []
  pub theirs_alone : records_of theirs accepted ≡ another ∷ []
  -- the line of the samples' key: 10 ordered, 12 arrived, the last mark a J; without its order there is none
  pub line : printed (line_from (records_with key accepted)) ≡ 0 ∷ 10 ∷ 10 ∷ 0 ∷ 0 ∷ 2 ∷ 15 ∷ []
  pub let_go : printed (line_from (x ∷ y ∷ z ∷ [])) ≡ 0 ∷ 10 ∷ 4 ∷ 0 ∷ 6 ∷ 0 ∷ 10 ∷ []
  -- what its last report said: message, form and day of the expected date, and that none has come
  pub reported : report_on (line_from (x ∷ y ∷ z ∷ meets (put 67 "00000000" (put 63 "000J" Z)) ∷ [])).reported ≡ 0 ∷ 2 ∷ 0 ∷ 0 ∷ 0 ∷ []
  pub on_a_day : report_on (line_from (x ∷ z ∷ meets (put 67 "20240315" (put 63 "015J" Z)) ∷ y ∷ [])).reported ≡ 15 ∷ 1 ∷ 2024 ∷ 3 ∷ 15 ∷ []
  pub unreported : report_on (line_from (x ∷ y ∷ [])).reported ≡ no_report ∷ 3 ∷ 0 ∷ 0 ∷ 0 ∷ []
  pub no_line : printed (line_from (y ∷ z ∷ [])) ≡ 16 ∷ 0 ∷ 0 ∷ 0 ∷ 0 ∷ 0 ∷ 0 ∷ []

pub computed : Computed
unfolding same all belongs all_of of_class number_from layout width_of start_of kind_of field_bytes open_of let_go_of filled_of figures_of leap month_days real_day day_of is_day dated expected_of message_number form_of day_on report_told reported_of keep total key_fields copies_in mark_in message_in date_in refused_number refused_place refused_as done_as is_order is_delivery is_report copies_on key_fields_in slip_fields_in same_fields of_school records_of records_with last_said line_made line_from
computed = record {
  order_key = refl;
  delivery_key = refl;
  report_key = refl;
  slip = refl;
  kinds = refl;
  copies = refl;
  school = refl;
  theirs_alone = refl;
  line = refl;
  let_go = refl;
  reported = refl;
  on_a_day = refl;
  unreported = refl;
  no_line = refl;
}
