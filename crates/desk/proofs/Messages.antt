-- The ninth field of what is printed, computed: message 000 is a message; no report, an unknown message and a refusal are a hyphen.
use mathlib.Core.Path.{◌≡◌, refl}
use mathlib.Core.List.{[], ◌∷◌}
use Rattle.cells.specs.Bytes.{bytes}
use Rattle.entry.specs.Report.{no_report, message_unknown}
use Rattle.desk.specs.Printed.{is_message, message_digits, message_field}

printed : message_field 0 0
    ∷ message_field 0 15
    ∷ message_field 0 999
    ∷ message_field 0 no_report
    ∷ message_field 0 message_unknown
    ∷ message_field 17 0
    ∷ []
    ≡ bytes "000"
    ∷ bytes "015"
    ∷ bytes "999"
    ∷ bytes "-"
    ∷ bytes "-"
    ∷ bytes "-"
    ∷ []
unfolding message_field is_message message_digits
printed = refl
