-- What a body of the old form says, stored part by part.
use mathlib.Core.Path.{◌≡◌, refl}
use mathlib.Core.List.{List}
use Prim.Native.Nat.{ℕ, suc, ◌+◌}
use native.Mathlib.Omega.{arith}
use lib.ListN.{length, get_or, length-set}
use lib.Seq.{sets, length-take-le}
use Rattle.cells.specs.Little.{le_bytes}
use Rattle.cells.proofs.Stores.{sets_append}
use Rattle.entry.specs.Report.{blank_date}
use Rattle.entry.specs.Stored.{mark_at, message_at}
use Rattle.save.specs.Form.{unsaved_message, unsaved, front_of}
use Rattle.save.specs.declared.form.Form.TheVariants.{Old}

-- message and blanks, stored one after the other
pub unsaved_stored : (d : List ℕ) (at mark : ℕ) → sets (sets d at (le_bytes 2 (unsaved_message mark))) (at + 2) blank_date ≡ sets d at (unsaved mark)
unfolding unsaved le_bytes
unsaved_stored d at mark =
    let e : at + 2 ≡ suc (suc at) = omega arith in
    rw e refl

-- a body of the old form and what was not saved behind it
pub old_stored : (d : List ℕ) (at : ℕ) (body : List ℕ) → length body ≡ message_at
    → sets (sets d at body) (at + message_at) (unsaved (get_or body mark_at 0)) ≡ sets d at (front_of Old body)
unfolding front_of
old_stored d at body e = rw (sets_append d at body (unsaved (get_or body mark_at 0)), e)

pub ruleset put_long = (length-set, length-take-le)
