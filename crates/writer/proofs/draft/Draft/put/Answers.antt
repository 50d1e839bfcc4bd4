-- `writer::draft::Draft::put` meets its contract: a record that is judged to fit is known to be all that putting it asks.
use mathlib.Core.Path.{◌≡◌}
use native.Mathlib.Omega.{arith}
use Rattle.std.specs.Prelude.{Ok}
use Rattle.writing.specs.Write.{write_judged, output_after}
use Rattle.writing.proofs.Fitting.{fitting, fits_inside, fits_width, fits_stored}
use Rattle.writer.proofs.draft.Draft.put.Goals as goal

pub invariant_of-fields : goal.invariant_of-fields
invariant_of-fields c =
    let a = c.args.self in
    let j : write_judged a.fixed.now a.table.now a.count a.contents.now c.args.out.now ≡ Ok c.in_ok-length.length = grind arith in
    let f = (fitting _ _ _ _ _ _ j).1 in
    record { few = f.few; listed = f.listed; inside = fits_inside _ _ _ _ _ _ j }

pub put_record-requires : goal.put_record-requires
put_record-requires c =
    let a = c.args.self in
    let j : write_judged a.fixed.now a.table.now a.count a.contents.now c.args.out.now ≡ Ok c.in_ok-length.length = grind arith in
    let room = (fitting _ _ _ _ _ _ j).1.room in
    omega (arith, fits_width _ _ _ _ _ _ j)

pub returns-clause-put : goal.returns-clause-put
unfolding output_after
returns-clause-put c =
    let a = c.args.self in
    let j : write_judged a.fixed.now a.table.now a.count a.contents.now c.args.out.now ≡ Ok c.in_ok-length.length = grind arith in
    rw c.put_record.ensures (fits_stored _ _ _ _ _ _ j)
