-- `unpacking::read_parts` meets its contract: a record refused, no bundle, or what its loops say.
use mathlib.Core.Path.{sym}
use native.Mathlib.Omega.{arith}
use lib.ListN.{replicate}
use Rattle.cells.proofs.Bools.{is_not, is_so}
use Rattle.std.specs.Prelude.{ℕ, List}
use Rattle.reader.proofs.Fitting.{fits_count}
use Rattle.unpacking.proofs.Bundles.{no_bundle, bundle_parts, not_read, record_holds, fields_named, fields_inside}
use Rattle.unpacking.proofs.read_parts.Goals as goal

-- the table that is lent to the check
abbrev lent : List ℕ
lent = replicate 288 0

pub returns-then-checked-ne0 : goal.returns-then-checked-ne0
returns-then-checked-ne0 c =
    sym (not_read c.args.s.now lent (omega arith) c.check-checked.result c.check-checked.new.table c.check-checked.ensures c.args.room.now c.if-room.false c.if-checked-ne0.true)

pub returns-then-not-is_bundle : goal.returns-then-not-is_bundle
returns-then-not-is_bundle c =
    let holds = record_holds c.args.s.now lent (omega arith) c.check-checked.result c.check-checked.new.table c.check-checked.ensures c.if-checked-ne0.false in
    rw c.from-then-not-is_bundle.ensures (sym (no_bundle c.args.s.now c.args.room.now c.if-room.false _ holds (is_not c.is_bundle.ensures c.if-not-is_bundle.true)))

pub invariant_of-fields : goal.invariant_of-fields
invariant_of-fields c =
    let holds = record_holds c.args.s.now lent (omega arith) c.check-checked.result c.check-checked.new.table c.check-checked.ensures c.if-checked-ne0.false in
    let few = fits_count c.args.s.now c.check-checked.result.fields holds in
    record {
      few = few;
      listed = omega (arith, few, c.check-checked.auto.table);
      inside = fields_inside c.args.s.now lent (omega arith) c.check-checked.result c.check-checked.new.table c.check-checked.ensures c.if-checked-ne0.false;
    }

pub returns : goal.returns
returns c =
    let holds = record_holds c.args.s.now lent (omega arith) c.check-checked.result c.check-checked.new.table c.check-checked.ensures c.if-checked-ne0.false in
    let named = fields_named c.args.s.now lent (omega arith) c.check-checked.result c.check-checked.new.table c.check-checked.ensures c.if-checked-ne0.false in
    rw (c.into.ensures, c.take_parts.ensures.1, c.take_parts.ensures.0)
    (sym (bundle_parts c.args.s.now c.args.room.now c.if-room.false _ holds (is_so c.is_bundle.ensures c.if-not-is_bundle.false) _ named))
