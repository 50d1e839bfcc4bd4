-- `cells::same_by` meets its contract: lists that differ in eight bytes are not the same, and the last eight decide where all before them is.
use mathlib.Core.Path.{sym}
use Prim.Native.Nat.{◌+◌, ◌-◌}
use native.Mathlib.Omega.{arith}
use lib.ListN.{length}
use Rattle.cells.proofs.Bools.{is_not, is_so}
use Rattle.cells.proofs.Lists.{same_lengths, other_part, same_ends}
use Rattle.cells.proofs.same_by.Goals as goal

pub returns-then-a-b : goal.returns-then-a-b
returns-then-a-b c = sym (same_lengths _ _ c.if-a-b.true)

pub returns-then-not-eight_agree : goal.returns-then-not-eight_agree
returns-then-not-eight_agree c =
    let place = c.args.place in
    sym (other_part _ _ place (place + 8) (is_not c.eight_agree.ensures c.if-not-eight_agree.true))

pub returns : goal.returns
returns c =
    let args = c.args in
    let last = length args.a.now - 8 in
    rw (c.same-2.ensures, c.eight_agree-2.ensures)
    (same_ends args.a.now args.b.now args.place 8 (last + 8) last (omega arith) (omega arith) (omega arith) (is_so c.eight_agree.ensures c.if-not-eight_agree.false))
