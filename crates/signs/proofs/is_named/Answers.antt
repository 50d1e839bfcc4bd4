-- `signs::is_named` meets its contract: no bytes are all blank.
use mathlib.Core.Path.{◌≡◌, ◌∙◌, sym}
use mathlib.Core.List.{[]}
use native.Mathlib.Omega.{arith}
use lib.ListN.{length, drop_of_length-le}
use borrow.Author.Tests.{eqb-true}
use Rattle.cells.specs.Bytes.{all}
use Rattle.signs.specs.Class.{named, all_of}
use Rattle.signs.proofs.is_named.Goals as goal

pub returns-then-is_empty : goal.returns-then-is_empty
unfolding named all_of all
returns-then-is_empty c =
    let n : length c.args.s.now ≡ 0 = eqb-true _ _ (sym c.is_empty.ensures ∙ c.if-is_empty.true) in
    let e : c.args.s.now ≡ [] = drop_of_length-le _ {i = 0} (omega arith) in
    rw e
