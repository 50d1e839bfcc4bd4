-- `reader::judge_kind` meets its contract: as many fields as were walked may be judged.
use Rattle.std.proofs.Common.{sym, ◌∙◌, arith}
use Rattle.walks.proofs.Walked.{walk_count}
use Rattle.reader.proofs.judge_kind.Goals as goal

pub judge-requires : goal.judge-requires
judge-requires c =
    let few = walk_count _ 0 _ _ _ (sym c.walk.ensures ∙ c.in_ok-n.was) in
    (omega arith, omega arith)
