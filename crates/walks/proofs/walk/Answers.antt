-- `walks::walk` meets its contract: a content without a star ends with the record.
use Rattle.std.proofs.Common.{sym, ◌∙◌, arith}
use Rattle.walks.proofs.Heads.{head_wide}
use Rattle.walks.proofs.Walked.{walked}
use Rattle.walks.proofs.walk.Goals as goal

pub returns-after-content : goal.returns-after-content
returns-after-content c =
    let wide = head_wide c.args.s.now c.fields.at c.in-Some.id (sym c.head_at.ensures ∙ c.in-Some.is) in
    grind (arith, walked)
