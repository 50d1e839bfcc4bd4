-- `record::contents::rule_kept` meets its contract, rule by rule; the last arm is an ID that the table doesn't have.
use Rattle.rules.specs.Rule.{keeps}
use Rattle.record.proofs.Keys.{rest_free}
use borrow.Enum.Refused.{opened}
use Rattle.record.proofs.contents.rule_kept.Goals as goal

pub returns-in_default : goal.returns-in_default
unfolding keeps
returns-in_default c =
    let r = c.content_rule in
    rw (← r.ensures, rest_free _ r.result r.ensures (opened c.in_default.in_default-own.keys5))
