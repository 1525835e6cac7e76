use Rattle.tb_checks.proofs.Common.{◌∙◌, rules_in}
use Rattle.tb_checks.proofs.Begun.{behind_is}
use Rattle.tb_checks.proofs.start.may_behind.Goals as goal

pub returns : goal.returns
returns c = c.is_open.ensures ∙ behind_is (rules_in c.args.rules.now) c.args.may_start c.args.stmt.now c.sets_clock.result c.waits.result c.sets_clock.ensures c.waits.ensures
