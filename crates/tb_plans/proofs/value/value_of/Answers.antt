use Rattle.tb_plans.proofs.Common.{sym, ◌∙◌, names_of}
use Rattle.tb_plans.proofs.Values.{still_value}
use Rattle.tb_plans.proofs.value.value_of.Goals as goal

pub returns : goal.returns
returns c = still_value (names_of c.args.scope.now) c.args.expr.now c.args.context c.in_ok-formula.formula (sym c.changes.ensures ∙ c.if-changes.false) c.in_ok-formula.ensures.means c.in_ok-formula.ensures.fits
