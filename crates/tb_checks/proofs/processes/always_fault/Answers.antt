use Rattle.tb_checks.proofs.Common.{[], ◌∷◌, ClockList, Unsupported, first_alone, rules_in}
use Rattle.tb_checks.proofs.Starts.{always_waits, always_other}
use Rattle.tb_checks.proofs.processes.always_fault.Goals as goal

pub returns-in_ok-later-in-EventControl : goal.returns-in_ok-later-in-EventControl
returns-in_ok-later-in-EventControl c = always_waits (rules_in c.args.rules.now) c.args.always c.args.body.now c.in-EventControl.inner _ c.in-EventControl.at c.in-EventControl.control c.earlier.result c.in-EventControl.is c.get.ensures (c.earlier.ensures.joined _ _ c.control_fault-found.ensures c.in_ok-later-in-EventControl.ensures)

pub returns-in_ok-later-in_default : goal.returns-in_ok-later-in_default
returns-in_ok-later-in_default c = always_other (rules_in c.args.rules.now) c.args.always c.args.body.now c.earlier-in_default.result c.in_default.not-EventControl (c.earlier-in_default.ensures.joined (Unsupported c.args.always ClockList ∷ []) _ (first_alone (Unsupported c.args.always ClockList)) c.in_ok-later-in_default.ensures)
