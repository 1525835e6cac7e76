use Rattle.tb_checks.proofs.Common.{IfOk-weaker, stmt_faults, rules_in}
use Rattle.tb_checks.proofs.Starts.{set_start}
use Rattle.tb_checks.proofs.start.set_fault.Goals as goal

pub returns-in-Some : goal.returns-in-Some
returns-in-Some c = IfOk-weaker c.start_fault.result _ _ (λ o h. set_start (rules_in c.args.rules.now) c.args.assignment.now c.in-Some.width c.clock_width.result (stmt_faults (rules_in c.args.rules.now) c.args.stmt.now) o c.clock_width.ensures c.in-Some.is h) c.start_fault.ensures
