use Rattle.campaign_reading.proofs.Common.{subst, sym, err_from_is_err_and, Trial, List, ◌+◌, take, reading_of, AreTrials, Reading}
use Rattle.campaign_reading.proofs.Trying.{fault_at, trials_more}
use Rattle.campaign_reading.proofs.trials.Reading.trials.Goals as goal

pub returns-in_err-trial-clause-refused : goal.returns-in_err-trial-clause-refused
returns-in_err-trial-clause-refused c =
    let r : Reading = reading_of c.args.self.now.files.now c.args.self.now.modules.now c.args.self.now.top.now c.args.self.now.netlist.now.raw in
    let p = err_from_is_err_and c.from_residual.result c.from_residual.ensures.1 in
    rw (p.1, p.2) (fault_at r c.args.tests.now c.loop-number.number c.loop-number.trials c.index-tests-number.result c.in_err-trial.field-0.0 c.loop-number-test.true c.loop-number.invariant c.in_err-trial.ensures.refused)

pub loop-number-preserved : goal.loop-number-preserved
loop-number-preserved c =
    let r : Reading = reading_of c.args.self.now.files.now c.args.self.now.modules.now c.args.self.now.top.now c.args.self.now.netlist.now.raw in
    subst (λ (ts : List Trial). AreTrials r (take (c.loop-number.number + 1) c.args.tests.now) ts) (sym c.in_ok-push.ensures.ok)
    (trials_more r c.args.tests.now c.loop-number.number c.loop-number.trials c.index-tests-number.result c.in_ok-trial.field-0 c.loop-number-test.true c.loop-number.invariant c.in_ok-trial.ensures.trial)
