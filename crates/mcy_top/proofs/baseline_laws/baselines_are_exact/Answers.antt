use Rattle.mcy_top.proofs.BaselineExact.{bad_exact, baseline_refusals, baselines_complete, calls_agree}
use Rattle.mcy_top.proofs.baseline_laws.baselines_are_exact.Goals as goal

pub returns-clause-one : goal.returns-clause-one
returns-clause-one c = calls_agree c.baselines_are_one.ensures

pub returns-clause-bad : goal.returns-clause-bad
returns-clause-bad c = bad_exact c.baselines_are_one.ensures

pub returns-clause-refusals : goal.returns-clause-refusals
returns-clause-refusals c = baseline_refusals

pub returns-clause-complete : goal.returns-clause-complete
returns-clause-complete c = baselines_complete
