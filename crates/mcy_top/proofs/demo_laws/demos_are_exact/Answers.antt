use Rattle.mcy_top.proofs.ShownExact.{demos_complete, refusals_exact}
use Rattle.mcy_top.proofs.demo_laws.demos_are_exact.Goals as goal

pub returns-clause-refusals : goal.returns-clause-refusals
returns-clause-refusals c = refusals_exact

pub returns-clause-complete : goal.returns-clause-complete
returns-clause-complete c = demos_complete
