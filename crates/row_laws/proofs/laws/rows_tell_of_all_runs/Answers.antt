use Rattle.row_laws.proofs.Telling.{fails_differ, passes_alike, simulations_said, unknowns_long}
use Rattle.row_laws.proofs.laws.rows_tell_of_all_runs.Goals as goal

pub returns-clause-pass : goal.returns-clause-pass
returns-clause-pass c = passes_alike c.one_step_equality_lasts.ensures

pub returns-clause-fail : goal.returns-clause-fail
returns-clause-fail c = fails_differ

pub returns-clause-unknown : goal.returns-clause-unknown
returns-clause-unknown c = unknowns_long

pub returns-clause-said : goal.returns-clause-said
returns-clause-said c = simulations_said
