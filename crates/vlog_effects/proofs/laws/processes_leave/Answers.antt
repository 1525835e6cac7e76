use Rattle.vlog_effects.proofs.Kept.{changes-only-targets}
use Rattle.vlog_effects.proofs.Unlatched.{leaves-one}
use Rattle.vlog_effects.proofs.laws.processes_leave.Goals as goal

pub returns-clause-targets : goal.returns-clause-targets
returns-clause-targets c = changes-only-targets

pub returns-clause-one : goal.returns-clause-one
returns-clause-one c = leaves-one
