use Rattle.file_calls.proofs.OnFiles.{blank_on, calls_on, safe_on}
use Rattle.file_calls.proofs.laws.calls_on_files_are_a_history.Goals as goal

pub returns-clause-calls : goal.returns-clause-calls
returns-clause-calls g c = calls_on g.K.Keeper.holds g.K.Keeper.leaves

pub returns-clause-safe : goal.returns-clause-safe
returns-clause-safe g c = safe_on g.K.Keeper.tells g.K.Keeper.holds g.K.Keeper.leaves g.met.K.Keeper.survives

pub returns-clause-blank : goal.returns-clause-blank
returns-clause-blank g c = blank_on
