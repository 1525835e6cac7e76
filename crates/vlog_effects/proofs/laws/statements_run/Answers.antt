use Rattle.vlog_effects.proofs.Running.{effects-follow, blocks-run, conditionals-run, assignments-run}
use Rattle.vlog_effects.proofs.laws.statements_run.Goals as goal

pub returns-clause-followed : goal.returns-clause-followed
returns-clause-followed c = effects-follow

pub returns-clause-blocks : goal.returns-clause-blocks
returns-clause-blocks c = blocks-run

pub returns-clause-conditionals : goal.returns-clause-conditionals
returns-clause-conditionals c = conditionals-run

pub returns-clause-assignments : goal.returns-clause-assignments
returns-clause-assignments c = assignments-run
