use Rattle.vlog_effects.proofs.Loops.{turns-end, turns-more}
use Rattle.vlog_effects.proofs.Turning.{variable-is-constant, others-stay}
use Rattle.vlog_effects.proofs.laws.loops_turn.Goals as goal

pub returns-clause-end : goal.returns-clause-end
returns-clause-end c = turns-end

pub returns-clause-more : goal.returns-clause-more
returns-clause-more c = turns-more

pub returns-clause-variable : goal.returns-clause-variable
returns-clause-variable c = variable-is-constant

pub returns-clause-others : goal.returns-clause-others
returns-clause-others c = others-stay
