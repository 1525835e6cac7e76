use Rattle.vlog_effects.proofs.Variants.{steps-block, steps-conditional, steps-case, steps-loop}
use Rattle.vlog_effects.proofs.laws.statements_step.Goals as goal

pub returns-clause-blocks : goal.returns-clause-blocks
returns-clause-blocks c = λ at label body names. steps-block at label body names

pub returns-clause-conditionals : goal.returns-clause-conditionals
returns-clause-conditionals c = λ at x first second names. steps-conditional at x first second names

pub returns-clause-cases : goal.returns-clause-cases
returns-clause-cases c = λ at kind selector items names. steps-case at kind selector items names

pub returns-clause-loops : goal.returns-clause-loops
returns-clause-loops c = λ at start condition step body names. steps-loop at start condition step body names
