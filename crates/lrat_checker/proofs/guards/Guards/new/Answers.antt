use Rattle.lrat_checker.proofs.Common.{arith}
use Rattle.lrat_checker.proofs.guards.Guards.new.Goals as goal

pub returns : goal.returns
returns c = λ all n h. absurd (omega (arith, h))
