use Rattle.sat_solver.proofs.Common.{◌-◌, length, IsPart}
use Rattle.sat_solver.proofs.part.Part.update.Given as goal

abbrev pub invariant-loop-self : goal.invariant-loop-self
invariant-loop-self l = IsPart l.left_out l.all l.self

abbrev pub decreases-loop-self : goal.decreases-loop-self
decreases-loop-self l = length l.all - l.self.seen
