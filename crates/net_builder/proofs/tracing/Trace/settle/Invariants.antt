use Rattle.net_builder.proofs.Common.{known_of, Keeps, IsTraced, Fits}
use Rattle.net_builder.proofs.tracing.Trace.settle.Given as goal

abbrev pub invariant-loop-net : goal.invariant-loop-net
invariant-loop-net l = IsTraced (known_of l.self) (Fits (known_of l.self) l.mark) × Keeps (known_of l.initial.self) (known_of l.self)

abbrev pub decreases-loop-net : goal.decreases-loop-net
decreases-loop-net l = goal.left-loop-net l
