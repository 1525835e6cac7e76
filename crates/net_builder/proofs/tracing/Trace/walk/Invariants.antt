use Rattle.net_builder.proofs.Common.{◌≡◌, ◌≢◌, ◌⊎◌, Unknown, known_of, mark_of, unknowns, Keeps, IsTraced, Comes}
use Rattle.net_builder.proofs.tracing.Trace.walk.Given as goal

abbrev pub invariant-loop-next : goal.invariant-loop-next
invariant-loop-next l = IsTraced (known_of l.self) (Comes (known_of l.self) l.net) × Keeps (known_of l.initial.self) (known_of l.self) × ((l.from ≡ l.net) ⊎ (mark_of (known_of l.self) l.from ≢ Unknown))

abbrev pub decreases-loop-next : goal.decreases-loop-next
decreases-loop-next l = unknowns l.self.marks.items
