use Rattle.net_builder.proofs.Common.{◌≡◌, ◌≢◌, ◌<◌, ℕ, Unknown, known_of, mark_of, IsDone}
use Rattle.net_builder.proofs.tracing.Trace.of.Given as goal

abbrev pub invariant-loop-net : goal.invariant-loop-net
invariant-loop-net l = IsDone (known_of l.trace) × (l.trace.steps ≡ l.initial.trace.steps) × ((n : ℕ) → n < l.net → mark_of (known_of l.trace) n ≢ Unknown)
