use Rattle.elab_cases.specs.Benches.{IsSound}
use Rattle.elab_cases.proofs.expressions.declare_names.Given as goal

abbrev pub invariant-loop-word : goal.invariant-loop-word
invariant-loop-word l = IsSound l.bench
