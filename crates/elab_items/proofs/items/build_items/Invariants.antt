use Rattle.elab_items.proofs.Common.{length, Building, flat_of, clocks_in, BuildError, Serves, Stands, BuildsAll, FailsSome}
use Rattle.elab_items.proofs.items.build_items.Given as goal

abbrev pub invariant-loop-rest : goal.invariant-loop-rest
invariant-loop-rest l = record {
  stands : Stands (flat_of l.flat).places l.builder;
  serves : Serves l.inputs (flat_of l.flat).places l.builder l.desk;
  built : (new : Building) → BuildsAll l.inputs (flat_of l.flat) (clocks_in l.clocks) l.rest l.builder new → BuildsAll l.inputs (flat_of l.flat) (clocks_in l.clocks) l.initial.rest l.initial.builder new;
  fails : (error : BuildError) → FailsSome l.inputs (flat_of l.flat) (clocks_in l.clocks) l.rest l.builder error → FailsSome l.inputs (flat_of l.flat) (clocks_in l.clocks) l.initial.rest l.initial.builder error;
}

abbrev pub decreases-loop-rest : goal.decreases-loop-rest
decreases-loop-rest l = length l.rest
