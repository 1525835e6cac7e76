use Rattle.elab_items.proofs.Common.{length, Store, Building, widths_in, SameButStarts, StartsWith, flat_of, AllStart, starts_from}
use Rattle.elab_items.proofs.start.set_starts.Given as goal

abbrev pub invariant-loop-rest : goal.invariant-loop-rest
invariant-loop-rest l = record {
  others : SameButStarts l.initial.builder l.builder;
  starts : (new : Building)
      → ((store : Store) → AllStart (widths_in l.initial.builder) (flat_of l.flat).places l.rest → StartsWith l.builder store → StartsWith new (starts_from (widths_in l.initial.builder) (flat_of l.flat).places l.rest store))
      → (store : Store) → AllStart (widths_in l.initial.builder) (flat_of l.flat).places l.initial.rest → StartsWith l.initial.builder store → StartsWith new (starts_from (widths_in l.initial.builder) (flat_of l.flat).places l.initial.rest store);
}

abbrev pub decreases-loop-rest : goal.decreases-loop-rest
decreases-loop-rest l = length l.rest
