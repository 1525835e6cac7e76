use Rattle.sat_solver.proofs.Common.{◌-◌, length, IsGrown, IsKept}
use Rattle.sat_solver.proofs.propagator.Propagator.take_in.Given as goal

abbrev pub invariant-fresh : goal.invariant-fresh
invariant-fresh l = record {
  kept : IsKept l.store l.self;
  grown : IsGrown l.store l.initial.self.trail l.self.trail;
}

abbrev pub decreases-fresh : goal.decreases-fresh
decreases-fresh l = length l.store - l.self.taken
