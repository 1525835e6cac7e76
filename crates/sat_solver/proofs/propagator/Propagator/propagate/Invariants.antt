use Rattle.sat_solver.proofs.Common.{◌≡◌, ◌-◌, length, IsGrown, IsKept}
use Rattle.sat_solver.proofs.propagator.Propagator.propagate.Given as goal

abbrev pub invariant-literals : goal.invariant-literals
invariant-literals l = record {
  kept : IsKept l.store l.self;
  grown : IsGrown l.store l.fn.self.trail l.self.trail;
  all : l.self.taken ≡ length l.store;
}

abbrev pub decreases-literals : goal.decreases-literals
decreases-literals l = length l.self.trail.values.items - l.self.head
