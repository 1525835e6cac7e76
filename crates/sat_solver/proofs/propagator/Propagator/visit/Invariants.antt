use Rattle.sat_solver.proofs.Common.{◌+◌, take, neg_ℤ, All, known_of, assigned, IsGrown, list_of, numbered, IsSettled, IsKept, IsSteady}
use Rattle.sat_solver.proofs.propagator.Propagator.visit.Given as goal

abbrev pub invariant-loop-place : goal.invariant-loop-place
invariant-loop-place l = record {
  kept : IsKept l.store l.self;
  grown : IsGrown l.store l.initial.self.trail l.self.trail;
  steady : IsSteady l.initial.self l.self;
  visited : All (λ n. IsSettled (assigned (take (l.initial.self.head + 1) l.initial.self.trail.literals.items)) (known_of l.self.trail.values.items) (numbered (take l.initial.self.taken l.store) n)) (take l.place (list_of l.initial.self.occurrences (neg_ℤ l.l)));
}
