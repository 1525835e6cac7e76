use Rattle.sat_solver.proofs.Common.{◌≡◌, ◌≤◌, ℤ, List, length, take, assigned, IsKept, IsIndexed, IsSteady}
use Rattle.sat_solver.proofs.propagator.Propagator.uncount.Given as goal

abbrev pub invariant-places : goal.invariant-places
invariant-places l = record {
  from : l.start ≤ l.place;
  within : l.place ≤ length l.initial.self.trail.literals.items;
  trail : l.self.trail ≡ l.initial.self.trail;
  steady : IsSteady l.initial.self l.self;
  indexed : (clauses : List (List ℤ)) (kept : IsKept clauses l.initial.self) → IsIndexed kept.counted (assigned (take l.place l.initial.self.trail.literals.items)) l.self.occurrences l.self.counts.falses.items l.self.counts.trues.items;
}

abbrev pub decreases-places : goal.decreases-places
decreases-places l = l.place
