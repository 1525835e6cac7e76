use Rattle.sat_solver.proofs.Common.{◌≡◌, ◌-◌, length, known_of, IsGrown, list_of, IsKept, KeepsCounted, propagated}
use Rattle.sat_solver.proofs.Due.{AreDue}
use Rattle.sat_solver.proofs.propagator.Propagator.visit_watched.Given as goal

abbrev pub invariant-watchers : goal.invariant-watchers
invariant-watchers l = record {
  kept : IsKept l.store l.self;
  grown : IsGrown l.store l.initial.self.trail l.self.trail;
  taken : l.self.taken ≡ l.initial.self.taken;
  head : l.self.head ≡ l.initial.self.head;
  counted : KeepsCounted l.initial.self.watches l.self.watches;
  due : AreDue (propagated l.initial.self) (known_of l.self.trail.values.items) l.self.watches l.place (list_of l.self.watches.lists l.l);
}

abbrev pub decreases-watchers : goal.decreases-watchers
decreases-watchers l = length (list_of l.self.watches.lists l.l) - l.place
