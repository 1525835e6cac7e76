use Rattle.sat_solver.proofs.Common.{pos, take, sym, ◌∙◌, rules, FitsSigned, w32, to_z-of_z, get_or_default, known_of, AreSettled, AreGuards, propagated}
use Rattle.sat_solver.proofs.Grown.{grown-trans}
use Rattle.sat_solver.proofs.Looking.{next-step}
use Rattle.sat_solver.proofs.propagator.Propagator.propagate_next.Goals as goal

pub visit-requires-clause-next : goal.visit-requires-clause-next
visit-requires-clause-next c =
    let fits : FitsSigned w32 c.index-l.result.now = search rules in
    (c.requires.next, get_or_default c.args.self.now.trail.literals.items c.args.self.now.head (pos 0) c.index-l.result.now c.requires.next ∙ sym c.index-l.ensures ∙ sym (to_z-of_z w32 c.index-l.result.now fits))

pub returns-in_err-conflict-2-clause-grown : goal.returns-in_err-conflict-2-clause-grown
returns-in_err-conflict-2-clause-grown c = grown-trans c.args.store.now c.args.self.now.trail c.visit.new.self.trail c.visit_watched.new.self.trail c.visit.ensures.grown c.visit_watched.ensures.grown

pub returns-in-Some-2-clause-grown : goal.returns-in-Some-2-clause-grown
returns-in-Some-2-clause-grown c = grown-trans c.args.store.now c.args.self.now.trail c.visit.new.self.trail c.visit_watched.new.self.trail c.visit.ensures.grown c.visit_watched.ensures.grown

pub returns-clause-grown : goal.returns-clause-grown
returns-clause-grown c = grown-trans c.args.store.now c.args.self.now.trail c.visit.new.self.trail c.visit_watched.new.self.trail c.visit.ensures.grown c.visit_watched.ensures.grown

pub returns-clause-kept : goal.returns-clause-kept
returns-clause-kept c =
    let settled : AreSettled (propagated c.args.self.now) (known_of c.visit.new.self.trail.values.items) (take c.args.self.now.taken c.args.store.now) c.args.self.now.watches = rw c.in_default.is at c.in_ok-conflict.ensures.end in
    let guards : AreGuards (propagated c.visit.new.self) (known_of c.visit_watched.new.self.trail.values.items) c.visit_watched.new.self.watches = rw c.in_default-2.is at c.in_ok-conflict-2.ensures.end in
    next-step c.args.store.now c.args.self.now c.visit.new.self c.visit_watched.new.self c.requires.kept c.visit.ensures.kept c.visit_watched.ensures.kept c.requires.next c.visit.ensures.grown c.visit.ensures.steady c.visit_watched.ensures.grown c.visit_watched.ensures.taken c.visit_watched.ensures.head c.visit_watched.ensures.counted settled guards
