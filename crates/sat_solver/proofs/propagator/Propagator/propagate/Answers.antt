use Rattle.sat_solver.proofs.Common.{◌≡◌, ◌+◌, length, ◌∙◌, arith}
use Rattle.sat_solver.proofs.Grown.{grown-trans, count-le}
use Rattle.sat_solver.proofs.Kept.{kept-quiet}
use Rattle.sat_solver.proofs.propagator.Propagator.propagate.Goals as goal

pub returns-in_err-conflict-2-clause-grown : goal.returns-in_err-conflict-2-clause-grown
returns-in_err-conflict-2-clause-grown c = grown-trans c.args.store.now c.args.self.now.trail c.literals.self.trail c.propagate_next.new.self.trail c.literals.invariant.grown c.propagate_next.ensures.grown

pub returns-in-Some-2-clause-grown : goal.returns-in-Some-2-clause-grown
returns-in-Some-2-clause-grown c = grown-trans c.args.store.now c.args.self.now.trail c.literals.self.trail c.propagate_next.new.self.trail c.literals.invariant.grown c.propagate_next.ensures.grown

pub literals-preserved : goal.literals-preserved
literals-preserved c = record {
  kept = c.propagate_next.ensures.kept;
  grown = grown-trans c.args.store.now c.args.self.now.trail c.literals.self.trail c.propagate_next.new.self.trail c.literals.invariant.grown c.propagate_next.ensures.grown;
  all = c.propagate_next.ensures.taken ∙ c.literals.invariant.all;
}

pub literals-smaller : goal.literals-smaller
literals-smaller c =
    let next : c.propagate_next.new.self.head ≡ c.literals.self.head + 1 = rw c.in_default-2.is at c.in_ok-conflict-2.ensures.end in
    omega (arith, c.propagate_next.ensures.grown.len, next, c.literals-test.true, c.len.ensures, c.literals.self.trail.literals.ok.0, c.literals.invariant.kept.unwound.counted, count-le c.literals.self.trail.values.items)

pub returns-clause-end : goal.returns-clause-end
returns-clause-end c =
    let head : c.literals.self.head ≡ length c.literals.self.trail.literals.items = omega (arith, c.literals-test.false, c.len.ensures, c.literals.self.trail.literals.ok.0, c.literals.invariant.kept.within) in
    kept-quiet c.args.store.now c.literals.self c.literals.invariant.kept head c.literals.invariant.all

pub returns-clause-whole : goal.returns-clause-whole
returns-clause-whole c = omega (arith, c.literals-test.false, c.len.ensures, c.literals.self.trail.literals.ok.0, c.literals.invariant.kept.within)
