use Rattle.sat_solver.proofs.Common.{◌+◌, subst, sym, arith, known_of, Trail, IsGrown}
use Rattle.sat_solver.proofs.Grown.{grown-trans}
use Rattle.sat_solver.proofs.Kept.{examined-quiet}
use Rattle.sat_solver.proofs.propagator.Propagator.take_in.Goals as goal

pub returns-in_err-examine-clause-grown : goal.returns-in_err-examine-clause-grown
returns-in_err-examine-clause-grown c = grown-trans c.args.store.now c.args.self.now.trail c.fresh.self.trail c.examine.new.self.trail c.fresh.invariant.grown c.examine.ensures.grown

pub returns-then-branch-clause-grown : goal.returns-then-branch-clause-grown
returns-then-branch-clause-grown c = grown-trans c.args.store.now c.args.self.now.trail c.fresh.self.trail c.examine.new.self.trail c.fresh.invariant.grown c.examine.ensures.grown

pub take-requires-clause-quiet : goal.take-requires-clause-quiet
take-requires-clause-quiet c = examined-quiet c.args.store.now (known_of c.examine.new.self.trail.values.items) (c.fresh.self.taken + 1) c.in_ok-examine.field-0 (omega arith) (omega (arith, c.fresh-test.true, c.len.ensures.number)) c.if-branch.false c.in_ok-examine.ensures.end

pub returns-in_err-take-clause-grown : goal.returns-in_err-take-clause-grown
returns-in_err-take-clause-grown c =
    let P : Trail → Type 0 = λ t. IsGrown c.args.store.now c.args.self.now.trail t in
    subst P (sym c.take.ensures.trail) (grown-trans c.args.store.now c.args.self.now.trail c.fresh.self.trail c.examine.new.self.trail c.fresh.invariant.grown c.examine.ensures.grown)

pub fresh-preserved : goal.fresh-preserved
fresh-preserved c =
    let P : Trail → Type 0 = λ t. IsGrown c.args.store.now c.args.self.now.trail t in
    record { kept = c.take.ensures.kept; grown = subst P (sym c.take.ensures.trail) (grown-trans c.args.store.now c.args.self.now.trail c.fresh.self.trail c.examine.new.self.trail c.fresh.invariant.grown c.examine.ensures.grown) }
