use Rattle.sat_solver.proofs.Taken.{kept-new}
use Rattle.sat_solver.proofs.Common.{refl}
use Rattle.sat_solver.proofs.propagator.Propagator.new.Goals as goal

pub returns-clause-kept : goal.returns-clause-kept
returns-clause-kept c clauses = kept-new clauses _ c.args.greatest c.in_ok-new.ensures c.in_ok-new-2.ensures c.in_ok-new-3.ensures.falses c.in_ok-new-3.ensures.trues c.in_ok-new-4.ensures.pairs c.in_ok-new-4.ensures.lists refl refl
