use Rattle.sat_solver.proofs.Common.{◌≡◌, ◌-◌, ℤ, List, length, sym, subst, arith, clause-within, numbered, IsPair}
use Rattle.sat_solver.proofs.Kept.{numbered-is}
use Rattle.sat_solver.proofs.propagator.Propagator.take.Goals as goal

pub choose-requires-clause-over : goal.choose-requires-clause-over
choose-requires-clause-over c = clause-within c.args.store.now (length c.args.self.now.trail.values.items) (c.args.number - 1) c.clause.result.now c.requires.over c.clause.ensures

pub take_watched-requires-clause-pair : goal.take_watched-requires-clause-pair
take_watched-requires-clause-pair c =
    let is : numbered c.args.store.now c.args.number ≡ c.clause.result.now = numbered-is c.args.store.now c.args.number c.clause.result.now (omega (arith, c.requires.number.0)) c.clause.ensures in
    let P : List ℤ → Type 0 = λ clause. IsPair clause c.in-Some.pair in
    subst P (sym is) c.in-Some.ensures.pair
