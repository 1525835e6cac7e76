use Rattle.sat_solver.proofs.Common.{ℤ, List, subst, IsQuiet, known_of}
use Rattle.sat_solver.proofs.Kept.{same-clause, numbered-is, kept-shown}
use Rattle.sat_solver.proofs.propagator.Propagator.examine_counted.Goals as goal

pub returns-then-is_quiet-clause-end : goal.returns-then-is_quiet-clause-end
returns-then-is_quiet-clause-end c clause is =
    let Q : List ℤ → Type 0 = IsQuiet (known_of c.args.self.now.trail.values.items) in
    subst Q (same-clause c.args.store.now c.args.number c.clause.result.now clause c.clause.ensures is)
    (kept-shown c.args.store.now c.args.self.now c.args.number c.clause.result.now c.requires.kept c.requires.number.1 c.requires.counted (numbered-is c.args.store.now c.args.number c.clause.result.now c.requires.number.0 c.clause.ensures) c.if-is_quiet.ensures)
