use Rattle.lrat_checker.proofs.Common.{pos, get_or, sym, rules, to_z-of_z, FitsSigned, w32, known_of}
use Rattle.lrat_checker.proofs.Examining.{two_left}
use Rattle.lrat_checker.proofs.partial.examine.Goals as goal

pub returns-then-is_some : goal.returns-then-is_some
returns-then-is_some c =
    let fits : FitsSigned w32 (get_or c.args.clause.now c.loop-l.l-index (pos 0)) = search rules in
    two_left (known_of c.args.values.now) c.args.clause.now c.loop-l.l-index c.loop-l.open _ (to_z-of_z w32 _ fits) c.loop-l-test.true c.loop-l.invariant.0 (sym c.if-is_some.ensures) (sym c.if-not-is_false.ensures)
