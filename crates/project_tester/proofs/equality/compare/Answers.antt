use Rattle.project_tester.proofs.Common.{err_from_is_err_and}
use Rattle.project_tester.proofs.Equalities.{fewer_turns}
use Rattle.project_tester.proofs.equality.compare.Goals as goal

-- the search goes on
pub returns-in-None-clause-turned : goal.returns-in-None-clause-turned
returns-in-None-clause-turned c =
    let none = rw c.in-None.is at c.in_ok-turn.ensures.none in
    let fewer = rw c.in-None.is at c.in_ok-turn.ensures.fewer in
    (none.0.going, fewer_turns c.args.test.now c.turn.new.self c.turn.ensures.same none.1 fewer)

-- it ended with a verdict
pub returns-in-Some-clause-turned : goal.returns-in-Some-clause-turned
returns-in-Some-clause-turned c =
    let tells = rw c.in-Some.is at c.in_ok-turn.ensures.told in
    (c.in-Some.verdict, tells, c.told.ensures)

-- there was no memory
pub returns-in_err-turn-clause-turned : goal.returns-in_err-turn-clause-turned
returns-in_err-turn-clause-turned c =
    let p = err_from_is_err_and c.from_residual.result c.from_residual.ensures.1 in rw p.1 c.in_err-turn.ensures.err.going
