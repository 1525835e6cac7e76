use Rattle.project_tester.proofs.Common.{refl}
use Rattle.project_tester.proofs.Simulations.{fewer_turns}
use Rattle.project_tester.proofs.simulation.simulate.Goals as goal

-- the simulation goes on
pub returns-in-None-clause-turned : goal.returns-in-None-clause-turned
returns-in-None-clause-turned c =
    let none = rw c.in-None.is at c.in_ok-turn.ensures.none in
    let over = rw c.in-None.is at c.in_ok-turn.ensures.over in
    (over, fewer_turns c.args.test.now c.turn.new.self c.turn.ensures.same none.1 none.2)

-- it ended with a verdict
pub returns-in-Some-clause-turned : goal.returns-in-Some-clause-turned
returns-in-Some-clause-turned c =
    let says = rw c.in-Some.is at c.in_ok-turn.ensures.told in
    (c.in-Some.verdict, says, c.word_of.ensures, refl)
