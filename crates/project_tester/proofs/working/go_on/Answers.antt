use Rattle.project_tester.proofs.Works.{equality_can, equality_kept, equality_turned, over_cannot, refused_none, simulation_can, simulation_kept, simulation_turned}
use Rattle.project_tester.proofs.working.go_on.Goals as goal

pub compare-requires : goal.compare-requires
compare-requires c = equality_can c.args.work.now c.in-Equality.test c.in-Equality.is c.requires.going

pub simulate-requires : goal.simulate-requires
simulate-requires c = simulation_can c.args.work.now c.in-Simulation.test c.in-Simulation.is c.requires.going

pub returns-in-Equality-clause-turned : goal.returns-in-Equality-clause-turned
returns-in-Equality-clause-turned c = equality_turned c.args.work.now c.in-Equality.test c.compare.new.test c.in-Equality.is c.compare.ensures.same c.compare.result c.compare.ensures.turned

pub returns-in-Equality-clause-kept : goal.returns-in-Equality-clause-kept
returns-in-Equality-clause-kept c = equality_kept c.args.work.now c.in-Equality.test c.compare.new.test c.in-Equality.is c.compare.ensures.same c.compare.result c.compare.ensures.turned c.mutants_are_netlists.ensures

pub returns-in-Ok-clause-turned : goal.returns-in-Ok-clause-turned
returns-in-Ok-clause-turned c = simulation_turned c.args.work.now c.in-Simulation.test c.simulate.new.test c.in-Simulation.is c.simulate.ensures.same c.in-Ok.ended c.in-Ok.ensures.turned

pub returns-in-Ok-clause-kept : goal.returns-in-Ok-clause-kept
returns-in-Ok-clause-kept c = simulation_kept c.args.work.now c.in-Simulation.test c.simulate.new.test c.in-Simulation.is c.simulate.ensures.same c.in-Ok.ended c.in-Ok.ensures.turned

pub returns-in-Refused-clause-turned : goal.returns-in-Refused-clause-turned
returns-in-Refused-clause-turned c = refused_none c.args.work.now c.in-Refused.is

pub returns-in-Refused-clause-kept : goal.returns-in-Refused-clause-kept
returns-in-Refused-clause-kept c p asked mine = mine

pub returns-in-Over-clause-turned : goal.returns-in-Over-clause-turned
returns-in-Over-clause-turned c = absurd (over_cannot c.args.work.now c.in-Over.field-0 c.in-Over.is c.requires.going)

pub returns-in-Over-clause-kept : goal.returns-in-Over-clause-kept
returns-in-Over-clause-kept c p asked mine = mine
