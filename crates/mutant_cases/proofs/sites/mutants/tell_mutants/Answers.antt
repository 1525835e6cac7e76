use Rattle.std.proofs.Common.{arith}
use Rattle.mutant_cases.proofs.Small.{few-bits}
use Rattle.mutant_cases.proofs.sites.mutants.tell_mutants.Goals as goal

pub mutate-requires-clause-cells : goal.mutate-requires-clause-cells
mutate-requires-clause-cells g c = let few = c.part_count.ensures.count in omega (arith, few, c.if-part_count-gt8000.false)

pub mutate-requires-clause-bits : goal.mutate-requires-clause-bits
mutate-requires-clause-bits g c = let few = c.part_count.ensures.count in few-bits c.args.netlist.now c.part_count.ensures.sound (omega (arith, few, c.if-part_count-gt8000.false))
