use Rattle.mutation_sites.proofs.Common.{arith}
use Rattle.mutation_sites.proofs.Pigeons.{few-nets}
use Rattle.mutation_sites.proofs.unused.first_unused.Goals as goal

pub overflow_add-net : goal.overflow_add-net
overflow_add-net c = let few = few-nets c.args.netlist.now c.raw-raw.ensures.sound c.loop-raw.net c.loop-raw.invariant in omega (arith, few)

pub loop-raw-smaller : goal.loop-raw-smaller
loop-raw-smaller c = let few = few-nets c.args.netlist.now c.raw-raw.ensures.sound c.loop-raw.net c.loop-raw.invariant in omega (arith, few)
