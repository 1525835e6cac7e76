use Rattle.std.proofs.Common.{take}
use Rattle.project_benches.specs.Choice.{benches_in, IsFound}
use Rattle.project_benches.proofs.choice.find_bench.Given as goal

abbrev pub invariant-loop-module : goal.invariant-loop-module
invariant-loop-module l = IsFound (benches_in l.numbers l.name (take l.module-index l.modules)) l.found
