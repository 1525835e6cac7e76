use Rattle.cycle_sim.proofs.Common.{◌≡◌, ◌+◌, arith}
use Rattle.std.proofs.lemmas.Grind.{common_steps}
use Rattle.cycle_sim.proofs.Growing.{goes-driver}
use Rattle.cycle_sim.proofs.wiring.goes_on.Goals as goal

pub returns-then-a-b-clause-bits : goal.returns-then-a-b-clause-bits
returns-then-a-b-clause-bits c = λ is drivers bit whole one.
    let a = c.in-Driver-Driver.a in
    let b = c.in-Driver-Driver.b in
    let place : a.bit + c.args.part.width ≡ b.bit = grind (arith, common_steps, is, c.from.ensures, c.from-then-a-b.ensures, c.from-then-a-b-2.ensures) in
    goes-driver drivers c.args.part.first c.args.next a b c.args.part.width bit c.in-Driver-Driver.is-0 c.in-Driver-Driver.is-1 c.if-a-b.true place one
