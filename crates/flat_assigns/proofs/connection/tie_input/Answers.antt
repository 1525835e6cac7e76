use Rattle.flat_assigns.proofs.Common.{length, ap, arith}
use Rattle.flat_assigns.proofs.Adding.{tie_built}
use Rattle.flat_assigns.proofs.Laying.{open_laid}
use Rattle.flat_assigns.proofs.connection.tie_input.Goals as goal

pub join_port-requires-clause-width : goal.join_port-requires-clause-width
join_port-requires-clause-width c = ap length c.bits.ensures

pub join_port-requires-clause-enough : goal.join_port-requires-clause-enough
join_port-requires-clause-enough c =
    let shown = ap length c.as_slice.ensures in
    omega (arith, shown, c.in_ok-zeros.ensures.long)

pub returns-clause-built : goal.returns-clause-built
returns-clause-built c = tie_built c.args.builder.now c.join_port.new.builder _ c.as_slice.result.now c.args.port _ c.requires.ready c.in_ok-zeros.ensures.long c.in_ok-zeros.ensures.below c.in_ok-zeros.ensures.value c.as_slice.ensures (ap length c.bits.ensures) c.in_ok-join_port.ensures

pub returns-clause-laid : goal.returns-clause-laid
returns-clause-laid c = open_laid c.args.builder.now c.join_port.new.builder _ c.as_slice.result.now c.args.port _ c.in_ok-zeros.ensures.is c.as_slice.ensures (ap length c.bits.ensures) c.in_ok-join_port.ensures
