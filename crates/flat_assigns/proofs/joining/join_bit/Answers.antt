use Rattle.flat_assigns.proofs.Common.{net_of}
use Rattle.flat_assigns.proofs.Joins.{no_constant}
use Rattle.flat_assigns.proofs.joining.join_bit.Goals as goal

pub returns-in-Fixed : goal.returns-in-Fixed
returns-in-Fixed c =
    let net = net_of c.args.builder.now c.requires.own c.args.number c.args.bit c.requires.bit in
    absurd (no_constant _ c.bits.result.now c.args.bit net.0 _ c.in-Fixed.field-0 c.bits.ensures net.1 c.in-Fixed.is)
