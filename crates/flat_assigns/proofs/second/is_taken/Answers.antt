use Rattle.flat_assigns.proofs.Common.{sym, ◌∙◌, net_of, Fixed, false}
use Rattle.flat_assigns.proofs.Firsts.{bit_is, met_takes}
use Rattle.flat_assigns.proofs.Joins.{no_constant}
use Rattle.flat_assigns.proofs.second.is_taken.Goals as goal

pub returns-in_ok-is_met-in-Net : goal.returns-in_ok-is_met-in-Net
returns-in_ok-is_met-in-Net c = λ before seen.
    let at = bit_is c.args.builder.now c.requires.own c.args.number c.args.bit c.in-Net.net c.bits.result.now (Fixed false) c.bits.ensures c.requires.bit c.in-Net.is in
    met_takes c.args.builder.now c.args.inputs.now before (record { signal = c.args.number; bit = c.args.bit }) c.in-Net.net c.args.seen.now c.is_met.new.seen c.in_ok-is_met-in-Net.field-0 c.requires.own at (sym c.is_input.ensures ∙ c.if-is_input.false) seen c.in_ok-is_met-in-Net.ensures

pub returns-in-Fixed : goal.returns-in-Fixed
returns-in-Fixed c = λ before seen.
    let net = net_of c.args.builder.now c.requires.own c.args.number c.args.bit c.requires.bit in
    absurd (no_constant _ c.bits.result.now c.args.bit net.0 _ c.in-Fixed.field-0 c.bits.ensures net.1 c.in-Fixed.is)
