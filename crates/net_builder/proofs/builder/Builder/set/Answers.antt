use Rattle.net_builder.proofs.Common.{◌≡◌, length, get_or, [], arith, length-set}
use Rattle.net_builder.proofs.Starting.{widths_other}
use Rattle.net_builder.proofs.builder.Builder.set.Goals as goal

pub invariant_of-self : goal.invariant_of-self
invariant_of-self c =
    let i = c.self.invariant in
    let wide : length c.args.bits ≡ length (get_or c.self.inside.signals.items c.args.number []) = rw (← c.self.view_is) at c.requires.wide in
    (i.0, i.1, i.2, omega (arith, i.3, length-set c.self.inside.signals.items c.args.number c.args.bits), i.4, widths_other c.self.inside.starts.items c.self.inside.signals.items c.args.number c.args.bits i.5 wide, i.6, i.7)
