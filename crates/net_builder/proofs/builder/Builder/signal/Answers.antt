use Rattle.net_builder.proofs.Common.{◌≡◌, ◌+◌, ◌≤◌, length, sym, ◌∙◌, ap, arith, own_bits}
use Rattle.net_builder.proofs.Parts.{signal_pushed, bits_pushed, length_fresh}
use Rattle.net_builder.proofs.Starting.{widths_pushed}
use Rattle.net_builder.proofs.builder.Builder.signal.Goals as goal

pub invariant_of-self-in-Ok : goal.invariant_of-self-in-Ok
invariant_of-self-in-Ok c =
    let d : (own_bits c.push_both.new.firsts.items ≡ own_bits c.self.inside.declared.items + c.args.width) × (length c.push_both.new.firsts.items ≡ length c.self.inside.declared.items + 1) = signal_pushed c.self.inside.declared.items c.push_both.new.firsts.items _ c.in-Ok.ensures.firsts in
    let k : length c.push_both.new.seconds.items ≡ length c.self.inside.signals.items + 1 = bits_pushed c.self.inside.signals.items c.push_both.new.seconds.items _ c.in-Ok.ensures.seconds in
    let room : own_bits c.self.inside.declared.items + c.args.width ≤ 4194304 = rw (← c.self.view_is) at c.requires.room in
    let i = c.self.invariant in
    let wide = c.zero.ensures.width ∙ sym (ap length c.in_ok-bits.ensures ∙ length_fresh c.self.inside.nets c.args.width) in
    (i.0, omega (arith, d, room), omega (arith, d, i.2, c.from.ensures), omega (arith, d, k, i.3), omega (arith, d, c.requires.some, i.4), widths_pushed c.self.inside.starts.items c.push.new.items.items c.self.inside.signals.items c.push_both.new.seconds.items c.zero.result _ c.in_ok-push.ensures.ok c.in-Ok.ensures.seconds wide i.5, i.6, omega (arith, d, i.7, c.from.ensures))
