use Rattle.net_builder.proofs.Common.{List, sym, ◌∙◌, ap, Joint, writer_of, after_joint}
use Rattle.net_builder.proofs.Writing.{joint_added}
use Rattle.net_builder.proofs.builder.Builder.join.Goals as goal

pub invariant_of-self-2 : goal.invariant_of-self-2
invariant_of-self-2 c =
    let i = c.self.invariant in
    (i.0, i.1, i.2, i.3, i.4, i.5, c.join.ensures ∙ ap (after_joint c.args.net c.args.bit) (c.make_room.ensures.same ∙ i.6) ∙ sym (ap (λ (js : List Joint). writer_of js c.self.inside.registers.items) c.in_ok-push.ensures.ok ∙ joint_added c.self.inside.joints.items c.self.inside.registers.items c.args.net c.args.bit), i.7)
