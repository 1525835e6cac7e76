use Rattle.net_builder.proofs.Common.{◌≡◌, List, sym, ◌∙◌, ap, Bit, Register, writers_of, writer_of, after_stores}
use Rattle.net_builder.proofs.Writing.{register_added}
use Rattle.net_builder.proofs.builder.Builder.register.Goals as goal

pub invariant_of-self-2 : goal.invariant_of-self-2
invariant_of-self-2 c =
    let i = c.self.invariant in
    let bits : c.as_slice-2.result.now ≡ c.args.q = c.as_slice-2.ensures ∙ c.in_ok-written.ensures in
    let added = ap (λ (rs : List Register). writer_of c.self.inside.joints.items rs) c.in_ok-push.ensures.ok ∙ register_added c.self.inside.joints.items c.self.inside.registers.items _ in
    (i.0, i.1, i.2, i.3, i.4, i.5, c.store.ensures ∙ ap (λ (l : List Bit). after_stores l (writers_of c.make_room_for.new.self)) bits ∙ ap (after_stores c.args.q) (c.make_room_for.ensures.same ∙ i.6) ∙ sym added, i.7)
