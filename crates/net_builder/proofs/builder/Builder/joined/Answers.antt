use Rattle.net_builder.proofs.Common.{ℕ, ◌∙◌, ap, sym, Writer, Building, writer_of}
use Rattle.net_builder.proofs.Writing.{told_joined, told_free, joint_found, joint_none}
use Rattle.net_builder.proofs.builder.Builder.joined.Goals as goal

pub returns-in-Joined-clause-is : goal.returns-in-Joined-clause-is
returns-in-Joined-clause-is c =
    let is = c.of.ensures ∙ ap (λ (f : ℕ → Writer). f c.args.net) c.self.invariant.6 ∙ ap (λ (b : Building). writer_of b.joints b.registers c.args.net) c.self.view_is in
    sym (told_joined c.args.self.now c.args.net c.of.result is c.in-Joined.bit c.in-Joined.is)

pub returns-in-Joined-clause-tells : goal.returns-in-Joined-clause-tells
returns-in-Joined-clause-tells c =
    let is = c.of.ensures ∙ ap (λ (f : ℕ → Writer). f c.args.net) c.self.invariant.6 ∙ ap (λ (b : Building). writer_of b.joints b.registers c.args.net) c.self.view_is in
    joint_found c.args.self.now.joints c.args.net c.in-Joined.bit (told_joined c.args.self.now c.args.net c.of.result is c.in-Joined.bit c.in-Joined.is)

pub returns-in_default : goal.returns-in_default
returns-in_default c =
    let is = c.of.ensures ∙ ap (λ (f : ℕ → Writer). f c.args.net) c.self.invariant.6 ∙ ap (λ (b : Building). writer_of b.joints b.registers c.args.net) c.self.view_is in
    let free = told_free c.args.self.now c.args.net c.of.result is c.in_default.not-Joined in
    record { is = sym free; tells = λ h. joint_none c.args.self.now.joints c.args.net free h.0 h.1 }
