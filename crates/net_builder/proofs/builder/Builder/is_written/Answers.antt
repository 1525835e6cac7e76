use Rattle.net_builder.proofs.Common.{ℕ, ◌∙◌, ap, refl, false≢true, Writer, Building, writer_of}
use Rattle.net_builder.proofs.Writing.{told_written}
use Rattle.net_builder.proofs.builder.Builder.is_written.Goals as goal

pub returns-in-Nothing : goal.returns-in-Nothing
returns-in-Nothing c =
    let is = c.of.ensures ∙ ap (λ (f : ℕ → Writer). f c.args.net) c.self.invariant.6 ∙ ap (λ (b : Building). writer_of b.joints b.registers c.args.net) c.self.view_is in
    let t = told_written c.args.self.now c.args.net c.of.result is in
    (λ h. absurd (false≢true h), λ h. absurd (t.1 h c.in-Nothing.is))

pub returns-in_default : goal.returns-in_default
returns-in_default c =
    let is = c.of.ensures ∙ ap (λ (f : ℕ → Writer). f c.args.net) c.self.invariant.6 ∙ ap (λ (b : Building). writer_of b.joints b.registers c.args.net) c.self.view_is in
    let t = told_written c.args.self.now c.args.net c.of.result is in
    (λ h. t.0 c.in_default.not-Nothing, λ h. refl)
