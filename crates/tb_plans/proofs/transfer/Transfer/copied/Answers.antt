use Rattle.tb_plans.proofs.Common.{◌≡◌, ℕ, ap, ◌∙◌, Filled}
use Rattle.tb_plans.proofs.Copying.{copy_known, copied_is}
use Rattle.tb_plans.proofs.transfer.Transfer.copied.Goals as goal

pub word_for-requires : goal.word_for-requires
word_for-requires c =
    let target : c.args.self.now.target ≡ Filled c.in-Signal-Filled.signal 0 c.in-Signal-Filled.width = c.in-Signal-Filled.is-1 ∙ ap (λ (l : ℕ). Filled c.in-Signal-Filled.signal l c.in-Signal-Filled.width) c.if-low-eq0.true in
    copy_known c.args.self.now c.args.store.now c.in-Signal-Filled.from c.in-Signal-Filled.field-1-0 c.in-Signal-Filled.signal c.in-Signal-Filled.width c.in-Signal-Filled.is-0 target c.requires

pub returns-in-Signal-Filled : goal.returns-in-Signal-Filled
returns-in-Signal-Filled c =
    let target : c.args.self.now.target ≡ Filled c.in-Signal-Filled.signal 0 c.in-Signal-Filled.width = c.in-Signal-Filled.is-1 ∙ ap (λ (l : ℕ). Filled c.in-Signal-Filled.signal l c.in-Signal-Filled.width) c.if-low-eq0.true in
    copied_is c.args.self.now c.args.store.now c.in-Signal-Filled.from c.in-Signal-Filled.field-1-0 c.in-Signal-Filled.signal c.in-Signal-Filled.width c.in-Signal-Filled.is-0 target c.requires c.word_for.result c.word_for.ensures
