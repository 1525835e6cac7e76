-- The flag of `status`, which is none of the commands below it.
use Rattle.command_words.proofs.Common.{rules, ap₂, false, refl, ◌≡◌, ◌∙◌, IfOk-weaker, rule_of, with_rule, strict_rule}
use Rattle.command_words.proofs.program.status_line.Goals as goal

pub returns-clause-shape : goal.returns-clause-shape
returns-clause-shape c =
    let strict_is : rule_of c.action-strict.result ≡ strict_rule = search rules in
    IfOk-weaker c.arg.result _ _ (λ r adds. adds.shape (search rules) ∙ ap₂ with_rule c.new-2.ensures.app strict_is) c.arg.ensures

pub returns-clause-local : goal.returns-clause-local
returns-clause-local c =
    let own : c.action-strict.result.global ≡ false = search rules in
    IfOk-weaker c.arg.result _ _ (λ r adds. adds.globals ∙ rw (c.new-2.ensures.local, own) refl) c.arg.ensures
