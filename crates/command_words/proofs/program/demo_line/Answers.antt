-- The two words behind `demo`, which are none of the commands below it.
use Rattle.command_words.proofs.Common.{rules, ap₂, codes, false, refl, ◌≡◌, ◌∙◌, IfOk-weaker, app_of, new_app, rule_of, with_rule, fields_of, cells_rule, seed_rule}
use Rattle.command_words.proofs.program.demo_line.Goals as goal

pub returns-clause-shape : goal.returns-clause-shape
returns-clause-shape c =
    let seed_is : rule_of c.action-seed.result ≡ seed_rule = search rules in
    let cells_is : rule_of c.action-cells.result ≡ cells_rule = search rules in
    let with_seed : app_of c.in_ok-arg.field-0 ≡ with_rule (new_app (codes "demo")) seed_rule = c.in_ok-arg.ensures.shape (search rules) ∙ ap₂ with_rule c.new-3.ensures.app seed_is in
    IfOk-weaker c.arg-2.result _ _ (λ r adds. adds.shape (search rules) ∙ ap₂ with_rule with_seed cells_is) c.arg-2.ensures

pub returns-clause-local : goal.returns-clause-local
returns-clause-local c =
    let own : c.action-seed.result.global ≡ false = search rules in
    let other : c.action-cells.result.global ≡ false = search rules in
    let first : (fields_of c.in_ok-arg.field-0).has_globals ≡ false = c.in_ok-arg.ensures.globals ∙ rw (c.new-3.ensures.local, own) refl in
    IfOk-weaker c.arg-2.result _ _ (λ r adds. adds.globals ∙ rw (first, other) refl) c.arg-2.ensures
