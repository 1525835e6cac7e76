-- The options of `run`, which are none of the commands below it.
use Rattle.command_words.proofs.Common.{rules, ap₂, codes, false, refl, ◌≡◌, ◌∙◌, IfOk-weaker, app_of, new_app, rule_of, with_rule, fields_of, jobs_rule, mutations_rule, retry_rule, stop_rule}
use Rattle.command_words.proofs.program.run_line.Goals as goal

pub returns-clause-shape : goal.returns-clause-shape
returns-clause-shape c =
    let jobs_is : rule_of c.action-jobs.result ≡ jobs_rule = search rules in
    let stop_is : rule_of c.action-stop_after.result ≡ stop_rule = search rules in
    let retry_is : rule_of c.action-retry.result ≡ retry_rule = search rules in
    let mutations_are : rule_of c.action-mutations.result ≡ mutations_rule = search rules in
    let with_jobs : app_of c.in_ok-arg.field-0 ≡ with_rule (new_app (codes "run")) jobs_rule = c.in_ok-arg.ensures.shape (search rules) ∙ ap₂ with_rule c.new-5.ensures.app jobs_is in
    let with_stop : app_of c.in_ok-arg-2.field-0 ≡ with_rule (with_rule (new_app (codes "run")) jobs_rule) stop_rule = c.in_ok-arg-2.ensures.shape (search rules) ∙ ap₂ with_rule with_jobs stop_is in
    let with_retry : app_of c.in_ok-arg-3.field-0 ≡ with_rule (with_rule (with_rule (new_app (codes "run")) jobs_rule) stop_rule) retry_rule = c.in_ok-arg-3.ensures.shape (search rules) ∙ ap₂ with_rule with_stop retry_is in
    IfOk-weaker c.arg-4.result _ _ (λ r adds. adds.shape (search rules) ∙ ap₂ with_rule with_retry mutations_are) c.arg-4.ensures

pub returns-clause-local : goal.returns-clause-local
returns-clause-local c =
    let own : c.action-jobs.result.global ≡ false = search rules in
    let other : c.action-stop_after.result.global ≡ false = search rules in
    let next : c.action-retry.result.global ≡ false = search rules in
    let last : c.action-mutations.result.global ≡ false = search rules in
    let first : (fields_of c.in_ok-arg.field-0).has_globals ≡ false = c.in_ok-arg.ensures.globals ∙ rw (c.new-5.ensures.local, own) refl in
    let second : (fields_of c.in_ok-arg-2.field-0).has_globals ≡ false = c.in_ok-arg-2.ensures.globals ∙ rw (first, other) refl in
    let third : (fields_of c.in_ok-arg-3.field-0).has_globals ≡ false = c.in_ok-arg-3.ensures.globals ∙ rw (second, next) refl in
    IfOk-weaker c.arg-4.result _ _ (λ r adds. adds.globals ∙ rw (third, last) refl) c.arg-4.ensures
