-- The values of the options are those of the rows.
use Rattle.command_words.proofs.Common.{codes, ◌∙◌, IfOk-weaker, found_of, first_value-rows, run_by}
use Rattle.command_words.proofs.reading.run_found.Goals as goal

pub returns : goal.returns
returns c =
    let jobs = c.get_str.ensures ∙ first_value-rows (found_of c.args.found.now) (codes "jobs") in
    let stop = c.get_str-2.ensures ∙ first_value-rows (found_of c.args.found.now) (codes "stop-after") in
    let retry = c.get_str-3.ensures ∙ first_value-rows (found_of c.args.found.now) (codes "retry") in
    let mutations = c.get_str-4.ensures ∙ first_value-rows (found_of c.args.found.now) (codes "mutations") in
    IfOk-weaker c.run_by.result _ _ (λ r e. e ∙ (λ i. run_by (jobs i) (stop i) (retry i) (mutations i))) c.run_by.ensures
