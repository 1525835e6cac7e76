use Rattle.vlog_trees.proofs.Common.{List, ap, ◌∙◌, Value, first, modules_of}
use Rattle.vlog_trees.proofs.Runs.{modules_run}
use Rattle.vlog_trees.proofs.build.build_modules.Goals as goal

pub returns : goal.returns
returns c = λ text d are.
    c.into_vec.ensures ∙ c.into_listed.ensures ∙ c.modules.ensures.value
    ∙ ap (λ (vs : List Value). modules_of (first vs)) c.in_ok-values.ensures
    ∙ modules_run c.args.tokens.now c.args.steps.now text d are
