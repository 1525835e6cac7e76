use Rattle.campaign_choice.proofs.Common.{rules, tests, YieldsList-from_slice, any_from_yields_List, is_on}
use Rattle.project_file.specs.declared.project.LineRange.{LineRange}
use Rattle.campaign_choice.proofs.omitted.is_on_some.Goals as goal

pub returns : goal.returns
returns c = any_from_yields_List (λ (range : LineRange). is_on c.args.file.now c.args.line range) _ _ c.any.result c.any.ensures.ran (YieldsList-from_slice c.args.ranges.now cc) (λ x b q k. search (rules, tests))
