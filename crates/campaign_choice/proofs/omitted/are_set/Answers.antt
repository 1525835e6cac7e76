use Rattle.campaign_choice.proofs.Common.{Bool, rules, tests, YieldsList-from_slice, all_from_yields_List}
use Rattle.campaign_choice.proofs.omitted.are_set.Goals as goal

pub returns : goal.returns
returns c = all_from_yields_List (λ (flag : Bool). flag) _ _ c.all.result c.all.ensures.ran (YieldsList-from_slice c.args.flags.now cc) (λ x b q k. search (rules, tests))
