use Rattle.project_options.proofs.Common.{List, ℕ, rules, tests, YieldsList-from_slice, any_from_yields_List, is_within}
use Rattle.project_options.proofs.instances.is_within_some.Goals as goal

pub returns : goal.returns
returns c = any_from_yields_List (λ (instance : List ℕ). is_within instance c.args.name.now) _ _ c.any.result c.any.ensures.ran (YieldsList-from_slice c.args.instances.now cc) (λ x b q k. search (rules, tests))
