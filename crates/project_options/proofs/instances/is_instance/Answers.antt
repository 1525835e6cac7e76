use Rattle.project_options.proofs.Common.{lit<, rules, tests, all_from_yields_List, is_inner_name, is_instance}
use Rattle.std.proofs.lemmas.Iterator.Splits.{YieldsList-from_str_split}
use Rattle.project_options.proofs.instances.is_instance.Goals as goal

pub returns : goal.returns
unfolding is_instance
returns c =
    all_from_yields_List is_inner_name _ _ c.all.result c.all.ensures.ran
    (YieldsList-from_str_split 46 c.args.word.now (lit< tt) c.split.ensures.text c.split.ensures.has_more c.split.ensures.pattern) (λ x b q k. search (rules, tests))
