use Rattle.std.proofs.Common.{rules, tests, ◌∙◌}
use Rattle.std.proofs.lemmas.Iterator.{YieldsList-from_slice}
use Rattle.std.proofs.lemmas.Iterator.Consumers.{count_from_yields_List}
use Rattle.std.proofs.lemmas.Iterator.Search.{YieldsList-from_take_while}
use Rattle.std.proofs.lemmas.List.Folds.{length-prefix_len}
use Rattle.outcome_hints.specs.Changes.{is_of_name}
use Rattle.outcome_hints.proofs.book.name_len.Goals as goal

pub returns : goal.returns
returns c = count_from_yields_List c.take_while.result c.count-len.result c.count-len.ensures.ran (YieldsList-from_take_while _ is_of_name (YieldsList-from_slice c.args.item.now cc) c.take_while.ensures.closure c.take_while.ensures.done (λ x b q k. search (rules, tests))) ∙ length-prefix_len is_of_name c.args.item.now
