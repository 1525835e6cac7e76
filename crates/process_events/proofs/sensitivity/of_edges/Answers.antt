use Rattle.std.proofs.Common.{List, arith, sym, ap, ◌∙◌}
use Rattle.vlog_syntax.specs.declared.stmt.EventExpression.{EventExpression}
use Rattle.process_events.specs.Events.{of_edges}
use Rattle.process_events.proofs.Lists.{pair_list}
use Rattle.process_events.proofs.sensitivity.of_edges.Goals as goal

pub returns-in-len2 : goal.returns-in-len2
returns-in-len2 c = c.of_pair.ensures ∙ ap (λ (l : List EventExpression). of_edges c.args.at l c.args.body.now) (sym (pair_list c.args.events.now c.first-item.result c.second-item.result c.first-item.is c.second-item.is (omega arith) (omega arith)))
