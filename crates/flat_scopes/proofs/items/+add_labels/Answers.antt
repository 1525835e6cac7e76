use Rattle.flat_scopes.proofs.Common.{IfOk-weaker}
use Rattle.flat_scopes.proofs.Labels.{both_merged}
use Rattle.flat_scopes.proofs.items.+add_labels.Goals as goal

pub returns-in-Some : goal.returns-in-Some
returns-in-Some t c = IfOk-weaker c.add_labels-in-Some.result _ _ (λ done h. both_merged c.args.labels.now.items c.add_labels.new.labels.items c.add_labels-in-Some.new.labels.items c.args.item.now c.in-IfGenerate.first c.in-Some.second c.get.result.now c.get-in-Some.result.now c.in-IfGenerate.second c.in-IfGenerate.field-0 c.in-IfGenerate.field-1 c.in-IfGenerate.is c.in-Some.is c.get.ensures c.get-in-Some.ensures c.in_ok-add_labels-in-IfGenerate.ensures h) c.add_labels-in-Some.ensures
