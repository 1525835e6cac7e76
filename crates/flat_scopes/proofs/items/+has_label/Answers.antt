use Rattle.flat_scopes.proofs.Labels.{either_label}
use Rattle.flat_scopes.proofs.items.+has_label.Goals as goal

pub returns-in-Some : goal.returns-in-Some
returns-in-Some t c = either_label c.args.item.now c.in-IfGenerate.first c.in-Some.second c.get.result.now c.get-in-Some.result.now c.in-IfGenerate.second c.in-IfGenerate.field-0 c.in-IfGenerate.field-1 c.args.name.now c.in-IfGenerate.is c.in-Some.is c.get.ensures c.get-in-Some.ensures c.has_label-found.result c.has_label.result c.either.result c.has_label-found.ensures c.has_label.ensures c.either.ensures
