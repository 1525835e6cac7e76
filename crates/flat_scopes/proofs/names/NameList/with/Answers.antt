use Rattle.flat_scopes.proofs.Common.{◌∙◌, ap, Identifier}
use Rattle.flat_scopes.proofs.Known.{known_more}
use Rattle.flat_scopes.proofs.names.NameList.with.Goals as goal

pub invariant_of-result : goal.invariant_of-result
invariant_of-result c = known_more c.in_ok-key.key c.args.name c.self.inside.names.items c.push.new.self.items c.self.inside.known c.insert.new.self (c.in_ok-key.ensures.ok ∙ c.as_str.ensures ∙ ap (λ (x : Identifier). x.name) c.get.ensures) c.self.invariant (rw c.in-Ok.is at c.insert.ensures.updates) c.in_ok-push.ensures.items
