use Rattle.flat_items.proofs.Common.{ap, ◌∙◌, IfOk-weaker, Identifier, what_of}
use Rattle.flat_items.proofs.Naming.{named_by, unnamed_by}
use Rattle.flat_items.proofs.names.block_name.Goals as goal

pub returns-in-Some : goal.returns-in-Some
returns-in-Some c = IfOk-weaker c.copy.result _ _ (λ t h. named_by (what_of c.args.own.now) c.args.number c.args.item.now c.label_of.result t c.label_of.ensures c.in-Some.label c.in-Some.is (h ∙ c.as_str.ensures ∙ ap (λ (x : Identifier). x.name) c.get.ensures)) c.copy.ensures

pub returns-in-None : goal.returns-in-None
returns-in-None c = IfOk-weaker c.free_name.result _ _ (λ t h. unnamed_by (what_of c.args.own.now) c.args.number c.args.item.now c.label_of.result t c.label_of.ensures c.in-None.is h) c.free_name.ensures
