use Rattle.flat_scopes.proofs.Common.{◌∙◌, ap, IfOk-weaker, PlainItem, Lists, step, opened_of}
use Rattle.flat_scopes.proofs.opening.Opening.list.Goals as goal

pub returns : goal.returns
returns c = IfOk-weaker c.step.result _ _ (λ done h. h ∙ ap (λ (x : PlainItem). step (opened_of c.args.self.now) (Lists x)) (c.in_ok-item.ensures ∙ c.of.ensures)) c.step.ensures
