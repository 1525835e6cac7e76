use Rattle.flat_scopes.proofs.Common.{◌∙◌, ℕ, ◌+◌, [], ◌∷◌, ◌++◌, ap, IfOk-weaker, Item, Generates, Opened, opened_of}
use Rattle.flat_scopes.proofs.opening.Opening.number.Goals as goal

pub returns : goal.returns
returns c =
    let o : Opened = opened_of c.args.self.now in
    let made : ℕ → Item → Opened = λ (n : ℕ) (x : Item). record { own = o.own; names = o.names; signals = o.signals; steps = o.steps ++ Generates n x c.args.taken ∷ []; constructs = n } in
    IfOk-weaker c.step.result _ _ (λ done h. h ∙ ap (λ (n : ℕ). made n c.in_ok-item.item) c.in_ok-number.ensures ∙ ap (made (o.constructs + 1)) (c.in_ok-item.ensures ∙ c.of.ensures)) c.step.ensures
