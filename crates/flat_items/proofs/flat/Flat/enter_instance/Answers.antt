use Rattle.flat_items.proofs.Common.{List, ℕ, ap, ◌∙◌, ◌∷◌, opened_of, place_of, flat_of}
use Rattle.flat_items.proofs.Rules.{instance_places}
use Rattle.flat_items.proofs.flat.Flat.enter_instance.Goals as goal

pub returns : goal.returns
returns c =
    let e = c.in_ok-entered.entered in
    instance_places c.args.modules.now c.args.number c.args.place c.args.placing.now (flat_of c.args.self.now) (flat_of c.take_signals-signals.new.self) (flat_of c.list_all.new.self) (flat_of c.enter.new.self) c.in_ok-tasks.tasks.items (place_of c.in-Some.around.now) c.in-Some-numbered.declaration.now (opened_of e.child) e.items.items c.take_signals-signals.result.items e.prefix c.in_ok-within.within.items c.in_ok-inside.inside
    c.in_ok-inside.ensures c.take_signals-signals.ensures.signals c.take_signals-signals.ensures.taken c.in-Some.ensures c.in-Some-numbered.ensures (c.in_ok-within.ensures ∙ ap (λ (l : List ℕ). c.args.number ∷ l) c.as_slice.ensures.value)
    c.in_ok-entered.ensures.opens c.in_ok-entered.ensures.prefix c.in_ok-list_all.ensures c.in_ok-tasks.ensures.tasks c.in_ok-tasks.ensures.entered
