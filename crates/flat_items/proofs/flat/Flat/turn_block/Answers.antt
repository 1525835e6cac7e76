use Rattle.flat_items.proofs.Common.{ap, ◌∙◌, GenerateLoop, Names, opened_of, integer_in, turn_name, flat_of}
use Rattle.flat_items.proofs.Rules.{turn_done}
use Rattle.flat_items.proofs.flat.Flat.turn_block.Goals as goal

pub returns : goal.returns
returns c = λ p got.
    let x = c.args.turn in
    turn_done (flat_of c.args.self.now) (flat_of c.open_block.new.self) c.args.place p x (opened_of c.args.child) c.get-3.result.now c.in_ok-tasks.tasks.items c.in_ok-inner.inner.items c.push.new.self.items c.append.new.self.items c.as_str-3.result.now c.as_str.result.now c.in_ok-what.what c.get.result.now c.integer-value.result c.in_ok-next_turn.field-0
    c.in_ok-what.ensures
    (c.as_str.ensures ∙ ap (λ (h : GenerateLoop). h.step_name.name) c.get-head.ensures)
    (c.get.ensures ∙ ap (λ (h : GenerateLoop). h.step) c.get-head.ensures)
    (c.integer-value.ensures ∙ ap (λ (m : Names). integer_in m c.get.result.now) c.scope.ensures)
    (c.as_str-3.ensures ∙ c.in_ok-name.ensures ∙ ap (λ n. turn_name n x.value) c.as_str-2.ensures)
    (c.get-3.ensures ∙ c.get-2.ensures)
    (c.in_ok-inner.ensures p got)
    c.in_ok-next_turn.ensures
    c.in_ok-tasks.ensures
    c.in_ok-push.ensures.items
    c.in_ok-append.ensures.items
