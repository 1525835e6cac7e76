use Rattle.flat_items.proofs.Common.{◌≡◌, List, [], ◌∷◌, ◌++◌, sym, ap, ◌∙◌, subst, arith, append-nil, Task, Flattens, flattened, flat_of}
use Rattle.std.proofs.lemmas.Grind.{common_steps}
use Rattle.flat_items.proofs.Rules.{one_replaced}
use Rattle.flat_items.proofs.flat.Flat.run.Goals as goal

pub parts-init : goal.parts-init
parts-init c = λ last h.
    let all : c.put.new.left.items ≡ c.args.tasks.items = c.in_ok-put.ensures ∙ ap (λ (l : List Task). c.args.tasks.items ++ l) c.new-left.ensures.items ∙ append-nil c.args.tasks.items in
    subst (λ (l : List Task). Flattens c.args.modules.now l (flat_of c.args.self.now) last) all h

pub returns-in_default : goal.returns-in_default
returns-in_default c =
    let none : c.parts.left.items ≡ [] = grind (arith, common_steps) in
    c.parts.invariant (flat_of c.parts.self) (subst (λ (l : List Task). Flattens c.args.modules.now l (flat_of c.parts.self) (flat_of c.parts.self)) (sym none) (flattened (flat_of c.parts.self)))

pub parts-preserved : goal.parts-preserved
parts-preserved c = λ last h.
    let first : c.parts.left.items ≡ c.in-Some.task ∷ c.pop_front.new.self.items = c.in-Some.ensures.items in
    c.parts.invariant last (one_replaced c.args.modules.now c.in-Some.task c.in_ok-tasks.tasks.items c.pop_front.new.self.items c.parts.left.items c.put-in-parts.new.left.items (flat_of c.parts.self) (flat_of c.replace.new.self) last c.in_ok-tasks.ensures first c.in_ok-put-2.ensures h)
