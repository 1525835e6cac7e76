use Rattle.site_texts.proofs.Common.{ℕ, List, arith, length-drop, subst, take_rest, IsCharacter, Whole, Cut}
use Rattle.site_texts.proofs.Characters.{no_solid}
use Rattle.site_texts.proofs.Fronts.{front_all, front_cut, front_more}
use Rattle.site_texts.proofs.name.front_of.Goals as goal

pub loop-whole-init : goal.loop-whole-init
loop-whole-init c = (omega arith, no_solid)

pub overflow_add-whole : goal.overflow_add-whole
overflow_add-whole c = let char = (subst (λ (t : List ℕ). IsCharacter t (Whole c.in-Whole.len)) (take_rest c.args.text.now c.loop-whole.whole) c.in-Whole.ensures) in omega (arith, char.1, length-drop c.loop-whole.whole c.args.text.now)

pub loop-whole-smaller : goal.loop-whole-smaller
loop-whole-smaller c = let char = (subst (λ (t : List ℕ). IsCharacter t (Whole c.in-Whole.len)) (take_rest c.args.text.now c.loop-whole.whole) c.in-Whole.ensures) in omega (arith, char.0, char.1, length-drop c.loop-whole.whole c.args.text.now)

pub loop-whole-preserved : goal.loop-whole-preserved
loop-whole-preserved c = let char = (subst (λ (t : List ℕ). IsCharacter t (Whole c.in-Whole.len)) (take_rest c.args.text.now c.loop-whole.whole) c.in-Whole.ensures) in
    (omega (arith, char.1, length-drop c.loop-whole.whole c.args.text.now), front_more c.args.text.now c.loop-whole.whole c.in-Whole.len (omega arith) c.loop-whole.invariant.1 char)

pub overflow_add-result : goal.overflow_add-result
overflow_add-result c = let char = (subst (λ (t : List ℕ). IsCharacter t (Cut c.in-Cut.at)) (take_rest c.args.text.now c.loop-whole.whole) c.in-Cut.ensures) in omega (arith, char.0.within, length-drop c.loop-whole.whole c.args.text.now)

pub returns-in-Cut : goal.returns-in-Cut
returns-in-Cut c = front_cut c.args.text.now c.loop-whole.whole c.in-Cut.at (omega arith) c.loop-whole.invariant.1 (subst (λ (t : List ℕ). IsCharacter t (Cut c.in-Cut.at)) (take_rest c.args.text.now c.loop-whole.whole) c.in-Cut.ensures)

pub returns : goal.returns
returns c = front_all c.args.text.now c.loop-whole.whole (omega arith) (omega arith) c.loop-whole.invariant.1
