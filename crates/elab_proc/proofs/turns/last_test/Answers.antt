use Rattle.elab_proc.proofs.Common.{◌≡◌, true, false, ℕ, refl, sym, subst, nat_eq, Option, Some, None, not, names_of, nothing, sense, assigned, constant_faults, Steps, tested, flaws_of, Refuse, Turns}
use Rattle.elab_proc.proofs.Common.{Done, LoopTurns, IsFirst, step_refusals}
use Rattle.elab_proc.proofs.TurnLemmas.{failing, constant_stands, test_goes, test_ends, limit_first}
use Rattle.elab_proc.proofs.turns.last_test.Goals as goal

pub returns-in-Err : goal.returns-in-Err
returns-in-Err c =
    let here = names_of c.args.scope.now in
    let x = c.args.condition.now in
    λ comb w. rw c.of_const.ensures (failing comb w here 1 x c.in-Err.error (λ (o : Option ℕ). tested o (flaws_of (constant_faults here 1 x)) (Refuse (Turns c.args.place) Done)) refl c.in-Err.ensures.refused)

pub returns-in-Ok-true : goal.returns-in-Ok-true
returns-in-Ok-true c =
    let here = names_of c.args.scope.now in
    let x = c.args.condition.now in
    let v = (sense here x).value nothing (assigned (sense here x) 1) in
    let a = c.in-Ok-true.field-0-test in
    let b = c.in-Ok-true.ensures.holds in
    let e : true ≡ not (nat_eq v 0) = cc in
    λ comb w. subst (λ (s : Steps). IsFirst (step_refusals comb w s) (Some (LoopTurns c.args.place))) (sym (test_goes here x (Refuse (Turns c.args.place) Done) v (constant_stands here 1 x c.in-Ok-true.ensures.refused) e)) (limit_first comb w c.args.place)

pub returns-in-Ok-false : goal.returns-in-Ok-false
returns-in-Ok-false c =
    let here = names_of c.args.scope.now in
    let x = c.args.condition.now in
    let v = (sense here x).value nothing (assigned (sense here x) 1) in
    let a = c.in-Ok-false.field-0-test in
    let b = c.in-Ok-false.ensures.holds in
    let e : false ≡ not (nat_eq v 0) = cc in
    λ comb w. subst (λ (s : Steps). IsFirst (step_refusals comb w s) None) (sym (test_ends here x (Refuse (Turns c.args.place) Done) v (constant_stands here 1 x c.in-Ok-false.ensures.refused) e)) refl
