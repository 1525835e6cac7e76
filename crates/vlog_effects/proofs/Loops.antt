-- The turns of a loop, one at a time.
use Rattle.vlog_effects.proofs.Common.{◌≡◌, ℕ, zero, suc, List, [], Option, Some, ◌∙◌, ap, out-LeftSide, Names, constant_of, constant_faults, Done, Refuse, Turns, Flaw, Loop, InNames, followed}
use Rattle.vlog_effects.proofs.Common.{turn_names, flaws_of, step_flaws, name_alone, tested, stepped, turns}

-- where the condition is 0 the loop has ended
pub turns-end : (most : ℕ) (loop : Loop) (body : InNames) (names : Names) (v : ℕ) → constant_of (turn_names loop names v) 1 loop.condition ≡ Some zero → turns most loop body names v ≡ Done
unfolding turns
turns-end zero loop body names v e = ap (λ (o : Option ℕ). tested o (flaws_of (constant_faults (turn_names loop names v) 1 loop.condition)) (Refuse (Turns loop.place) Done)) e
turns-end (suc most) loop body names v e = ap (λ (o : Option ℕ). tested o (flaws_of (constant_faults (turn_names loop names v) 1 loop.condition)) (followed (body (turn_names loop names v)) (stepped (step_flaws loop (turn_names loop names v) (name_alone (out-LeftSide loop.step.left))) (constant_of (turn_names loop names v) loop.width loop.step.value) (flaws_of (constant_faults (turn_names loop names v) loop.width loop.step.value)) (λ next. turns most loop body names next)))) e

-- one turn, and then the ones from the step's value on
pub turns-more : (most : ℕ) (loop : Loop) (body : InNames) (names : Names) (v n next : ℕ) → constant_of (turn_names loop names v) 1 loop.condition ≡ Some (suc n) → step_flaws loop (turn_names loop names v) (name_alone (out-LeftSide loop.step.left)) ≡ [] → constant_of (turn_names loop names v) loop.width loop.step.value ≡ Some next → turns (suc most) loop body names v ≡ followed (body (turn_names loop names v)) (turns most loop body names next)
unfolding turns
turns-more most loop body names v n next e f g =
    ap (λ (o : Option ℕ). tested o (flaws_of (constant_faults (turn_names loop names v) 1 loop.condition)) (followed (body (turn_names loop names v)) (stepped (step_flaws loop (turn_names loop names v) (name_alone (out-LeftSide loop.step.left))) (constant_of (turn_names loop names v) loop.width loop.step.value) (flaws_of (constant_faults (turn_names loop names v) loop.width loop.step.value)) (λ w. turns most loop body names w)))) e ∙
    ap (λ (xs : List Flaw). followed (body (turn_names loop names v)) (stepped xs (constant_of (turn_names loop names v) loop.width loop.step.value) (flaws_of (constant_faults (turn_names loop names v) loop.width loop.step.value)) (λ w. turns most loop body names w))) f ∙
    ap (λ (o : Option ℕ). followed (body (turn_names loop names v)) (stepped [] o (flaws_of (constant_faults (turn_names loop names v) loop.width loop.step.value)) (λ w. turns most loop body names w))) g
