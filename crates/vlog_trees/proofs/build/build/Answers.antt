use Rattle.vlog_trees.proofs.Common.{◌≡◌, ◌∷◌, ℕ, ◌+◌, ◌-◌, drop, ap, ◌∙◌, arith, drop_more, Step, Begin, run}
use Rattle.vlog_trees.proofs.Sorted.{parts_sorted}
use Rattle.vlog_trees.proofs.build.build.Goals as goal

pub apply-requires : goal.apply-requires
apply-requires c =
    let at : ℕ = c.loop-i.i - 1 in
    let next : c.loop-i.i ≡ at + 1 = omega (arith, c.loop-i-test.true) in
    let here : drop at c.args.steps.now ≡ Begin c.in-Begin.rule ∷ drop (at + 1) c.args.steps.now =
    drop_more c.args.steps.now at _ (omega (arith, c.loop-i-test.true, c.loop-i.auto.i)) ∙ ap (λ (s : Step). s ∷ drop (at + 1) c.args.steps.now) c.in-Begin.is in
    parts_sorted c.args.tokens.now c.args.steps.now c.requires.0 at c.in-Begin.rule c.loop-i.values c.requires.1 here (c.loop-i.invariant ∙ ap (λ (n : ℕ). run c.args.tokens.now (drop n c.args.steps.now)) next)
