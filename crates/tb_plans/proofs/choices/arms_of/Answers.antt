use Rattle.tb_plans.proofs.Common.{List, subst, Expr, names_of, labels_whole_at, labels_within_at, IsArmOf, IsItemArm, OfArm}
use Rattle.tb_plans.proofs.Zips.{zip_more}
use Rattle.tb_plans.proofs.choices.arms_of.Goals as goal

pub arm_of-requires-clause-whole : goal.arm_of-requires-clause-whole
arm_of-requires-clause-whole c = labels_whole_at (names_of c.args.scope.now) c.args.items.now c.loop-item.item-index c.item-item.result c.as_slice.result.now c.item-item.is c.loop-item-test.true c.as_slice.ensures c.requires.whole

pub arm_of-requires-clause-within : goal.arm_of-requires-clause-within
arm_of-requires-clause-within c = labels_within_at (names_of c.args.scope.now) c.args.size c.args.items.now c.loop-item.item-index c.item-item.result c.as_slice.result.now c.item-item.is c.loop-item-test.true c.as_slice.ensures c.requires.within

pub loop-item-preserved : goal.loop-item-preserved
loop-item-preserved c =
    zip_more (IsItemArm (names_of c.args.scope.now) c.args.kind c.args.size) c.args.items.now c.loop-item.found c.push.new.self c.loop-item.item-index c.item-item.result c.in-Some.arm c.item-item.is c.loop-item-test.true c.loop-item.invariant
    (subst (λ (ls : List Expr). IsArmOf (names_of c.args.scope.now) c.args.kind c.args.size ls c.in-Some.arm) c.as_slice.ensures (subst (OfArm (names_of c.args.scope.now) c.args.kind c.args.size c.as_slice.result.now) c.in-Some.is c.in_ok-arm.ensures))
    c.in_ok-push-in-Some.ensures.ok
