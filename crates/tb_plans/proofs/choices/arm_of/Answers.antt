use Rattle.tb_plans.proofs.Common.{subst, names_of, within_at, IsLabelOf, OfValue}
use Rattle.tb_plans.proofs.Zips.{zip_more}
use Rattle.tb_plans.proofs.choices.arm_of.Goals as goal

pub value_of-requires-clause-context : goal.value_of-requires-clause-context
value_of-requires-clause-context c = within_at (names_of c.args.scope.now) c.args.size c.args.labels.now c.loop-label.label-index c.label-item.result c.label-item.is c.loop-label-test.true c.requires.within

pub loop-label-preserved : goal.loop-label-preserved
loop-label-preserved c =
    zip_more (IsLabelOf (names_of c.args.scope.now) c.args.kind c.args.size) c.args.labels.now c.loop-label.found c.push.new.self c.loop-label.label-index c.label-item.result (record { value = c.in-Some.value; ignored = c.dont_care-ignored.result }) c.label-item.is c.loop-label-test.true c.loop-label.invariant
    (record { value = subst (OfValue (names_of c.args.scope.now) c.label-item.result c.args.size) c.in-Some.is c.in_ok-value.ensures; ignored = c.dont_care-ignored.ensures })
    c.in_ok-push-in-Some.ensures.ok
