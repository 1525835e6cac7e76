use Rattle.tb_plans.proofs.Common.{subst, names_of, OfValue}
use Rattle.tb_plans.proofs.Arms.{selection_is}
use Rattle.tb_plans.proofs.choices.selection_with.Goals as goal

pub returns-in-Some : goal.returns-in-Some
returns-in-Some c = selection_is (names_of c.args.scope.now) c.args.kind c.args.selector.now c.args.items.now c.args.size (record { selector = c.in-Some.selector; arms = c.args.arms; default = c.default_item-default.result }) c.requires.size (subst (OfValue (names_of c.args.scope.now) c.args.selector.now c.args.size) c.in-Some.is c.in_ok-selector.ensures) c.requires.arms c.default_item-default.ensures
