use Rattle.tb_plans.proofs.Common.{refl, names_of}
use Rattle.tb_assigns.specs.Checks.{can_assign}
use Rattle.tb_assigns.proofs.Checking.{check_can}
use Rattle.tb_plans.proofs.nets.net_plan.Goals as goal

pub transfer_of-requires : goal.transfer_of-requires
transfer_of-requires c = check_can (names_of c.args.scope.now) c.in-Assign.assignment (can_assign (names_of c.args.scope.now) c.in-Assign.assignment) refl (c.requires c.in-Assign.assignment c.in-Assign.is)
