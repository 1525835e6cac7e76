use Rattle.mcy_top.proofs.Common.{arith, plan_fit, plan_items}
use Rattle.mcy_top.proofs.work.Task.read_state.Goals as goal

pub check_book-requires-clause-fit : goal.check_book-requires-clause-fit
check_book-requires-clause-fit c = plan_fit c.args.self.now.prepared.now c.requires.plan

pub check_book-requires-clause-few_items : goal.check_book-requires-clause-few_items
check_book-requires-clause-few_items c = omega (arith, plan_items c.args.self.now.prepared.now c.requires.plan)
