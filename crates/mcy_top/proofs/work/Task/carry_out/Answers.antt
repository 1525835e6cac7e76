use Rattle.mcy_top.specs.declared.refusal.BookRefusal.TheVariants.{BookBad}
use Rattle.mcy_top.proofs.Kept.{work_refused}
use Rattle.mcy_top.proofs.work.Task.carry_out.Goals as goal

pub returns-then-is_empty-clause-work : goal.returns-then-is_empty-clause-work
returns-then-is_empty-clause-work g c tells =
    work_refused (g.K.Keeper.holds c.args.keeper.now) (g.K.Keeper.leaves c.args.keeper.now) (g.O.Sink.written c.args.out.now) c.args.steps.now c.args.command c.args.goal.now c.args.self.now.prepared.now c.args.loaded.now (BookBad c.stray.result) (c.requires.kept tells) (c.stray.ensures c.args.command c.args.goal.now c.args.self.now.prepared.now)
