use Rattle.mcy_top.proofs.Common.{refl, blank, Command, Work}
use Rattle.mcy_top.specs.declared.refusal.BookRefusal.TheVariants.{NoCampaign}
use Rattle.mcy_top.proofs.Aiming.{run_runs, run_so, tells_only}
use Rattle.mcy_top.proofs.Kept.{work_refused}
use Rattle.mcy_top.proofs.work.Task.start.Goals as goal

pub begin_and_run-requires-clause-limit : goal.begin_and_run-requires-clause-limit
begin_and_run-requires-clause-limit g c = c.requires.limit (run_runs c.args.command _ _ _ c.in-Run.is)

pub returns-in-Run-clause-work : goal.returns-in-Run-clause-work
returns-in-Run-clause-work g c tells =
    run_so c.args.command _ _ _ (λ (d : Command). Work (g.K.Keeper.leaves c.begin_and_run.new.keeper) (g.O.Sink.written c.args.out.now) (g.O.Sink.written c.begin_and_run.new.out) c.args.steps.now c.begin_and_run.new.steps d c.args.goal.now c.args.self.now.prepared.now blank c.begin_and_run.result)
    c.in-Run.is (c.begin_and_run.ensures.work tells)

-- what only reads finds no campaign in the empty book
pub returns-in-List-clause-work : goal.returns-in-List-clause-work
returns-in-List-clause-work g c tells =
    work_refused (g.K.Keeper.holds c.args.keeper.now) (g.K.Keeper.leaves c.args.keeper.now) (g.O.Sink.written c.args.out.now) c.args.steps.now c.args.command c.args.goal.now c.args.self.now.prepared.now blank NoCampaign (c.requires.kept tells) (refl, tells_only c.args.command c.requires.book c.in-List.is)
