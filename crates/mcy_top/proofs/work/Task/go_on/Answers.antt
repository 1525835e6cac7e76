use Rattle.mcy_top.proofs.Common.{◌≡◌, Init, Command, Work}
use Rattle.mcy_top.specs.declared.refusal.BookRefusal.TheVariants.{AlreadyBegun}
use Rattle.mcy_top.proofs.Aiming.{run_runs, run_so, tells_only}
use Rattle.mcy_top.proofs.Kept.{work_refused}
use Rattle.mcy_top.proofs.work.Task.go_on.Goals as goal

pub returns-in-Init-clause-work : goal.returns-in-Init-clause-work
returns-in-Init-clause-work g c tells =
    let at = c.in-Init.is in
    let is : c.args.command ≡ Init = cc in
    work_refused (g.K.Keeper.holds c.args.keeper.now) (g.K.Keeper.leaves c.args.keeper.now) (g.O.Sink.written c.args.out.now) c.args.steps.now c.args.command c.args.goal.now c.args.self.now.prepared.now c.args.loaded.now AlreadyBegun (c.requires.kept tells) (c.requires.begun, is)

pub resume-requires-clause-limit : goal.resume-requires-clause-limit
resume-requires-clause-limit g c = c.requires.limit (run_runs c.args.command _ _ _ c.in-Run.is)

pub returns-in-Run-clause-work : goal.returns-in-Run-clause-work
returns-in-Run-clause-work g c tells =
    run_so c.args.command _ _ _ (λ (d : Command). Work (g.K.Keeper.leaves c.resume.new.keeper) (g.O.Sink.written c.args.out.now) (g.O.Sink.written c.resume.new.out) c.args.steps.now c.resume.new.steps d c.args.goal.now c.args.self.now.prepared.now c.args.loaded.now c.resume.result)
    c.in-Run.is (c.resume.ensures.work tells)

pub show-requires-clause-reads : goal.show-requires-clause-reads
show-requires-clause-reads g c = tells_only c.args.command c.requires.book c.in-List.is
