use Rattle.mcy_top.proofs.Common.{refl, None, Memory, Run, status_text, plan_fit, book_of, run_outcome}
use Rattle.mcy_top.proofs.Runs.{begins, state_is, work_torn, work_turned, Begins}
use Rattle.mcy_top.proofs.Kept.{work_kept}
use Rattle.mcy_top.proofs.Working.{ending_ends, run_carried}
use Rattle.mcy_top.proofs.work.Task.run.Goals as goal

pub new-tester-requires : goal.new-tester-requires
new-tester-requires g c = record { plan = c.requires.plan; limit = c.requires.limit }

pub new-requires-clause-fit : goal.new-requires-clause-fit
new-requires-clause-fit g c = plan_fit c.args.self.now.prepared.now c.requires.plan

-- without memory for a core the book stays
pub returns-in_default-clause-work : goal.returns-in_default-clause-work
returns-in_default-clause-work g c tells retry =
    work_kept (g.K.Keeper.holds c.args.keeper.now) (g.K.Keeper.leaves c.args.keeper.now) (g.O.Sink.written c.args.out.now) (g.O.Sink.written c.args.out.now) c.args.steps.now (Run c.args.jobs c.args.stop_after retry) c.args.goal.now c.args.self.now.prepared.now
    (book_of c.args.self.now.prepared.now c.args.state.rows) Memory (c.requires.kept tells) refl tt (λ h. absurd h) (λ h. absurd h)

pub report-requires-clause-state : goal.report-requires-clause-state
report-requires-clause-state g c =
    let b : Begins c.args.self.now.prepared.now c.args.goal.now c.args.jobs c.args.state c.in-Ok.core =
    begins c.args.self.now.prepared.now c.args.goal.now c.args.jobs c.args.state c.new-tester.result c.in-Ok.core c.requires.plan c.requires.goal c.requires.named c.requires.state c.new-tester.ensures c.in-Ok.ensures.new c.in-Ok.ensures.order in
    state_is c.args.self.now.prepared.now c.args.goal.now c.args.jobs c.args.stop_after None c.args.state c.in-Ok.core b c.run.new.self c.state.result.now c.in-Ok-run.ensures.ran c.state.ensures.same c.state.ensures.form

pub run_outcome-requires-clause-state : goal.run_outcome-requires-clause-state
run_outcome-requires-clause-state g c =
    let b : Begins c.args.self.now.prepared.now c.args.goal.now c.args.jobs c.args.state c.in-Ok.core =
    begins c.args.self.now.prepared.now c.args.goal.now c.args.jobs c.args.state c.new-tester.result c.in-Ok.core c.requires.plan c.requires.goal c.requires.named c.requires.state c.new-tester.ensures c.in-Ok.ensures.new c.in-Ok.ensures.order in
    state_is c.args.self.now.prepared.now c.args.goal.now c.args.jobs c.args.stop_after None c.args.state c.in-Ok.core b c.run.new.self c.state-in-Ok-run.result.now c.in-Ok-run.ensures.ran c.state-in-Ok-run.ensures.same c.state-in-Ok-run.ensures.form

pub returns-in-Ok-run-clause-work : goal.returns-in-Ok-run-clause-work
returns-in-Ok-run-clause-work g c tells retry =
    let b : Begins c.args.self.now.prepared.now c.args.goal.now c.args.jobs c.args.state c.in-Ok.core =
    begins c.args.self.now.prepared.now c.args.goal.now c.args.jobs c.args.state c.new-tester.result c.in-Ok.core c.requires.plan c.requires.goal c.requires.named c.requires.state c.new-tester.ensures c.in-Ok.ensures.new c.in-Ok.ensures.order in
    rw (c.outcome.ensures, c.run_outcome.ensures) (work_turned c.args.self.now.prepared.now c.args.goal.now c.args.jobs c.args.stop_after retry c.args.state c.in-Ok.core b
    (g.K.Keeper.holds c.run.new.keeper) (g.K.Keeper.leaves c.run.new.keeper) (g.O.Sink.written c.args.out.now) (g.O.Sink.written c.report.new.out) c.args.steps.now c.run.new.steps c.run.new.self c.state.result.now c.state-in-Ok-run.result.now c.report.result
    c.in-Ok-run.ensures.ran c.run.ensures.steps (c.in-Ok-run.ensures.kept tells) c.state.ensures.same c.state-in-Ok-run.ensures.same c.report.ensures.wrote)

pub returns-in-Ok-run-clause-ends : goal.returns-in-Ok-run-clause-ends
returns-in-Ok-run-clause-ends g c =
    rw (c.outcome.ensures, c.run_outcome.ensures) (ending_ends (g.O.Sink.written c.args.out.now) (g.O.Sink.written c.report.new.out) (g.K.Keeper.faults c.args.keeper.now) (g.K.Keeper.faults c.run.new.keeper) (g.O.Sink.faults c.args.out.now) (g.O.Sink.faults c.report.new.out)
    (status_text c.args.self.now.prepared.now.campaign c.state.result.now.rows) (run_outcome c.args.self.now.prepared.now c.args.goal.now c.state-in-Ok-run.result.now.rows) c.report.result (run_carried c.args.self.now.prepared.now c.args.goal.now c.state-in-Ok-run.result.now.rows) c.report.ensures.wrote c.report.ensures.cause)

pub returns-clause-work : goal.returns-clause-work
returns-clause-work g c tells retry =
    let b : Begins c.args.self.now.prepared.now c.args.goal.now c.args.jobs c.args.state c.in-Ok.core =
    begins c.args.self.now.prepared.now c.args.goal.now c.args.jobs c.args.state c.new-tester.result c.in-Ok.core c.requires.plan c.requires.goal c.requires.named c.requires.state c.new-tester.ensures c.in-Ok.ensures.new c.in-Ok.ensures.order in
    rw c.broken.ensures (work_torn c.args.self.now.prepared.now c.args.goal.now c.args.jobs c.args.stop_after retry c.args.state c.in-Ok.core b
    (g.K.Keeper.leaves c.run.new.keeper) (g.O.Sink.written c.args.out.now) c.args.steps.now c.run.new.steps c.run.new.self c.in-Err.error (c.in-Err.ensures.left tells) c.run.ensures.steps)
