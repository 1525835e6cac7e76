use Rattle.mcy_top.proofs.Common.{◌≡◌, ◌∙◌, List, ap, sym, subst, Book, Entry, Keeps, history, IsStateOf, Run, book_of, Work}
use Rattle.mcy_top.proofs.Upgrading.{history_book, work_resumed, work_unmoved}
use Rattle.mcy_top.proofs.Kept.{work_refused}
use Rattle.mcy_top.proofs.work.Task.resume.Goals as goal

pub returns-in-Err-clause-work : goal.returns-in-Err-clause-work
returns-in-Err-clause-work g c tells retry =
    rw c.into_outcome.ensures (work_refused (g.K.Keeper.holds c.args.keeper.now) (g.K.Keeper.leaves c.args.keeper.now) (g.O.Sink.written c.args.out.now) c.args.steps.now (Run c.args.jobs c.args.stop_after retry) c.args.goal.now c.args.self.now.prepared.now c.args.loaded.now c.in-Err.refusal (c.requires.kept tells) (c.in-Err.ensures.refused (Run c.args.jobs c.args.stop_after retry) tt))

pub run-requires-clause-state : goal.run-requires-clause-state
run-requires-clause-state g c = subst (λ (rows : List Entry). IsStateOf c.args.self.now.prepared.now.campaign rows c.in-Ok.state) (sym c.in-Ok.ensures.state.rows_are) c.in-Ok.ensures.state

-- the keeper has the campaign's book with the rows of the history
pub run-requires-clause-kept : goal.run-requires-clause-kept
run-requires-clause-kept g c tells =
    let rows : history c.args.self.now.prepared.now.campaign c.args.loaded.now ≡ book_of c.args.self.now.prepared.now c.in-Ok.state.rows =
    history_book c.args.self.now.prepared.now c.args.loaded.now c.in-Ok.ensures.form ∙ ap (book_of c.args.self.now.prepared.now) (sym c.in-Ok.ensures.state.rows_are) in
    subst (λ (b : Book). Keeps (g.K.Keeper.holds c.upgrade.new.keeper) (g.K.Keeper.leaves c.upgrade.new.keeper) b) rows (c.in-Ok-upgrade.ensures.kept tells)

-- the run goes on from them
pub returns-in-Ok-upgrade-clause-work : goal.returns-in-Ok-upgrade-clause-work
returns-in-Ok-upgrade-clause-work g c tells retry =
    work_resumed (g.K.Keeper.leaves c.run.new.keeper) (g.O.Sink.written c.args.out.now) (g.O.Sink.written c.run.new.out) c.args.steps.now c.run.new.steps c.args.jobs c.args.stop_after retry c.args.goal.now c.args.self.now.prepared.now c.args.loaded.now c.run.result c.requires.plan c.in-Ok.ensures.form
    (subst (λ (rows : List Entry). Work (g.K.Keeper.leaves c.run.new.keeper) (g.O.Sink.written c.args.out.now) (g.O.Sink.written c.run.new.out) c.args.steps.now c.run.new.steps (Run c.args.jobs c.args.stop_after retry) c.args.goal.now c.args.self.now.prepared.now (book_of c.args.self.now.prepared.now rows) c.run.result) c.in-Ok.ensures.state.rows_are (c.run.ensures.work tells retry))

-- an upgrade that failed leaves the book or its history
pub returns-in-Err-upgrade-clause-work : goal.returns-in-Err-upgrade-clause-work
returns-in-Err-upgrade-clause-work g c tells retry =
    rw c.failed.ensures (work_unmoved (g.K.Keeper.leaves c.upgrade.new.keeper) (g.O.Sink.written c.args.out.now) c.args.steps.now c.args.jobs c.args.stop_after retry c.args.goal.now c.args.self.now.prepared.now c.args.loaded.now c.in-Err-upgrade.error c.requires.plan c.in-Ok.ensures.form c.in-Ok.ensures.named (c.in-Err-upgrade.ensures.left tells))
