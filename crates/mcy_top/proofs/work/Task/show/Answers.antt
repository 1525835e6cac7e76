use Rattle.mcy_top.proofs.Common.{ℕ, List, subst, sym, Entry, groups, done_outcome, Delivers, misses, book_of, text_of}
use Rattle.mcy_top.proofs.Doing.{done_carried}
use Rattle.mcy_top.proofs.Kept.{misses_history, reads_not_init, text_of_history, work_refused, work_told}
use Rattle.mcy_top.proofs.Working.{ending_ends}
use Rattle.mcy_top.proofs.work.Task.show.Goals as goal

pub returns-in-Ok-clause-work : goal.returns-in-Ok-clause-work
returns-in-Ok-clause-work g c tells n aim =
    rw (c.outcome.ensures, c.done_outcome.ensures) (work_told (g.K.Keeper.holds c.args.keeper.now) (g.K.Keeper.leaves c.args.keeper.now) (g.O.Sink.written c.args.out.now) (g.O.Sink.written c.tell.new.out) n c.args.command aim c.args.self.now.prepared.now c.args.loaded.now (misses c.args.command c.args.self.now.prepared.now (groups c.args.self.now.prepared.now.campaign c.in-Ok.state.rows)) c.tell.result c.requires.reads c.requires.plan c.in-Ok.ensures.form (c.requires.kept tells)
    (misses_history c.args.command c.args.self.now.prepared.now c.args.loaded.now c.in-Ok.state.rows c.requires.plan c.in-Ok.ensures.form c.in-Ok.ensures.state.rows_are)
    (subst (λ (text : List ℕ). Delivers (g.O.Sink.written c.args.out.now) (g.O.Sink.written c.tell.new.out) text c.tell.result) (sym (text_of_history c.args.command c.args.self.now.prepared.now c.args.loaded.now c.requires.plan c.in-Ok.ensures.form))
    (subst (λ (rows : List Entry). Delivers (g.O.Sink.written c.args.out.now) (g.O.Sink.written c.tell.new.out) (text_of c.args.command c.args.self.now.prepared.now (book_of c.args.self.now.prepared.now rows)) c.tell.result) c.in-Ok.ensures.state.rows_are c.tell.ensures.wrote)))

pub returns-in-Ok-clause-ends : goal.returns-in-Ok-clause-ends
returns-in-Ok-clause-ends g c =
    let missed = misses c.args.command c.args.self.now.prepared.now (groups c.args.self.now.prepared.now.campaign c.in-Ok.state.rows) in
    rw (c.outcome.ensures, c.done_outcome.ensures) (ending_ends (g.O.Sink.written c.args.out.now) (g.O.Sink.written c.tell.new.out) (g.K.Keeper.faults c.args.keeper.now) (g.K.Keeper.faults c.args.keeper.now) (g.O.Sink.faults c.args.out.now) (g.O.Sink.faults c.tell.new.out)
    (text_of c.args.command c.args.self.now.prepared.now (book_of c.args.self.now.prepared.now c.in-Ok.state.rows)) (done_outcome missed) c.tell.result (done_carried missed) c.tell.ensures.wrote c.tell.ensures.cause)

pub returns-in-Err-clause-work : goal.returns-in-Err-clause-work
returns-in-Err-clause-work g c tells n aim =
    rw c.into_outcome.ensures (work_refused (g.K.Keeper.holds c.args.keeper.now) (g.K.Keeper.leaves c.args.keeper.now) (g.O.Sink.written c.args.out.now) n c.args.command aim c.args.self.now.prepared.now c.args.loaded.now c.in-Err.refusal (c.requires.kept tells) (c.in-Err.ensures.refused c.args.command aim (reads_not_init c.args.command c.requires.reads)))
