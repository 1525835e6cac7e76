use Rattle.mcy_top.proofs.Limiting.{book_ends, book_not_carried, unfit_ends, unfit_work}
use Rattle.mcy_top.proofs.Kept.{work_refused}
use Rattle.mcy_top.proofs.work.Task.refuse.Goals as goal

pub takes-requires-clause-opens : goal.takes-requires-clause-opens
takes-requires-clause-opens g c = c.requires.unfit.0

pub returns-in-Ok-clause-work : goal.returns-in-Ok-clause-work
returns-in-Ok-clause-work g c tells written n =
    unfit_work (g.K.Keeper.holds c.args.keeper.now) (g.K.Keeper.leaves c.args.keeper.now) written n c.args.command c.args.goal.now c.args.self.now.prepared.now c.args.loaded.now (c.requires.kept tells) c.requires.unfit c.in-Ok.ensures.taken

pub returns-in-Ok-clause-ends : goal.returns-in-Ok-clause-ends
returns-in-Ok-clause-ends g c written keeper sink = unfit_ends written keeper sink

pub returns-in-Err-clause-work : goal.returns-in-Err-clause-work
returns-in-Err-clause-work g c tells written n =
    rw c.into_outcome.ensures (work_refused (g.K.Keeper.holds c.args.keeper.now) (g.K.Keeper.leaves c.args.keeper.now) written n c.args.command c.args.goal.now c.args.self.now.prepared.now c.args.loaded.now c.in-Err.refusal (c.requires.kept tells) c.in-Err.ensures.refused)

pub returns-in-Err-clause-ends : goal.returns-in-Err-clause-ends
returns-in-Err-clause-ends g c written keeper sink = rw c.into_outcome.ensures (book_ends written keeper sink c.in-Err.refusal)

pub returns-in-Err-clause-stays : goal.returns-in-Err-clause-stays
returns-in-Err-clause-stays g c carried = book_not_carried c.in-Err.refusal (rw c.into_outcome.ensures at carried)
