use Rattle.mcy_top.proofs.Common.{◌∙◌, ℕ, List, subst, refl, Result, OnErr, KeepError, blank, LeavesEither, opened, Init, NoMemory, Delivers}
use Rattle.mcy_top.proofs.Kept.{begin_left, work_init, work_unopened}
use Rattle.mcy_top.proofs.work.Task.init.Goals as goal

pub returns-in-Err-clause-work : goal.returns-in-Err-clause-work
returns-in-Err-clause-work g c tells n aim =
    rw c.failed.ensures (work_unopened (g.K.Keeper.leaves c.begin.new.self) (g.O.Sink.written c.args.out.now) n Init aim c.args.self.now.prepared.now c.in-Err.error c.requires.plan (λ h. h) refl
    (subst (λ (r : Result (Unit {0}) KeepError). OnErr r (LeavesEither (g.K.Keeper.leaves c.begin.new.self) blank (opened c.args.self.now.prepared.now))) c.in-Err.is
    (begin_left (g.K.Keeper.holds c.args.keeper.now) (g.K.Keeper.leaves c.args.keeper.now) (g.K.Keeper.leaves c.begin.new.self) c.begin.result c.args.self.now.prepared.now (c.requires.kept (c.begin.ensures.tells tells)) (c.begin.ensures.either tells) (c.begin.ensures.refused tells))))

pub returns-in-Ok-begun_text-clause-work : goal.returns-in-Ok-begun_text-clause-work
returns-in-Ok-begun_text-clause-work g c tells n aim =
    let kept = c.requires.kept (c.in-Ok.ensures.tells tells) in
    rw c.outcome.ensures (work_init (g.K.Keeper.holds c.begin.new.self) (g.K.Keeper.leaves c.begin.new.self) (g.O.Sink.written c.args.out.now) (g.O.Sink.written c.deliver.new.out) n aim c.args.self.now.prepared.now c.deliver.result c.requires.plan (c.in-Ok.ensures.done tells blank kept.told)
    (subst (λ (text : List ℕ). Delivers (g.O.Sink.written c.args.out.now) (g.O.Sink.written c.deliver.new.out) text c.deliver.result) (c.as_bytes.ensures.value ∙ c.in-Ok-begun_text.ensures) c.deliver.ensures.wrote))

pub returns-in-Err-begun_text-clause-work : goal.returns-in-Err-begun_text-clause-work
returns-in-Err-begun_text-clause-work g c tells n aim =
    let kept = c.requires.kept (c.in-Ok.ensures.tells tells) in
    work_init (g.K.Keeper.holds c.begin.new.self) (g.K.Keeper.leaves c.begin.new.self) (g.O.Sink.written c.args.out.now) (g.O.Sink.written c.args.out.now) n aim c.args.self.now.prepared.now NoMemory c.requires.plan (c.in-Ok.ensures.done tells blank kept.told) refl
