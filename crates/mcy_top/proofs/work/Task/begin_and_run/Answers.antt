use Rattle.mcy_top.proofs.Common.{◌≡◌, ℕ, List, Option, None, Some, subst, inl, refl, sym, ◌∙◌, Result, OnErr, Entry, KeepError, blank, LeavesEither, opened, Run, book_of, HasNamed, Work, plan_fit}
use Rattle.mcy_top.proofs.Common.{Memory}
use Rattle.mcy_top.specs.declared.refusal.BookRefusal.TheVariants.{NoMutation}
use Rattle.mcy_top.proofs.Kept.{begin_left, work_kept, work_refused, work_unopened}
use Rattle.mcy_top.proofs.Working.{work_opened}
use Rattle.mcy_top.proofs.work.Task.begin_and_run.Goals as goal

-- no number is one that the campaign lacks
none_lacks : (found : Option ℕ) → ((number : ℕ) → found ≡ Some number → ⊥) → found ≡ None
none_lacks None apart = refl
none_lacks (Some number) apart = absurd (apart number refl)

pub new-requires : goal.new-requires
new-requires g c = plan_fit c.args.self.now.prepared.now c.requires.plan

-- without memory for a state the book stays
pub returns-in_default-new-clause-work : goal.returns-in_default-new-clause-work
returns-in_default-new-clause-work g c tells retry =
    work_kept (g.K.Keeper.holds c.args.keeper.now) (g.K.Keeper.leaves c.args.keeper.now) (g.O.Sink.written c.args.out.now) (g.O.Sink.written c.args.out.now) c.args.steps.now (Run c.args.jobs c.args.stop_after retry) c.args.goal.now c.args.self.now.prepared.now blank Memory (c.requires.kept tells) refl tt (λ h. absurd h) (λ h. absurd h)

-- the goal names a mutation that the campaign has not
pub returns-in-Some-clause-work : goal.returns-in-Some-clause-work
returns-in-Some-clause-work g c tells retry =
    work_refused (g.K.Keeper.holds c.args.keeper.now) (g.K.Keeper.leaves c.args.keeper.now) (g.O.Sink.written c.args.out.now) c.args.steps.now (Run c.args.jobs c.args.stop_after retry) c.args.goal.now c.args.self.now.prepared.now blank (NoMutation c.in-Some.number) (c.requires.kept tells) (tt, inl refl, sym c.lacking.ensures ∙ c.in-Some.is)

pub run-requires-clause-named : goal.run-requires-clause-named
run-requires-clause-named g c = sym c.lacking.ensures ∙ none_lacks c.lacking.result c.in_default.not-Some

pub returns-in-Ok-begin-clause-work : goal.returns-in-Ok-begin-clause-work
returns-in-Ok-begin-clause-work g c tells retry =
    work_opened (g.K.Keeper.leaves c.run.new.keeper) (g.O.Sink.written c.args.out.now) (g.O.Sink.written c.run.new.out) c.args.steps.now c.run.new.steps c.args.jobs c.args.stop_after retry c.args.goal.now c.args.self.now.prepared.now c.run.result c.requires.plan
    (subst (λ (rows : List Entry). Work (g.K.Keeper.leaves c.run.new.keeper) (g.O.Sink.written c.args.out.now) (g.O.Sink.written c.run.new.out) c.args.steps.now c.run.new.steps (Run c.args.jobs c.args.stop_after retry) c.args.goal.now c.args.self.now.prepared.now (book_of c.args.self.now.prepared.now rows) c.run.result) c.in-Ok.ensures.rows_are (c.run.ensures.work tells retry))

pub returns-in-Err-clause-work : goal.returns-in-Err-clause-work
returns-in-Err-clause-work g c tells retry =
    let named : HasNamed c.args.goal.now c.args.self.now.prepared.now = sym c.lacking.ensures ∙ none_lacks c.lacking.result c.in_default.not-Some in
    rw c.failed.ensures (work_unopened (g.K.Keeper.leaves c.begin.new.self) (g.O.Sink.written c.args.out.now) c.args.steps.now (Run c.args.jobs c.args.stop_after retry) c.args.goal.now c.args.self.now.prepared.now c.in-Err.error c.requires.plan (λ h. h) (inl refl, named)
    (subst (λ (r : Result (Unit {0}) KeepError). OnErr r (LeavesEither (g.K.Keeper.leaves c.begin.new.self) blank (opened c.args.self.now.prepared.now))) c.in-Err.is
    (begin_left (g.K.Keeper.holds c.args.keeper.now) (g.K.Keeper.leaves c.args.keeper.now) (g.K.Keeper.leaves c.begin.new.self) c.begin.result c.args.self.now.prepared.now (c.requires.kept (c.begin.ensures.tells tells)) (c.begin.ensures.either tells) (c.begin.ensures.refused tells))))
