use Rattle.tb_runner.proofs.Common.{List, Stmt, IsCode, HasWatched, MeetsEnd, phases_after, CanGoOn, Simulated, setting, start, StandsIn, IsJob}
use Rattle.tb_turns.specs.Verdicts.{IsVerdict}
use Rattle.tb_runner.proofs.Standing.{is_simulated, not_refused, told_of_each, went_on, next_job, same_simulated}
use Rattle.tb_runner.proofs.job.SimJob.turn.Goals as goal

pub returns-clause-told : goal.returns-clause-told
returns-clause-told c =
    let t = c.self.inside.turns in
    let x : Simulated = is_simulated t.run.bench.now t.run.run.sim.plan.raw c.self.inside.word_seed in
    let job : IsJob x t.limit t.run.run t.phases t.watch = c.self.invariant (rw (← c.self.view_is) at c.requires.going) (not_refused t.refused c.in_ok-verdict.ensures.refused) in
    rw (← c.self.view_is) (told_of_each c.in_ok-verdict.verdict _ (λ (trees : List Stmt) v. IsCode x.bench.code trees → IsVerdict (setting x trees) (start x trees) t.limit t.watch.pass.word t.watch.fail.word v) (λ trees.
    told_of_each c.in_ok-verdict.verdict _ (λ (code : IsCode x.bench.code trees) v. IsVerdict (setting x trees) (start x trees) t.limit t.watch.pass.word t.watch.fail.word v) (λ code. c.in_ok-verdict.ensures.told (setting x trees) (start x trees) (job.at trees code))))

pub returns-clause-none : goal.returns-clause-none
returns-clause-none c =
    let t = c.self.inside.turns in
    let u = c.turn.new.self in
    let x : Simulated = is_simulated t.run.bench.now t.run.run.sim.plan.raw c.self.inside.word_seed in
    let job : IsJob x t.limit t.run.run t.phases t.watch = c.self.invariant (rw (← c.self.view_is) at c.requires.going) (not_refused t.refused c.in_ok-verdict.ensures.refused) in
    rw (← c.self.view_is) (went_on c.in_ok-verdict.verdict x (λ (trees : List Stmt). StandsIn u.run.bench.now u.run.run (setting x trees)) (HasWatched u.watch) (CanGoOn u.run.bench.now u.run.run) u.run.run.phase u.phases t.limit (phases_after t.phases c.args.cycles) (λ (trees : List Stmt). IsVerdict (setting x trees) (start x trees) t.limit t.watch.pass.word t.watch.fail.word) (λ trees code. c.in_ok-verdict.ensures.told (setting x trees) (start x trees) (job.at trees code)) c.in_ok-verdict.ensures.none)

pub returns-clause-some : goal.returns-clause-some
returns-clause-some c =
    let t = c.self.inside.turns in
    let x : Simulated = is_simulated t.run.bench.now t.run.run.sim.plan.raw c.self.inside.word_seed in
    let job : IsJob x t.limit t.run.run t.phases t.watch = c.self.invariant (rw (← c.self.view_is) at c.requires.going) (not_refused t.refused c.in_ok-verdict.ensures.refused) in
    let wanted = phases_after t.phases c.args.cycles in
    rw (← c.self.view_is) (told_of_each c.in_ok-verdict.verdict _ (λ (trees : List Stmt) v. IsCode x.bench.code trees → MeetsEnd (setting x trees) (start x trees) t.limit wanted) (λ trees.
    told_of_each c.in_ok-verdict.verdict _ (λ (code : IsCode x.bench.code trees) v. MeetsEnd (setting x trees) (start x trees) t.limit wanted) (λ code. c.in_ok-verdict.ensures.some (setting x trees) (start x trees) (job.at trees code))))

pub invariant_of-self-2 : goal.invariant_of-self-2
invariant_of-self-2 c = λ none _.
    let t = c.self.inside.turns in
    let u = c.turn.new.self in
    let x : Simulated = is_simulated t.run.bench.now t.run.run.sim.plan.raw c.self.inside.word_seed in
    let y : Simulated = is_simulated u.run.bench.now u.run.run.sim.plan.raw c.self.inside.word_seed in
    let same = c.in_ok-verdict.ensures.same in
    let job : IsJob x t.limit t.run.run t.phases t.watch = c.self.invariant (rw (← c.self.view_is) at c.requires.going) (not_refused t.refused c.in_ok-verdict.ensures.refused) in
    next_job c.in_ok-verdict.verdict c.is_some-self-inside.result x y u.run.run t.limit u.limit u.phases (phases_after t.phases c.args.cycles) u.watch (λ (trees : List Stmt). IsVerdict (setting x trees) (start x trees) t.limit t.watch.pass.word t.watch.fail.word) c.is_some-self-inside.ensures none (same_simulated t.run.bench.now u.run.bench.now t.run.run.sim.plan u.run.run.sim.plan c.self.inside.word_seed same.0.0 same.0.1) same.1 (λ trees code. c.in_ok-verdict.ensures.told (setting x trees) (start x trees) (job.at trees code)) c.in_ok-verdict.ensures.none
