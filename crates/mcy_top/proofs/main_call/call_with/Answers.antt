use Rattle.mcy_top.proofs.Common.{ℕ, subst, Shown}
use Rattle.mcy_top.proofs.main_call.call_with.Goals as goal

pub returns-clause-demo : goal.returns-clause-demo
returns-clause-demo g c seed cells asked =
    let shown = c.mcy_main.ensures.demo seed cells asked in
    (c.mcy_main.new.steps, subst (λ (n : ℕ). Shown seed cells (g.O.Sink.written c.args.out.now) (g.O.Sink.written c.mcy_main.new.out) n c.mcy_main.new.steps c.mcy_main.result) c.open-steps.ensures shown.0, shown.1, shown.2)

pub returns-clause-baseline : goal.returns-clause-baseline
returns-clause-baseline g c asked =
    let told = c.mcy_main.ensures.baseline asked in
    (told.0, told.2)
