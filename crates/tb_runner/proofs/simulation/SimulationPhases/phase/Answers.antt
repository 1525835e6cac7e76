use Rattle.std.proofs.lemmas.Result.{IfOk-weaker}
use Rattle.tb_runner.proofs.Standing.{phase_follows}
use Rattle.tb_runner.proofs.simulation.SimulationPhases.phase.Goals as goal

pub returns-clause-phase : goal.returns-clause-phase
returns-clause-phase c = λ setting s (trees, code, same, stands).
    IfOk-weaker c.advance.result _ _ (λ end follows. phase_follows c.args.self.now.bench.now c.args.self.now.run c.advance.new.self setting trees s end code same c.advance.ensures.design follows) (c.advance.ensures.phase trees s code stands)
