use Rattle.tb_evaluator.proofs.Served.{same_store}
use Rattle.tb_evaluator.proofs.phase.PhaseEvaluator.moment.Goals as goal

pub returns-clause-store : goal.returns-clause-store
returns-clause-store c = same_store c.store.result.now c.args.scene.now c.store.ensures.values
