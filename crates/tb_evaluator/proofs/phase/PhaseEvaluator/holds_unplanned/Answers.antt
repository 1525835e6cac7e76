use Rattle.tb_evaluator.proofs.Common.{ap, names_of, store_of, condition}
use Rattle.tb_evaluator.proofs.Evaluating.{evaluated_in}
use Rattle.tb_evaluator.proofs.phase.PhaseEvaluator.holds_unplanned.Goals as goal

pub returns-clause-holds : goal.returns-clause-holds
returns-clause-holds c = evaluated_in (λ names phase store words. condition names phase c.args.condition.now store words) (names_of c.args.self.now.scope.now) (names_of c.moment.result.scope.now) c.args.self.now.phase c.moment.result.phase (store_of c.moment.result.store.now) c.args.scene.now c.set_words.new.self c.in_ok-words.words c.holds.new.words c.in_ok-holds.holds (ap names_of c.moment.ensures.scope) c.moment.ensures.phase c.moment.ensures.store c.in_ok-words.ensures c.in_ok-holds.ensures c.set_words.ensures
