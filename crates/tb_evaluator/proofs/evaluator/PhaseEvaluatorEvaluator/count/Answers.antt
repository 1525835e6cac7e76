use Rattle.tb_evaluator.proofs.Common.{ap, names_of, store_of, turns}
use Rattle.tb_evaluator.proofs.Evaluating.{evaluated_in}
use Rattle.tb_evaluator.proofs.evaluator.PhaseEvaluatorEvaluator.count.Goals as goal

pub returns-clause-count : goal.returns-clause-count
returns-clause-count c = evaluated_in (λ names phase store words. turns names phase c.args.expr.now store words) (names_of c.args.self.now.scope.now) (names_of c.moment.result.scope.now) c.args.self.now.phase c.moment.result.phase (store_of c.moment.result.store.now) c.args.scene.now c.set_words.new.self c.in_ok-words.words c.count.new.words c.in_ok-turns.turns (ap names_of c.moment.ensures.scope) c.moment.ensures.phase c.moment.ensures.store c.in_ok-words.ensures c.in_ok-turns.ensures c.set_words.ensures
