use Rattle.tb_evaluator.proofs.Common.{map, ap, sym, subst, names_of, store_of, Names, choice_labels, chosen, LabelsWhole}
use Rattle.tb_evaluator.proofs.Evaluating.{evaluated_in}
use Rattle.tb_evaluator.proofs.phase.PhaseEvaluator.choice_unplanned.Goals as goal

pub choose-requires-clause-labels : goal.choose-requires-clause-labels
choose-requires-clause-labels c = subst (λ (k : Names). LabelsWhole k (map choice_labels c.args.items.now)) (sym (ap names_of c.moment.ensures.scope)) c.requires.labels

pub returns-clause-choice : goal.returns-clause-choice
returns-clause-choice c = evaluated_in (λ names phase store words. chosen names phase c.args.kind c.args.selector.now (map choice_labels c.args.items.now) store words) (names_of c.args.self.now.scope.now) (names_of c.moment.result.scope.now) c.args.self.now.phase c.moment.result.phase (store_of c.moment.result.store.now) c.args.scene.now c.set_words.new.self c.in_ok-words.words c.choose.new.words c.in_ok-taken.taken (ap names_of c.moment.ensures.scope) c.moment.ensures.phase c.moment.ensures.store c.in_ok-words.ensures c.in_ok-taken.ensures c.set_words.ensures
