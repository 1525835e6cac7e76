use Rattle.tb_values.proofs.Common.{sym, ◌∙◌, names_of, store_of}
use Rattle.tb_values.proofs.Evaluating.{made_whole, made_context, same_value}
use Rattle.tb_values.proofs.evaluation.evaluate.Goals as goal

pub value-requires-clause-whole : goal.value-requires-clause-whole
value-requires-clause-whole c = made_whole (names_of c.args.moment.now.scope.now) c.args.moment.now.phase c.args.expr.now c.in_ok-drawn.drawn c.args.words.now c.draw.new.words (c.in_ok-drawn.ensures (names_of c.args.moment.now.scope.now)) c.requires.whole

pub value-requires-clause-context : goal.value-requires-clause-context
value-requires-clause-context c = made_context (names_of c.args.moment.now.scope.now) c.args.moment.now.phase c.args.expr.now c.in_ok-drawn.drawn c.args.words.now c.draw.new.words c.args.context (c.in_ok-drawn.ensures (names_of c.args.moment.now.scope.now)) c.requires.whole c.requires.context

pub returns-else-changes-clause-value : goal.returns-else-changes-clause-value
returns-else-changes-clause-value c = same_value (names_of c.args.moment.now.scope.now) c.args.moment.now.phase c.args.expr.now c.args.words.now c.args.context (store_of c.args.moment.now.store.now) c.value-else-changes.result.bits (sym c.changes.ensures ∙ c.if-changes.false) c.value-else-changes.ensures.value
