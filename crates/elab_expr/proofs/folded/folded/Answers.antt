use Rattle.elab_expr.proofs.Common.{◌∙◌, [], names_of, store_of, constant_value, ap, nothing, number_bits}
use Rattle.elab_expr.proofs.folded.folded.Goals as goal

pub returns-clause-value : goal.returns-clause-value
returns-clause-value c = λ nets signals. c.in_ok-constant_bits.ensures.value nets ∙ c.value_of.ensures.value ∙ constant_value (names_of c.args.scope.now) c.args.expr.now (store_of []) signals c.args.context c.requires.constant

pub returns-clause-is : goal.returns-clause-is
returns-clause-is c = c.in_ok-constant_bits.ensures.is ∙ ap (number_bits c.args.context.width) (c.value_of.ensures.value ∙ constant_value (names_of c.args.scope.now) c.args.expr.now (store_of []) nothing c.args.context c.requires.constant)
