use Rattle.flat_scopes.proofs.Common.{names_of, sense}
use Rattle.flat_scopes.proofs.Whole.{none-refused}
use Rattle.flat_scopes.proofs.parameter.parameter_decl.Goals as goal

pub returns-in_err-own-in-OfValue-clause-refused :
    goal.returns-in_err-own-in-OfValue-clause-refused
returns-in_err-own-in-OfValue-clause-refused c = absurd (none-refused c.in_err-own-in-OfValue.field-0.0 (sense (names_of c.args.scope.now) c.args.value.now).faults c.in_ok-number-in-OfValue.ensures.whole c.in_err-own-in-OfValue.ensures.refused)
