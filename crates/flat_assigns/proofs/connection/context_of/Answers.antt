use Rattle.flat_assigns.proofs.Common.{sym, ◌∙◌, names_of, sense, least_none}
use Rattle.flat_assigns.proofs.Shapes.{some_wrong}
use Rattle.flat_assigns.proofs.connection.context_of.Goals as goal

pub right_shape-requires-clause-whole : goal.right_shape-requires-clause-whole
right_shape-requires-clause-whole c = least_none (sense (names_of c.args.scope.now) c.args.right.now).faults (sym c.fault_in.ensures ∙ c.in-None.is)

pub returns-in-Some-clause-shape : goal.returns-in-Some-clause-shape
returns-in-Some-clause-shape c = λ none. absurd (some_wrong (sense (names_of c.args.scope.now) c.args.right.now).faults c.fault_in.result c.in-Some.field-0 c.fault_in.ensures c.in-Some.is none)
