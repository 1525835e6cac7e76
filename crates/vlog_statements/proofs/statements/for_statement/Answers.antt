use Rattle.vlog_statements.proofs.LaterParts.{for_condition, for_left, for_value, for_body}
use Rattle.vlog_statements.proofs.statements.for_statement.Goals as goal

pub expr-condition-requires : goal.expr-condition-requires
expr-condition-requires c = rw (c.skip-2.ensures, c.assignment-start.ensures.rest, c.skip.ensures, c.span-span.ensures.rest) (for_condition c.args.parts.now c.requires)

pub assignment-step-requires-clause-left : goal.assignment-step-requires-clause-left
assignment-step-requires-clause-left c = rw (c.skip-3.ensures, c.expr-condition.ensures.rest, c.skip-2.ensures, c.assignment-start.ensures.rest, c.skip.ensures, c.span-span.ensures.rest) (for_left c.args.parts.now c.requires)

pub assignment-step-requires-clause-value : goal.assignment-step-requires-clause-value
assignment-step-requires-clause-value c = rw (c.skip-3.ensures, c.expr-condition.ensures.rest, c.skip-2.ensures, c.assignment-start.ensures.rest, c.skip.ensures, c.span-span.ensures.rest) (for_value c.args.parts.now c.requires)

pub stmt-body-requires : goal.stmt-body-requires
stmt-body-requires c = rw (c.skip-4.ensures, c.assignment-step.ensures.rest, c.skip-3.ensures, c.expr-condition.ensures.rest, c.skip-2.ensures, c.assignment-start.ensures.rest, c.skip.ensures, c.span-span.ensures.rest) (for_body c.args.parts.now c.requires)
