use Rattle.vlog_statements.proofs.LaterParts.{assigned_value}
use Rattle.vlog_statements.proofs.statements.assignment_statement.Goals as goal

pub expr-value-requires : goal.expr-value-requires
expr-value-requires c = rw (c.sign-sign.ensures.rest, c.left-left.ensures.rest) (assigned_value c.args.parts.now c.requires)
