use Rattle.vlog_statements.proofs.LaterParts.{labelled_body}
use Rattle.vlog_statements.proofs.statements.labelled_case_item.Goals as goal

pub stmt-body-requires : goal.stmt-body-requires
stmt-body-requires c = rw (c.skip.ensures, c.exprs.ensures.rest, c.expr.ensures.rest) (labelled_body c.args.parts.now c.requires)
