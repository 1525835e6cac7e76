use Rattle.elab_expr.proofs.Common.{names_of}
use Rattle.elab_expr.proofs.Refused.{fine, not_clear}
use Rattle.elab_expr.proofs.expression.build_expr.Goals as goal

pub build-requires-clause-whole : goal.build-requires-clause-whole
build-requires-clause-whole c = (fine (names_of c.args.scope.now) c.args.expr.now (record { width = c.args.width; is_signed = c.args.is_signed }) c.refusal.result c.refusal.ensures c.in-None.is).0

pub build-requires-clause-supported : goal.build-requires-clause-supported
build-requires-clause-supported c = (fine (names_of c.args.scope.now) c.args.expr.now (record { width = c.args.width; is_signed = c.args.is_signed }) c.refusal.result c.refusal.ensures c.in-None.is).1

pub build-requires-clause-context : goal.build-requires-clause-context
build-requires-clause-context c = c.requires.context (fine (names_of c.args.scope.now) c.args.expr.now (record { width = c.args.width; is_signed = c.args.is_signed }) c.refusal.result c.refusal.ensures c.in-None.is).0

pub returns-in-Some-clause-short : goal.returns-in-Some-clause-short
returns-in-Some-clause-short c = λ clear. absurd (not_clear (names_of c.args.scope.now) c.args.expr.now (record { width = c.args.width; is_signed = c.args.is_signed }) c.refusal.result c.refusal.ensures c.in-Some.fault c.in-Some.is clear)
