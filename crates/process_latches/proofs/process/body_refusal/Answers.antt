use Rattle.process_latches.proofs.Common.{sym, subst, names_of, AreSized}
use Rattle.process_latches.proofs.Refusing.{body_first}
use Rattle.process_latches.proofs.process.body_refusal.Goals as goal

pub returns-clause-first : goal.returns-clause-first
returns-clause-first c = body_first c.args.waiting.now.is_combinational (names_of c.args.scope.now) (names_of c.statement_refusal.new.scope) c.args.written.now c.args.waiting.now.always c.args.waiting.now.control.now c.args.waiting.now.body.now c.new-marks.result c.mark.new.marks c.as_slice.result.now c.control_refusal-events.result c.in_ok-statements.statements c.in_ok-kinds.kinds c.latch_refusal-latch.result c.earlier-last.result c.earlier-later.result c.earlier.result c.in_ok-statements.ensures.kept c.control_refusal-events.ensures c.in_ok-statements.ensures.first c.new-marks.ensures c.in_ok-mark.ensures.marked c.as_slice.ensures.value c.in_ok-kinds.ensures c.latch_refusal-latch.ensures c.earlier-last.ensures c.earlier-later.ensures c.earlier.ensures

pub mark-requires : goal.mark-requires
mark-requires c = subst AreSized (sym c.in_ok-statements.ensures.kept) c.requires
