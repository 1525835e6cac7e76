use Rattle.vlog_items.proofs.LaterParts.{loop_condition, loop_name, loop_step}
use Rattle.vlog_items.proofs.items.generate_loop.Goals as goal

pub expr-condition-requires : goal.expr-condition-requires
expr-condition-requires c = rw (c.skip-3.ensures, c.expr-start.ensures.rest, c.skip-2.ensures, c.identifier-name.ensures.rest, c.skip.ensures, c.span-span.ensures.rest) (loop_condition c.args.parts.now c.requires)

pub identifier-step_name-requires : goal.identifier-step_name-requires
identifier-step_name-requires c = rw (c.skip-4.ensures, c.expr-condition.ensures.rest, c.skip-3.ensures, c.expr-start.ensures.rest, c.skip-2.ensures, c.identifier-name.ensures.rest, c.skip.ensures, c.span-span.ensures.rest) (loop_name c.args.parts.now c.requires)

pub expr-step-requires : goal.expr-step-requires
expr-step-requires c = rw (c.skip-5.ensures, c.identifier-step_name.ensures.rest, c.skip-4.ensures, c.expr-condition.ensures.rest, c.skip-3.ensures, c.expr-start.ensures.rest, c.skip-2.ensures, c.identifier-name.ensures.rest, c.skip.ensures, c.span-span.ensures.rest) (loop_step c.args.parts.now c.requires)
