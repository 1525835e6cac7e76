use Rattle.process_latches.proofs.Common.{names_of}
use Rattle.process_latches.proofs.Turning.{last_ends, last_more, last_fails}
use Rattle.process_latches.proofs.walk.mark_last_test.Goals as goal

pub returns-in-Ok-false : goal.returns-in-Ok-false
returns-in-Ok-false c = last_ends c.args.place (names_of c.args.scope.now) c.args.condition.now c.in-Ok-false.field-0 _ c.in-Ok-false.ensures.refused c.in-Ok-false.ensures.holds c.in-Ok-false.field-0-test

pub returns-in-Ok-true : goal.returns-in-Ok-true
returns-in-Ok-true c = last_more c.args.place (names_of c.args.scope.now) c.args.condition.now c.in-Ok-true.field-0 _ _ c.in-Ok-true.ensures.refused c.in-Ok-true.ensures.holds c.in-Ok-true.field-0-test c.stop.ensures

pub returns-in-Err : goal.returns-in-Err
returns-in-Err c = last_fails c.args.place (names_of c.args.scope.now) c.args.condition.now c.in-Err.field-0 _ _ c.in-Err.ensures.refused c.stop-in-Err.ensures
