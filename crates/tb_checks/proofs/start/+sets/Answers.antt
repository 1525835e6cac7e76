use Rattle.tb_checks.proofs.Common.{add-one, arith, sym, ◌∙◌, rules_in}
use Rattle.tb_checks.proofs.Begun.{block_sets, other_sets, sets_here, waits_here, neither_here}
use Rattle.tb_checks.proofs.start.+sets.Goals as goal

pub sets_clock-returns-in-SeqBlock : goal.sets_clock-returns-in-SeqBlock
sets_clock-returns-in-SeqBlock t c = block_sets (rules_in c.args.rules.now) c.args.stmt.now c.in-SeqBlock.field-0 c.in-SeqBlock.field-1 c.in-SeqBlock.body _ c.one_sets_clock.result c.in-SeqBlock.is c.as_slice.ensures c.one_sets_clock.ensures

pub sets_clock-returns-in_default : goal.sets_clock-returns-in_default
sets_clock-returns-in_default t c = c.is_start.ensures ∙ sym (other_sets (rules_in c.args.rules.now) c.args.stmt.now c.in_default.not-SeqBlock)

pub one_sets_clock-returns-then-sets_clock : goal.one_sets_clock-returns-then-sets_clock
one_sets_clock-returns-then-sets_clock t c = sets_here (rules_in c.args.rules.now) c.args.body.now c.loop-stmt.stmt-index c.stmt-item.result c.sets_clock.result _ c.stmt-item.is (omega arith) c.sets_clock.ensures c.if-sets_clock.true c.loop-stmt.invariant

pub one_sets_clock-returns-then-waits : goal.one_sets_clock-returns-then-waits
one_sets_clock-returns-then-waits t c = waits_here (rules_in c.args.rules.now) c.args.body.now c.loop-stmt.stmt-index c.stmt-item.result c.sets_clock.result c.waits.result _ c.stmt-item.is (omega arith) c.sets_clock.ensures c.if-sets_clock.false c.waits.ensures c.if-waits.true c.loop-stmt.invariant

pub one_sets_clock-loop-stmt-preserved : goal.one_sets_clock-loop-stmt-preserved
one_sets_clock-loop-stmt-preserved t c = rw add-one (neither_here (rules_in c.args.rules.now) c.args.body.now c.loop-stmt.stmt-index c.stmt-item.result c.sets_clock.result c.waits.result _ c.stmt-item.is (omega arith) c.sets_clock.ensures c.if-sets_clock.false c.waits.ensures c.if-waits.false c.loop-stmt.invariant)
