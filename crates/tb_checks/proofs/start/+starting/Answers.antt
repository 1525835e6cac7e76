use Rattle.tb_checks.proofs.Common.{Bool, add-one, arith, sym, subst, IfOk-weaker, IsFirst, first_faults, turn_faults, begun, starting, rules_in}
use Rattle.tb_checks.proofs.Firsts.{same}
use Rattle.tb_checks.proofs.Begun.{block_starts, other_starts, turn_else, block_more, may_next}
use Rattle.tb_checks.proofs.start.+starting.Goals as goal

pub starting_fault-returns-in-SeqBlock : goal.starting_fault-returns-in-SeqBlock
starting_fault-returns-in-SeqBlock t c = IfOk-weaker c.block_fault.result _ _ (λ o h. block_starts (rules_in c.args.rules.now) c.args.stmt.now c.in-SeqBlock.field-0 c.in-SeqBlock.field-1 c.in-SeqBlock.body _ o c.in-SeqBlock.is c.as_slice.ensures h) c.block_fault.ensures

pub starting_fault-returns-in_default : goal.starting_fault-returns-in_default
starting_fault-returns-in_default t c = IfOk-weaker c.first_fault.result _ _ (λ o h. same (starting (rules_in c.args.rules.now) c.args.stmt.now) (first_faults (rules_in c.args.rules.now) c.args.stmt.now) o (other_starts (rules_in c.args.rules.now) c.args.stmt.now c.in_default.not-SeqBlock) h) c.first_fault.ensures

pub turn_fault-returns-then-may_start : goal.turn_fault-returns-then-may_start
turn_fault-returns-then-may_start t c = IfOk-weaker c.starting_fault.result _ _ (λ o h. subst (λ (m : Bool). IsFirst (turn_faults (rules_in c.args.rules.now) m (begun (rules_in c.args.rules.now) c.args.stmt.now)) o) (sym c.if-may_start.true) h) c.starting_fault.ensures

pub turn_fault-returns-else-may_start : goal.turn_fault-returns-else-may_start
turn_fault-returns-else-may_start t c = IfOk-weaker c.statement_fault.result _ _ (λ o h. subst (λ (m : Bool). IsFirst (turn_faults (rules_in c.args.rules.now) m (begun (rules_in c.args.rules.now) c.args.stmt.now)) o) (sym c.if-may_start.false) (turn_else (rules_in c.args.rules.now) c.args.stmt.now o h)) c.statement_fault.ensures

pub block_fault-loop-stmt-preserved : goal.block_fault-loop-stmt-preserved
block_fault-loop-stmt-preserved t c =
    rw add-one (
      may_next (rules_in c.args.rules.now) c.args.body.now c.loop-stmt.stmt-index c.stmt-item.result c.loop-stmt.may_start c.may_behind-may_start.result c.stmt-item.is (omega arith) c.loop-stmt.invariant.0 c.may_behind-may_start.ensures,
      block_more (rules_in c.args.rules.now) c.args.body.now c.loop-stmt.stmt-index c.stmt-item.result c.loop-stmt.may_start c.loop-stmt.found c.in_ok-turn_fault.field-0 c.earlier-found.result c.stmt-item.is (omega arith) c.loop-stmt.invariant.0 c.loop-stmt.invariant.1 c.in_ok-turn_fault.ensures c.earlier-found.ensures.joined,
    )
