use Rattle.report_script.proofs.Common.{◌∙◌, false, Ok, Err, sym, arith}
use Rattle.report_script.proofs.Walking.{arm_here, arm_picked, arms_end, picked_if}
use Rattle.report_script.proofs.running.picked.Goals as goal

pub returns-then-is_true-clause-found : goal.returns-then-is_true-clause-found
returns-then-is_true-clause-found c = λ d other. sym (c.loop-i.invariant other) ∙ arm_picked c.args.counts.now c.args.arms.now other c.loop-i.i c.index-arms-i.result c.in-Ok.value d (omega arith) c.index-arms-i.is (sym c.in-Ok.ensures.exact) (sym c.is_true.ensures ∙ c.if-is_true.true)

pub returns-in-Err-clause-stopped : goal.returns-in-Err-clause-stopped
returns-in-Err-clause-stopped c = λ other. sym (c.loop-i.invariant other) ∙ arm_here c.args.counts.now c.args.arms.now other c.loop-i.i c.index-arms-i.result (Err c.in-Err.fault) (omega arith) c.index-arms-i.is (sym c.in-Err.ensures.exact)

pub loop-i-preserved : goal.loop-i-preserved
loop-i-preserved c = λ other. sym (arm_here c.args.counts.now c.args.arms.now other c.loop-i.i c.index-arms-i.result (Ok c.in-Ok.value) (omega arith) c.index-arms-i.is (sym c.in-Ok.ensures.exact) ∙ picked_if c.index-arms-i.result.line c.in-Ok.value false _ _ (sym c.is_true.ensures ∙ c.if-is_true.false)) ∙ c.loop-i.invariant other

pub returns-clause-found : goal.returns-clause-found
returns-clause-found c = λ other. sym (c.loop-i.invariant other) ∙ arms_end c.args.counts.now c.args.arms.now other c.loop-i.i (omega arith)
