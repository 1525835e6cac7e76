use Rattle.project_options.proofs.Common.{Bor, List, ℕ, around_of, option_fault, checks_err, fault_end, fault_here, fault_step}
use Rattle.project_options.proofs.options.check_options.Goals as goal

pub returns-in_err-check_option : goal.returns-in_err-check_option
returns-in_err-check_option c =
    checks_err _ c.in_err-check_option.field-0.0 _ c.from_residual.ensures.1
    (λ m. fault_here (λ (line : Bor (List ℕ)). line.now) (option_fault (around_of c.args.around.now)) c.args.lines.now c.args.number _ c.loop-i.i _ _ c.loop-i-test.true (c.in_err-check_option.ensures m) c.loop-i.invariant)

pub loop-i-preserved : goal.loop-i-preserved
loop-i-preserved c = fault_step (λ (line : Bor (List ℕ)). line.now) (option_fault (around_of c.args.around.now)) c.args.lines.now c.args.number _ c.loop-i.i _ c.loop-i-test.true c.in_ok-check_option.ensures c.loop-i.invariant

pub returns : goal.returns
returns c = fault_end (λ (line : Bor (List ℕ)). line.now) (option_fault (around_of c.args.around.now)) c.args.lines.now c.args.number _ c.loop-i.i c.loop-i-test.false c.loop-i.invariant
