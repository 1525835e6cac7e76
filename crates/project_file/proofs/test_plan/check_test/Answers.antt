use Rattle.project_file.proofs.Common.{Bor, List, ℕ, sym, ◌∙◌, test_fault, test_reads, checks_err, fault_end, fault_here, fault_step}
use Rattle.project_lines.proofs.Reading.{reads_step}
use Rattle.project_file.proofs.Parts.{test_same}
use Rattle.project_file.proofs.test_plan.check_test.Goals as goal

pub returns-in_err-check_line-clause-fault : goal.returns-in_err-check_line-clause-fault
returns-in_err-check_line-clause-fault c =
    checks_err _ c.in_err-check_line.field-0.0 _ c.from_residual.ensures.1
    (λ m. fault_here (λ (line : Bor (List ℕ)). line.now) (test_fault c.args.read.now) c.args.lines.now c.args.number _ c.loop-i.i _ _ c.loop-i-test.true (sym (test_same _ _ _ _ _ c.loop-i.invariant.1) ∙ c.in_err-check_line.ensures.fault m) c.loop-i.invariant.0)

pub loop-i-preserved : goal.loop-i-preserved
loop-i-preserved c =
    let lines = c.args.lines.now in
    let i = c.loop-i.i in (
      fault_step (λ (line : Bor (List ℕ)). line.now) (test_fault c.args.read.now) lines c.args.number _ i _ c.loop-i-test.true (sym (test_same _ _ _ _ _ c.loop-i.invariant.1) ∙ c.in_ok-check_line.ensures.fault) c.loop-i.invariant.0,
      reads_step (λ (line : Bor (List ℕ)). line.now) test_reads c.args.read.now lines i _ _ _ c.loop-i-test.true c.loop-i.invariant.1 c.in_ok-check_line.ensures.read,
    )

pub returns-clause-fault : goal.returns-clause-fault
returns-clause-fault c = fault_end (λ (line : Bor (List ℕ)). line.now) (test_fault c.args.read.now) c.args.lines.now c.args.number _ c.loop-i.i c.loop-i-test.false c.loop-i.invariant.0
