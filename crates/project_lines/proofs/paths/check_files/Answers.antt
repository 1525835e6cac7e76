use Rattle.project_lines.proofs.Common.{rules, Bor, List, ℕ, sym, ◌∙◌, files_fault}
use Rattle.project_lines.proofs.Faults.{checks_err, fault_end, fault_here, fault_step}
use Rattle.project_lines.proofs.Finding.{no_lines}
use Rattle.project_lines.proofs.Reading.{files_same, paths_step}
use Rattle.project_lines.proofs.paths.check_files.Goals as goal

pub returns-in_err-check_line : goal.returns-in_err-check_line
returns-in_err-check_line c =
    checks_err _ c.in_err-check_line.field-0.0 _ c.from_residual.ensures.1
    (λ m. fault_here (λ (line : Bor (List ℕ)). line.now) files_fault c.args.lines.now c.args.number _ c.loop-i.i _ _ c.loop-i-test.true (sym (files_same _ _ _ _ c.loop-i.invariant.1) ∙ c.in_err-check_line.ensures.fault m) c.loop-i.invariant.0)

pub loop-i-init : goal.loop-i-init
loop-i-init c = (search rules, c.new-paths.ensures ∙ no_lines)

pub loop-i-preserved : goal.loop-i-preserved
loop-i-preserved c = (
  fault_step (λ (line : Bor (List ℕ)). line.now) files_fault c.args.lines.now c.args.number _ c.loop-i.i _ c.loop-i-test.true (sym (files_same _ _ _ _ c.loop-i.invariant.1) ∙ c.in_ok-check_line.ensures.fault) c.loop-i.invariant.0,
  paths_step c.args.lines.now c.loop-i.i _ _ _ c.loop-i-test.true c.loop-i.invariant.1 c.in_ok-check_line.ensures.paths,
)

pub returns : goal.returns
returns c = fault_end (λ (line : Bor (List ℕ)). line.now) files_fault c.args.lines.now c.args.number _ c.loop-i.i c.loop-i-test.false c.loop-i.invariant.0
