use Rattle.project_lines.proofs.Common.{Bor, List, ℕ, sym, ◌∙◌, paths_in, script_fault, script_reads}
use Rattle.project_lines.proofs.Faults.{checks_err, fault_end, fault_here, fault_step}
use Rattle.project_lines.proofs.Reading.{reads_step, script_same, tops_step}
use Rattle.project_lines.proofs.script.check_script.Goals as goal

pub returns-in_err-check_line-clause-fault : goal.returns-in_err-check_line-clause-fault
returns-in_err-check_line-clause-fault c =
    checks_err _ c.in_err-check_line.field-0.0 _ c.from_residual.ensures.1
    (λ m. fault_here (λ (line : Bor (List ℕ)). line.now) (script_fault (paths_in c.args.paths.now) c.args.read.now) c.args.lines.now c.args.number _ c.loop-i.i _ _ c.loop-i-test.true (sym (script_same _ _ _ _ _ _ _ c.loop-i.invariant.1 c.loop-i.invariant.2) ∙ c.in_err-check_line.ensures.fault m) c.loop-i.invariant.0)

pub loop-i-preserved : goal.loop-i-preserved
loop-i-preserved c =
    let known = paths_in c.args.paths.now in
    let lines = c.args.lines.now in
    let i = c.loop-i.i in (
      fault_step (λ (line : Bor (List ℕ)). line.now) (script_fault known c.args.read.now) lines c.args.number _ i _ c.loop-i-test.true (sym (script_same _ _ _ _ _ _ _ c.loop-i.invariant.1 c.loop-i.invariant.2) ∙ c.in_ok-check_line.ensures.fault) c.loop-i.invariant.0,
      reads_step (λ (line : Bor (List ℕ)). line.now) (script_reads known) c.args.read.now lines i _ _ _ c.loop-i-test.true c.loop-i.invariant.1 c.in_ok-check_line.ensures.read,
      tops_step lines i _ _ _ _ c.loop-i-test.true c.loop-i.invariant.2 c.in_ok-top_of.ensures c.first_of-top.ensures,
    )

pub returns-clause-fault : goal.returns-clause-fault
returns-clause-fault c = fault_end (λ (line : Bor (List ℕ)). line.now) (script_fault (paths_in c.args.paths.now) c.args.read.now) c.args.lines.now c.args.number _ c.loop-i.i c.loop-i-test.false c.loop-i.invariant.0
