use Rattle.project_file.proofs.Common.{Bor, List, ℕ, sym, ◌∙◌, lead_fault, fault_end, fault_here, fault_step}
use Rattle.project_file.proofs.Parts.{lead_good, lead_bad}
use Rattle.project_file.proofs.checks.check_lead.Goals as goal

pub returns-then-is_said : goal.returns-then-is_said
returns-then-is_said c m = fault_here (λ (line : Bor (List ℕ)). line.now) lead_fault c.args.lines.now 1 _ c.loop-i.i _ _ c.loop-i-test.true (lead_bad _ _ _ (sym c.is_said.ensures ∙ c.if-is_said.true)) c.loop-i.invariant

pub loop-i-preserved : goal.loop-i-preserved
loop-i-preserved c = fault_step (λ (line : Bor (List ℕ)). line.now) lead_fault c.args.lines.now 1 _ c.loop-i.i _ c.loop-i-test.true (lead_good _ _ _ (sym c.is_said.ensures ∙ c.if-is_said.false)) c.loop-i.invariant

pub returns : goal.returns
returns c = fault_end (λ (line : Bor (List ℕ)). line.now) lead_fault c.args.lines.now 1 _ c.loop-i.i c.loop-i-test.false c.loop-i.invariant
