use Rattle.campaign_baseline.proofs.Common.{◌≡◌, ◌++◌, drop, string_bytes}
use Rattle.campaign_baseline.specs.Lines as lines
use Rattle.campaign_baseline.proofs.told.baseline_text.Given as goal

-- the lines so far, and those that are still to come
abbrev pub invariant-loop-baseline : goal.invariant-loop-baseline
invariant-loop-baseline l = string_bytes l.text ++ lines.baseline_text l.names (drop l.baseline-index l.baselines) ≡ lines.baseline_text l.names l.baselines
