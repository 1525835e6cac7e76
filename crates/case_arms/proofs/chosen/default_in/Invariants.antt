use Rattle.case_arms.proofs.Common.{◌≡◌, map, drop, item_steps, default_of}
use Rattle.case_arms.proofs.chosen.default_in.Given as goal

abbrev pub invariant-loop-place : goal.invariant-loop-place
invariant-loop-place l = default_of (map item_steps l.items) ≡ default_of (map item_steps (drop l.place l.items))
