use Rattle.proc_muxes.proofs.Common.{◌≡◌, drop, is_changed}
use Rattle.proc_muxes.proofs.change.is_changed.Given as goal

abbrev pub invariant-loop-change : goal.invariant-loop-change
invariant-loop-change l = is_changed l.is_blocking l.changes l.number ≡ is_changed l.is_blocking (drop l.change-index l.changes) l.number
