use Rattle.proc_muxes.proofs.Common.{◌≡◌, joined}
use Rattle.proc_muxes.proofs.change.Changes.join.Given as goal

abbrev pub invariant-loop-change : goal.invariant-loop-change
invariant-loop-change l = l.self-inside.items.items ≡ joined l.initial.self-inside.items.items l.yielded
