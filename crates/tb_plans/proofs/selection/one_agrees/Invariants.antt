use Rattle.tb_plans.proofs.Common.{◌≡◌, drop, store_of, one_agrees}
use Rattle.tb_plans.proofs.selection.one_agrees.Given as goal

abbrev pub invariant-loop-label : goal.invariant-loop-label
invariant-loop-label l = one_agrees (store_of l.store) l.value (drop l.label-index l.labels) ≡ one_agrees (store_of l.store) l.value l.labels
