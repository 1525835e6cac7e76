use Rattle.tb_refusals.proofs.Common.{◌≡◌, drop, is_free}
use Rattle.tb_refusals.proofs.context.is_free.Given as goal

abbrev pub invariant-loop-item : goal.invariant-loop-item
invariant-loop-item l = is_free (drop l.item-index l.items) ≡ is_free l.items
