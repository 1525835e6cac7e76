use Rattle.tb_nets.proofs.Common.{sym, add-one, arith, or_end}
use Rattle.tb_nets.proofs.Signals.{more_signals}
use Rattle.tb_nets.proofs.node.add_signals.Goals as goal

pub loop-number-init : goal.loop-number-init
loop-number-init c = λ n i. sym (or_end _)

pub loop-number-preserved : goal.loop-number-preserved
loop-number-preserved c = λ n i. rw add-one (more_signals c.args.numbers.now c.loop-number.number-index _ n i c.lowest.result _ _ _ (omega arith) (c.lowest.ensures i) (c.loop-number.invariant n i) (c.in_ok-add.ensures n i))
