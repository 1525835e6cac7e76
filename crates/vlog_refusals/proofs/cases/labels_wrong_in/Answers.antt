use Rattle.vlog_refusals.proofs.Common.{least_empty}
use Rattle.vlog_refusals.proofs.cases.labels_wrong_in.Goals as goal

pub loop-item-init : goal.loop-item-init
loop-item-init g c = least_empty
