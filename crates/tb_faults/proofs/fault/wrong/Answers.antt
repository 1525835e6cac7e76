use Rattle.tb_faults.proofs.Firsts.{first_wrong}
use Rattle.tb_faults.proofs.fault.wrong.Goals as goal

pub returns-clause-first : goal.returns-clause-first
returns-clause-first c = λ faults is. rw c.reason.ensures (first_wrong faults c.args.fault is)
