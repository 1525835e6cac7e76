use Rattle.tb_faults.proofs.fault.earlier.Goals as goal

pub returns-clause-joined : goal.returns-clause-joined
returns-clause-joined c = c.earlier.ensures.joined
