use Rattle.sat_solver.proofs.Common.{◌+◌}
use Rattle.sat_solver.proofs.Probing.{probing-new}
use Rattle.sat_solver.proofs.probe.Probe.new.Goals as goal

pub returns-clause-probing : goal.returns-clause-probing
returns-clause-probing c log focus = probing-new log _ (c.args.greatest + 1) focus c.new.ensures.store c.new.ensures.numbers c.new.ensures.seen c.in_ok-new.ensures.opened c.in_ok-new.ensures.kept
