use Rattle.flat_clocks.proofs.Sources.{one_passed}
use Rattle.flat_clocks.proofs.clocks.set_source.Goals as goal

pub returns-in-Ok : goal.returns-in-Ok
returns-in-Ok c = λ number is. one_passed c.args.sources.now c.insert.new.self c.args.port number c.args.from is c.in-Ok.ensures.updates
