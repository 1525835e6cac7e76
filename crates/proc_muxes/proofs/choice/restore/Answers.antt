use Rattle.proc_muxes.proofs.Common.{work}
use Rattle.proc_muxes.proofs.Merging.{fit-restored}
use Rattle.proc_muxes.proofs.choice.restore.Goals as goal

pub returns-clause-fit : goal.returns-clause-fit
returns-clause-fit c = fit-restored (work c.args.builder.now c.args.variables.now) (work c.set_held.new.builder c.set_held.new.self) c.args.change.now c.in_ok-before.before c.requires.fits c.in_ok-before.ensures c.set_held.ensures.has
