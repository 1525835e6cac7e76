use Rattle.proc_muxes.proofs.Common.{work}
use Rattle.proc_muxes.proofs.Muxing.{chooses-mux, mux-wide}
use Rattle.proc_muxes.proofs.choice.choose_one.Goals as goal

pub set_held-requires-clause-wide : goal.set_held-requires-clause-wide
set_held-requires-clause-wide c = mux-wide (work c.args.builder.now c.args.variables.now) c.mux_cell.new.builder c.args.choice.now.is_blocking c.args.choice.now.number c.in_ok-test.test c.in_ok-no.no c.in_ok-yes.yes c.in_ok-y.y c.width_of-width.result c.args.at c.in_ok-y.ensures.adds c.in_ok-y.ensures.y c.width_of-width.ensures c.in_ok-no.ensures

pub returns-clause-chooses : goal.returns-clause-chooses
returns-clause-chooses c = chooses-mux c.args.at c.args.test.now c.in_ok-test.test c.in_ok-no.no c.in_ok-yes.yes c.in_ok-y.y c.args.choice.now (work c.args.builder.now c.args.variables.now) (work c.set_held.new.builder c.set_held.new.self) c.mux_cell.new.builder c.width_of-width.result c.requires.fits c.requires.one c.requires.test c.requires.stands c.in_ok-test.ensures c.in_ok-no.ensures c.in_ok-yes.ensures c.width_of-width.ensures c.in_ok-y.ensures.adds c.in_ok-y.ensures.y c.set_held.ensures.has
