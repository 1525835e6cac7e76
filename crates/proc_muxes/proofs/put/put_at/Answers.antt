use Rattle.proc_muxes.proofs.Common.{work}
use Rattle.proc_muxes.proofs.Putting.{puts-at, put-wide}
use Rattle.proc_muxes.proofs.put.put_at.Goals as goal

pub set_held-requires-clause-wide : goal.set_held-requires-clause-wide
set_held-requires-clause-wide c = put-wide (work c.args.builder.now c.args.variables.now) c.put_cell.new.builder c.args.is_blocking c.args.number c.in_ok-held.held c.args.index c.args.bits c.in_ok-y.y c.width_of-width.result c.args.span c.in_ok-y.ensures.adds c.in_ok-y.ensures.y c.width_of-width.ensures c.in_ok-held.ensures

pub returns-clause-puts : goal.returns-clause-puts
returns-clause-puts c = puts-at c.args.span c.args.is_blocking c.args.number c.in_ok-held.held c.args.index c.args.bits c.in_ok-y.y (work c.args.builder.now c.args.variables.now) (work c.set_held.new.builder c.set_held.new.self) c.put_cell.new.builder c.width_of-width.result c.in_ok-held.ensures c.width_of-width.ensures c.in_ok-y.ensures.adds c.requires.some c.requires.narrow c.requires.index c.requires.bits c.requires.stands c.in_ok-y.ensures.y c.set_held.ensures.has
