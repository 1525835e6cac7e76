use Rattle.proc_muxes.proofs.Common.{bound_integer, held, work}
use Rattle.proc_muxes.proofs.Putting.{laid-wide}
use Rattle.proc_muxes.proofs.put.put_from.Goals as goal

pub set_held-requires-clause-wide : goal.set_held-requires-clause-wide
set_held-requires-clause-wide c = laid-wide c.in_ok-held.held c.as_slice.result.now c.in_ok-bits.bits (held (work c.args.builder.now c.args.variables.now) c.args.is_blocking c.args.number) c.args.bits.now c.args.low (bound_integer c.args.base) c.in_ok-bits.ensures c.as_slice.ensures c.in_ok-held.ensures
