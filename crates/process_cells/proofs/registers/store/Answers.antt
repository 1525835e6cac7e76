use Rattle.process_cells.proofs.Storing.{stores_one}
use Rattle.process_cells.proofs.registers.store.Goals as goal

pub returns : goal.returns
returns c = stores_one c.args.builder.now c.register.new.self c.args.variable.now c.as_str.result.now c.in_ok-name.name c.span-span.result c.in_ok-d.d c.as_slice.result.now c.in_ok-q.q c.bits.result.now c.start-start.result c.in_ok-register.ensures.adds c.as_str.ensures c.in_ok-name.ensures c.span-span.ensures c.as_slice.ensures c.in_ok-d.ensures c.bits.ensures c.in_ok-q.ensures c.start-start.ensures.bits c.start-start.ensures.width
