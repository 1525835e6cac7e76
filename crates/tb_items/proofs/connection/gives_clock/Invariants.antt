use Rattle.tb_items.proofs.Common.{◌≡◌, drop, gives_clock}
use Rattle.tb_items.proofs.connection.gives_clock.Given as goal

abbrev pub invariant-loop-wire : goal.invariant-loop-wire
invariant-loop-wire l = gives_clock l.clock (drop l.wire-index l.wires) ≡ gives_clock l.clock l.wires
