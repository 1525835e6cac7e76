use Rattle.tb_items.proofs.Common.{◌≡◌, ◌++◌, drop, flat_map, wire_items}
use Rattle.tb_items.proofs.connection.add_wires.Given as goal

abbrev pub invariant-loop-wire : goal.invariant-loop-wire
invariant-loop-wire l = l.items.items ++ flat_map (wire_items l.design l.clock l.instance) (drop l.wire-index l.wires) ≡ l.initial.items.items ++ flat_map (wire_items l.design l.clock l.instance) l.wires
