use Rattle.std.proofs.Common.{◌≡◌, take}
use Rattle.tb_contents.specs.Nets.{nodes_of}
use Rattle.tb_contents.proofs.nets.nodes_of.Given as goal

abbrev pub invariant-loop-item : goal.invariant-loop-item
invariant-loop-item l = l.nodes.items ≡ nodes_of (take l.item-index l.items)
