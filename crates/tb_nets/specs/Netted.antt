-- What comes of nodes.
use Rattle.std.specs.Prelude.{◌≡◌, List}
use Rattle.net_order.specs.Orders.{IsOnLoop, IsFirst}
use Rattle.tb_nets.specs.declared.node.NetNode.{NetNode}
use Rattle.tb_nets.specs.declared.nets.Netted.{Netted}
use Rattle.tb_nets.specs.declared.nets.Netted.TheVariants.{Ready, Loop}
use Rattle.tb_nets.specs.Nets.{Wiring, ReadsNode, IsSettled}

-- where no node is on a loop, they and an order of them; else the first that is on one
abbrev pub IsNetted : Wiring → List NetNode → Netted → Type 0
IsNetted w nodes (Ready nets) = (nets.nodes ≡ nodes) × IsSettled w nets
IsNetted w nodes (Loop c) = IsFirst (IsOnLoop (ReadsNode w nodes)) c
