-- The nets that the items of a testbench are, in the order of the source: assignments, and the design where its instance stands.
use Rattle.std.specs.Prelude.{List, [], ◌∷◌, Option, None, Some}
use Rattle.std.specs.List.{flat_map}
use Rattle.vlog_syntax.specs.declared.stmt.Assignment.{Assignment}
use Rattle.tb_items.specs.declared.item.BenchItem.{BenchItem}
use Rattle.tb_items.specs.declared.item.BenchItem.TheVariants as b
use Rattle.tb_items.specs.Assignments.{assignment_of}
use Rattle.tb_nets.specs.declared.node.NetNode.{NetNode}
use Rattle.tb_nets.specs.declared.node.NetNode.TheVariants.{Assign, Design}

abbrev pub assigned : Option Assignment → List NetNode
assigned None = []
assigned (Some a) = Assign a ∷ []

abbrev pub item_nodes : BenchItem → List NetNode
item_nodes (b.Holds at) = Design ∷ []
item_nodes other = assigned (assignment_of other)

abbrev pub nodes_of : List BenchItem → List NetNode
nodes_of = flat_map item_nodes
