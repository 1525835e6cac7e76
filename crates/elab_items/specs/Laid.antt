-- The netlist of a flattened design: what each item adds to a builder, cells, wiring, joints and registers. Assignments and
-- connections are read in the names of their scopes, and so are processes; other items add nothing.
use Rattle.std.specs.Prelude.{List, [], ◌∷◌}
use Rattle.vlog_syntax.specs.declared.expr.Expr.TheVariants as e
use Rattle.vlog_syntax.specs.declared.left_side.LeftSide.TheVariants as l
use Rattle.net_builder.specs.Building.{Building}
use Rattle.flat_assigns.specs.Laid.{lay_assignment, lay_input, lay_open, lay_output}
use Rattle.process_cells.specs.Laid.{lay_process}
use Rattle.flat_instances.specs.Places.{Place}
use Rattle.flat_instances.specs.declared.item.FlatItem.{FlatItem}
use Rattle.flat_instances.specs.declared.item.FlatItem.TheVariants as f
use Rattle.elab_items.specs.Starts.{names_at}

abbrev pub lay_item : List Place → FlatItem → Building → Building
lay_item places (f.Assigns k left right) b = lay_assignment (names_at places k) left (names_at places k) right b
lay_item places (f.Drives k net value) b = lay_assignment (names_at places k) (l.Name net) (names_at places k) value b
lay_item places (f.Enters port k value) b = lay_input (names_at places k) value port b
lay_item places (f.Open port) b = lay_open port b
lay_item places (f.Leaves k value inside port) b = lay_output (names_at places k) value (names_at places inside) (e.Name port) b
lay_item places (f.Runs k p) b = lay_process (names_at places k) p b
lay_item places other b = b

-- items one after the other
abbrev pub lay_items : List Place → List FlatItem → Building → Building
lay_items places [] b = b
lay_items places (item ∷ more) b = lay_items places more (lay_item places item b)
