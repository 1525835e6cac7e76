-- Laws of the scopes of cells: a design has one list of them, one scope for each of its cells.
use Rattle.std.specs.Prelude.{◌≡◌, ℕ, Bool, List, length}
use Rattle.vlog_syntax.specs.declared.module.Module.{Module}
use Rattle.net_builder.specs.Building.{Building, empty}
use Rattle.process_cells.specs.Starts.{SameButStarts}
use Rattle.flat_instances.specs.declared.item.FlatItem.{FlatItem}
use Rattle.flat_items.specs.Flattened.{Flat}
use Rattle.flat_clocks.specs.Clocks.{Clocks}
use Rattle.elab_items.specs.Signals.{declared}
use Rattle.elab_items.specs.Timed.{BuildsAll}
use Rattle.cell_scopes.specs.Scopes.{HasScopes, scopes_from}

-- Two lists of scopes of the same modules and the same top are the same.
abbrev pub ScopesAreOne : Type 0
ScopesAreOne = (modules : List Module) (top : List ℕ) (scopes other : List (List ℕ)) → HasScopes modules top scopes → HasScopes modules top other → scopes ≡ other

-- Where items are built, the first ones of a design or all, there is a scope for each of the cells so far. So the cells that an item
-- adds are just those that have its scopes.
abbrev pub CellsHaveScopes : Type 0
CellsHaveScopes = (flat : Flat) (inputs : List Bool) (clocks : Clocks) (items : List FlatItem) (first last : Building)
    → SameButStarts (declared flat.signals empty) first → BuildsAll inputs flat clocks items first last → length (scopes_from flat items) ≡ length last.cells
