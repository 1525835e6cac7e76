-- In which scope each cell of a design stands.
--
-- Cells stand in the order of the items that add them, and how many an item adds is said by `cell_count` of `elab_items`. So the
-- scope of each cell is told by the flattened design alone.
use Rattle.std.specs.Prelude.{◌≡◌, ℕ, Bool, List, [], ◌∷◌, ◌++◌, map, replicate, slice_get, Option, None, Some}
use Rattle.vlog_syntax.specs.declared.module.Module.{Module}
use Rattle.project_options.specs.Instances.{is_within_some}
use Rattle.flat_instances.specs.Places.{Place}
use Rattle.flat_instances.specs.declared.item.FlatItem.{FlatItem}
use Rattle.flat_instances.specs.declared.item.FlatItem.TheVariants as f
use Rattle.flat_items.specs.Flattened.{Flat}
use Rattle.flat_items.specs.Replacing.{FlattensTop}
use Rattle.elab_items.specs.Designs.{widths_of}
use Rattle.elab_items.specs.Items.{cell_count}

-- the number of the scope in which an item is written: for a connection the one around the instance; no matter which where no cell
-- is added
abbrev pub scope_of : FlatItem → ℕ
scope_of (f.Assigns k left right) = k
scope_of (f.Drives k net value) = k
scope_of (f.Enters port k value) = k
scope_of (f.Leaves k value inside port) = k
scope_of (f.Runs k process) = k
scope_of other = 0

-- what stands before the names of a scope: nothing for the top, and `u.core.` for the instance `core` in the instance `u` of the top
abbrev pub prefix_in : Option Place → List ℕ
prefix_in None = []
prefix_in (Some place) = place.prefix

abbrev pub prefix_at : List Place → ℕ → List ℕ
prefix_at places k = prefix_in (slice_get places k)

-- the scopes of the cells that items add, one for each cell, each by what stands before its names
abbrev pub item_scopes : Flat → FlatItem → List (List ℕ)
item_scopes flat item = replicate (cell_count (widths_of flat.signals) flat.places item) (prefix_at flat.places (scope_of item))

abbrev pub scopes_from : Flat → List FlatItem → List (List ℕ)
scopes_from flat [] = []
scopes_from flat (item ∷ more) = item_scopes flat item ++ scopes_from flat more

-- the scopes of the cells of a design, in the order of the cells
unfoldable pub cell_scopes : Flat → List (List ℕ)
cell_scopes flat = scopes_from flat flat.items

-- those of the design that modules are with the top of this name
pub record HasScopes (modules : List Module) (top : List ℕ) (scopes : List (List ℕ)) : Type 0 where
  pub flat : Flat
  pub flattens : FlattensTop modules top flat
  pub are : scopes ≡ cell_scopes flat

-- for each cell, whether it is within one of these instances
pub record AreSkipped (modules : List Module) (top : List ℕ) (instances : List (List ℕ)) (flags : List Bool) : Type 0 where
  pub scopes : List (List ℕ)
  pub has_scopes : HasScopes modules top scopes
  pub are : flags ≡ map (is_within_some instances) scopes
