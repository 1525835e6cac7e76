-- Items that give start values, and in which nothing is refused.
use Rattle.std.specs.Prelude.{◌≡◌, Bool, List, [], ◌∷◌, None}
use Rattle.process_latches.specs.Refused.{process_refusals}
use Rattle.process_cells.specs.Items.{Widths}
use Rattle.flat_instances.specs.Places.{Place}
use Rattle.flat_instances.specs.declared.item.FlatItem.{FlatItem}
use Rattle.flat_instances.specs.declared.item.FlatItem.TheVariants as f
use Rattle.elab_items.specs.Starts.{names_at, start_error}

-- nothing is refused in what an item gives
abbrev pub CanStart : Widths → List Place → FlatItem → Type 0
CanStart width places (f.Starts number k value) = start_error (names_at places k) value (width number) ≡ None
CanStart width places (f.Runs k p) = (written : List Bool) × (process_refusals (names_at places k) written p ≡ [])
CanStart width places other = Unit {0}

abbrev pub AllStart : Widths → List Place → List FlatItem → Type 0
AllStart width places [] = Unit {0}
AllStart width places (item ∷ more) = CanStart width places item × AllStart width places more
