-- Designs with more bits than a builder can have.
use Rattle.std.specs.Prelude.{ℕ, ◌+◌, nat_lt, List, [], ◌∷◌, Option, None, Some, if◌then◌else◌}
use Rattle.process_cells.specs.Items.{Widths}
use Rattle.flat_instances.specs.declared.error.ItemError.{ItemError}
use Rattle.flat_instances.specs.declared.item.FlatItem.{FlatItem}
use Rattle.flat_instances.specs.declared.item.FlatItem.TheVariants as f
use Rattle.elab_items.specs.Signals.{max_bits}

-- The first item that is listed as refused before the signal that passes the limit, where those before it have so many bits.
abbrev pub listed_before : Widths → (bits : ℕ) → List FlatItem → Option ItemError
listed_before width bits [] = None
listed_before width bits (f.Refuses error ∷ more) = Some error
listed_before width bits (f.Declares k ∷ more) = if nat_lt max_bits (bits + width k) then None else listed_before width (bits + width k) more
listed_before width bits (other ∷ more) = listed_before width bits more
