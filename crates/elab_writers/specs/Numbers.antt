-- Signals of a flattened design by their numbers: those that its items declare, and the ports of its top.
use Rattle.std.specs.Prelude.{ℕ, Bool, false, IsTrue, List, [], ◌∷◌, ◌++◌, Option, slice_get, slice_index_or}
use Rattle.std.specs.List.{Contains}
use Rattle.vlog_syntax.specs.declared.identifier.Identifier.{Identifier}
use Rattle.vlog_syntax.specs.declared.item.Direction.TheVariants.{Input, Output}
use Rattle.flat_items.specs.Flattened.{Flat}
use Rattle.flat_items.specs.Tops.{own_in}
use Rattle.flat_instances.specs.declared.item.FlatItem.{FlatItem}
use Rattle.flat_instances.specs.declared.item.FlatItem.TheVariants.{Declares}
use Rattle.elab_items.specs.Designs.{port_numbers, without}

-- the number that an item declares
abbrev pub declared_number : FlatItem → List ℕ
declared_number (Declares k) = k ∷ []
declared_number other = []

-- those of all items, in order
abbrev pub declared_numbers : List FlatItem → List ℕ
declared_numbers [] = []
declared_numbers (item ∷ more) = declared_number item ++ declared_numbers more

-- the inputs of a top whose head has these names, but for its clock
abbrev pub input_numbers : List Identifier → Option ℕ → Flat → List ℕ
input_numbers ports clock flat = without clock (port_numbers Input flat.signals (own_in (slice_get flat.places 0)) ports)

abbrev pub output_numbers : List Identifier → Flat → List ℕ
output_numbers ports flat = port_numbers Output flat.signals (own_in (slice_get flat.places 0)) ports

-- each of these signals has its flag
abbrev pub AreFlagged : (flags : List Bool) → (numbers : List ℕ) → Type 0
AreFlagged flags numbers = (k : ℕ) → Contains numbers k → IsTrue (slice_index_or flags k false)
