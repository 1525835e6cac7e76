-- The design that a flattened design is: its signals, and what its items mean.
use Rattle.std.specs.Prelude.{◌≡◌, ℕ, Bool, true, false, not, ◌||◌, List, [], ◌∷◌, ◌++◌, Option, None, Some, nat_eq, slice_get, if◌then◌else◌}
use Rattle.vlog_syntax.specs.declared.identifier.Identifier.{Identifier}
use Rattle.vlog_syntax.specs.declared.item.Direction.{Direction}
use Rattle.vlog_syntax.specs.declared.item.Direction.TheVariants.{Input, Output}
use Rattle.flat_scopes.specs.declared.signal.Signal.{Signal}
use Rattle.flat_scopes.specs.declared.signal.What.{What}
use Rattle.flat_scopes.specs.declared.signal.What.TheVariants.{Variable}
use Rattle.flat_scopes.specs.Owns.{Own}
use Rattle.flat_runs.specs.Meanings.{Meaning, Assign, Combinational, Clocked}
use Rattle.flat_runs.specs.Designs.{Design}
use Rattle.flat_items.specs.Flattened.{Flat}
use Rattle.flat_items.specs.Tops.{own_in}
use Rattle.flat_instances.specs.declared.item.FlatItem.{FlatItem}
use Rattle.flat_instances.specs.declared.item.FlatItem.TheVariants.{Declares}
use Rattle.process_cells.specs.Items.{Widths}
use Rattle.elab_items.specs.Starts.{start_values}
use Rattle.elab_items.specs.Meanings.{AllMean}

-- Signals, by their numbers.

abbrev pub width_in : Option Signal → ℕ
width_in None = 0
width_in (Some s) = s.bits.width

abbrev pub widths_of : List Signal → Widths
widths_of signals k = width_in (slice_get signals k)

-- The ports of the top, in the order of its head. The top's scope is the first one.

abbrev pub is_input : Direction → Bool
is_input Input = true
is_input Output = false

abbrev pub has_direction : Direction → Option Direction → Bool
has_direction Input (Some d) = is_input d
has_direction Output (Some d) = not (is_input d)
has_direction wanted None = false

abbrev pub direction_in : Option Signal → Option Direction
direction_in None = None
direction_in (Some s) = s.direction

abbrev pub port_number : Direction → List Signal → Option What → List ℕ
port_number d signals (Some (Variable k)) = if has_direction d (direction_in (slice_get signals k)) then k ∷ [] else []
port_number d signals other = []

-- the numbers of the ports of a direction
abbrev pub port_numbers : Direction → List Signal → Own → List Identifier → List ℕ
port_numbers d signals own [] = []
port_numbers d signals own (port ∷ more) = port_number d signals (own port.name) ++ port_numbers d signals own more

abbrev pub is_clock : Option ℕ → ℕ → Bool
is_clock None k = false
is_clock (Some c) k = nat_eq c k

abbrev pub without : Option ℕ → List ℕ → List ℕ
without clock [] = []
without clock (k ∷ more) = if is_clock clock k then without clock more else k ∷ without clock more

-- Registers: the variables that clocked processes assign, in the order in which they are declared.

abbrev pub has : List ℕ → ℕ → Bool
has [] k = false
has (n ∷ more) k = nat_eq n k || has more k

abbrev pub stores : Meaning → ℕ → Bool
stores (Assign left value) k = false
stores (Combinational variables effect) k = false
stores (Clocked variables effect) k = has variables k

abbrev pub some_stores : List Meaning → ℕ → Bool
some_stores [] k = false
some_stores (m ∷ more) k = stores m k || some_stores more k

abbrev pub register_of : List Meaning → FlatItem → List ℕ
register_of ms (Declares k) = if some_stores ms k then k ∷ [] else []
register_of ms other = []

abbrev pub registers_of : List Meaning → List FlatItem → List ℕ
registers_of ms [] = []
registers_of ms (item ∷ more) = register_of ms item ++ registers_of ms more

-- The design whose top has these ports, with this clock or none, where the items mean this.
abbrev pub design_of : List Identifier → Option ℕ → Flat → List Meaning → Design
design_of ports clock flat ms =
    let own = own_in (slice_get flat.places 0) in
    let width = widths_of flat.signals in
    record {
      items = ms;
      width = width;
      start = start_values width flat.places flat.items;
      inputs = without clock (port_numbers Input flat.signals own ports);
      outputs = port_numbers Output flat.signals own ports;
      registers = registers_of ms flat.items;
    }

abbrev pub IsDesign : List Identifier → Option ℕ → Flat → Design → Type 0
IsDesign ports clock flat design = (ms : List Meaning) × AllMean (widths_of flat.signals) flat.places flat.items ms × (design ≡ design_of ports clock flat ms)
