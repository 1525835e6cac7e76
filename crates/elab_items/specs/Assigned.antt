-- What an item assigns: bits of nets, and variables.
use Rattle.std.specs.Prelude.{ℕ, List, [], ◌∷◌, map}
use Rattle.vlog_syntax.specs.declared.item.Process.{Process}
use Rattle.vlog_syntax.specs.declared.left_side.LeftSide.TheVariants as l
use Rattle.vlog_meaning.specs.Scopes.{Names}
use Rattle.vlog_effects.specs.LeftSides.{parts_of}
use Rattle.process_latches.specs.declared.marks.Write.{Write}
use Rattle.process_latches.specs.Sound.{sound}
use Rattle.process_latches.specs.Writes.{writes}
use Rattle.process_cells.specs.Items.{process_steps}
use Rattle.flat_assigns.specs.Forms.{form_parts}
use Rattle.flat_assigns.specs.Sides.{slices}
use Rattle.flat_assigns.specs.Writers.{Target, targets}
use Rattle.flat_instances.specs.Places.{Place}
use Rattle.flat_instances.specs.declared.item.FlatItem.{FlatItem}
use Rattle.flat_instances.specs.declared.item.FlatItem.TheVariants as f
use Rattle.elab_items.specs.Starts.{names_at}

-- the bits that a left side writes, part by part from the left: that of an `assign`, of a net with an initial value, or what an output
-- of an instance is connected to
abbrev pub item_targets : List Place → FlatItem → List Target
item_targets places (f.Assigns k left right) = targets (slices (names_at places k) (parts_of left))
item_targets places (f.Drives k net value) = targets (slices (names_at places k) (parts_of (l.Name net)))
item_targets places (f.Leaves k value inside port) = targets (slices (names_at places k) (form_parts value))
item_targets places other = []

-- the variables that the statements of a process assign, as often as they do
abbrev pub process_writes : Names → Process → List Write
process_writes names p = writes (sound (process_steps names p))

-- For proofs alone.

-- the numbers of the signals that an item gives a value
abbrev pub item_numbers : List Place → FlatItem → List ℕ
item_numbers places (f.Enters port k value) = port ∷ []
item_numbers places (f.Open port) = port ∷ []
item_numbers places (f.Runs k p) = map (λ w. w.number) (process_writes (names_at places k) p)
item_numbers places other = map (λ t. t.place.signal) (item_targets places other)
