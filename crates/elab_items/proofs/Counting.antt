-- How many cells an item adds.
use Rattle.elab_items.proofs.Common.{◌≡◌, ℕ, ◌+◌, ◌≤◌, Bool, List, length, sym, ap, ◌∙◌, subst, arith, length-append, length-map, Steps, Building, Made, made_of, max_cells, AddsBy, AddsMeaning}
use Rattle.elab_items.proofs.Common.{BuildsBy, cells_by, meaning_of, process_steps, widths_in, clocked_adds, combinational_adds, Place, FlatItem, AddsCells, Builds, cell_count, item_cells, names_at}
use Rattle.process_events.specs.Events.{Sensitivity, Once, Combinational, Clocked, Refused, sensitivity}
use Rattle.flat_instances.specs.declared.item.FlatItem.TheVariants as f

-- cells of a right side
cells_more : (old new : Building) (made : List Made) → AddsCells old new made → length new.cells ≡ length old.cells + length made
cells_more old new made h =
    ap length h.cells ∙ length-append old.cells h.more ∙ ap (λ (n : ℕ). length old.cells + n) (sym (length-map h.more made_of) ∙ ap length h.are)

-- cells of statements
steps_more : (when : Sensitivity) (steps : Steps) (old new : Building) → AddsBy when steps old new → length new.cells ≡ length old.cells + cells_by when steps
steps_more when steps old new h = ap length h.cells_are ∙ length-append old.cells h.cells ∙ ap (λ (n : ℕ). length old.cells + n) h.count

none_more : (old new : Building) → new ≡ old → length new.cells ≡ length old.cells + 0
none_more old new is = let same : length new.cells ≡ length old.cells = ap (λ (b : Building). length b.cells) is in omega arith

by_count : (when : Sensitivity) (steps : Steps) (old new : Building) → BuildsBy when steps old new → AddsMeaning old new (meaning_of (widths_in old) when steps) → length new.cells ≡ length old.cells + cells_by when steps
by_count Combinational steps old new parts adds = steps_more Combinational steps old new (combinational_adds steps old new parts adds)
by_count (Clocked clock) steps old new parts adds = steps_more (Clocked clock) steps old new (clocked_adds clock steps old new parts adds)
by_count Once steps old new parts adds = none_more old new parts
by_count (Refused at feature) steps old new parts adds = none_more old new parts

-- an item adds as many as it is said to
pub built_count : (inputs : List Bool) (places : List Place) (item : FlatItem) (old new : Building) → Builds inputs places item old new → length new.cells ≡ length old.cells + cell_count (widths_in old) places item
built_count inputs places (f.Declares k) old new h = cells_more old new (item_cells (widths_in old) places (f.Declares k)) h.parts
built_count inputs places (f.Assigns k left right) old new h = cells_more old new (item_cells (widths_in old) places (f.Assigns k left right)) h.parts
built_count inputs places (f.Drives k net value) old new h = cells_more old new (item_cells (widths_in old) places (f.Drives k net value)) h.parts
built_count inputs places (f.Enters port k value) old new h = cells_more old new (item_cells (widths_in old) places (f.Enters port k value)) h.parts
built_count inputs places (f.Open port) old new h = cells_more old new (item_cells (widths_in old) places (f.Open port)) h.parts
built_count inputs places (f.Leaves k value inside port) old new h = cells_more old new (item_cells (widths_in old) places (f.Leaves k value inside port)) h.parts
built_count inputs places (f.Starts number k value) old new h = cells_more old new (item_cells (widths_in old) places (f.Starts number k value)) h.parts
built_count inputs places (f.Refuses error) old new h = cells_more old new (item_cells (widths_in old) places (f.Refuses error)) h.parts
built_count inputs places (f.Runs k p) old new h =
    by_count (sensitivity p) (process_steps (names_at places k) p) old new h.parts (subst (AddsMeaning old new) h.means h.adds)

-- so they fit where what was built does
pub cells_fit : (inputs : List Bool) (places : List Place) (item : FlatItem) (old new : Building) → Builds inputs places item old new → length new.cells ≤ max_cells → length old.cells + cell_count (widths_in old) places item ≤ max_cells
cells_fit inputs places item old new h few = subst (λ (n : ℕ). n ≤ max_cells) (built_count inputs places item old new h) few
