-- How many turns the loops of a flattened design take: at most 1,000,000 together. They are counted item by item, before any is built.
use Rattle.std.specs.Prelude.{◌≡◌, ℕ, ◌+◌, ◌-◌, ◌<◌, ◌≤◌, nat_lt, List, [], ◌∷◌, length, take, Option, None, Some, if◌then◌else◌}
use Rattle.loop_turns.specs.Counts.{process_turns}
use Rattle.flat_instances.specs.Places.{Place}
use Rattle.flat_instances.specs.declared.item.FlatItem.{FlatItem}
use Rattle.flat_instances.specs.declared.item.FlatItem.TheVariants as f
use Rattle.elab_items.specs.Starts.{names_at}

-- the most turns of all loops
abbrev pub max_turns : ℕ
max_turns = 1000000

abbrev pub item_turns : List Place → FlatItem → ℕ
item_turns places (f.Runs k p) = process_turns (names_at places k) p
item_turns places other = 0

abbrev pub turns_in : List Place → List FlatItem → ℕ
turns_in places [] = 0
turns_in places (item ∷ more) = item_turns places item + turns_in places more

-- the items before the first one with which there are more turns than so many
abbrev pub within : List Place → (left : ℕ) → List FlatItem → List FlatItem
within places left [] = []
within places left (item ∷ more) = if nat_lt left (item_turns places item) then [] else item ∷ within places (left - item_turns places item) more

-- so many items stand before the first one with which there are more turns, or there are not more
abbrev pub IsPast : List Place → (left : ℕ) → List FlatItem → Option ℕ → Type 0
IsPast places left items None = turns_in places items ≤ left
IsPast places left items (Some k) = (k ≤ length items) × (within places left items ≡ take k items) × (left < turns_in places items)
