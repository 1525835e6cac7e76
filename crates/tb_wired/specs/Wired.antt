-- What comes of the items of a testbench that have no fault: its nets, which can settle, or the place of the first one on a loop.
use Rattle.std.specs.Prelude.{◌≡◌, ℕ, ◌<◌, List, [], ◌∷◌, length, slice_get, Some}
use Rattle.std.specs.List.{All, flat_map}
use Rattle.mcy_base.specs.declared.span.Span.{Span}
use Rattle.vlog_syntax.specs.Places.{left_first_token}
use Rattle.vlog_meaning.specs.Scopes.{Names}
use Rattle.net_order.specs.Orders.{IsOnLoop, IsFirst}
use Rattle.tb_items.specs.declared.item.BenchItem.{BenchItem}
use Rattle.tb_items.specs.declared.item.BenchItem.TheVariants as b
use Rattle.tb_contents.specs.Nets.{nodes_of}
use Rattle.tb_nets.specs.Nets.{wiring, ReadsNode}
use Rattle.tb_settling.specs.Settling.{CanSettle}
use Rattle.tb_refusals.specs.Refusals.{Context, AreFaultless}
use Rattle.tb_wired.specs.declared.wired.Wired.{Wired}
use Rattle.tb_wired.specs.declared.wired.Wired.TheVariants.{Nets, Loop}

-- the place of the node that an item is, if it is one: that of what it writes, or of the instance of the design
abbrev pub item_places : BenchItem → List Span
item_places (b.Drives name x) = name.span ∷ []
item_places (b.Assigns a) = left_first_token a.left ∷ []
item_places (b.Holds at) = at ∷ []
item_places (b.Enters port x) = port.span ∷ []
item_places (b.Leaves port left) = port.span ∷ []
item_places other = []

abbrev pub places_of : List BenchItem → List Span
places_of = flat_map item_places

-- items have no fault, where these are the names and the hidden signals of the design's outputs
pub record IsFaultless (names : Names) (outputs : List ℕ) (items : List BenchItem) : Type 0 where
  pub context : Context
  pub names_are : context.names ≡ names
  pub outputs_are : context.outputs ≡ outputs
  pub none : AreFaultless context items (length items)

abbrev pub IsWired : Names → (inputs outputs : List ℕ) → List BenchItem → Wired → Type 0
IsWired names inputs outputs items (Nets nets) = (nets.nodes ≡ nodes_of items) × ((widths : List ℕ) → All (λ k. k < length widths) inputs → All (λ k. k < length widths) outputs → CanSettle names widths inputs outputs nets)
IsWired names inputs outputs items (Loop at) = (k : ℕ) × IsFirst (IsOnLoop (ReadsNode (wiring names inputs outputs) (nodes_of items))) k × (slice_get (places_of items) k ≡ Some at)
