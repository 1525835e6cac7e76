-- What holds of the nets of a testbench whose items have no fault.
use Rattle.std.specs.Prelude.{◌≡◌, ℕ, Bool, List, [], length, slice_get}
use Rattle.std.specs.List.{All}
use Rattle.vlog_meaning.specs.Scopes.{Names}
use Rattle.elab_proc.specs.Refusals.{AreSized}
use Rattle.tb_nets.specs.declared.node.NetNode.{NetNode}
use Rattle.tb_nets.specs.declared.node.NetNode.TheVariants.{Assign, Design}
use Rattle.tb_nets.specs.Nets.{wiring, AreApart}
use Rattle.tb_checks.specs.Nets.{assign_faults}
use Rattle.tb_checks.specs.Processes.{process_faults}
use Rattle.tb_items.specs.declared.item.BenchItem.{BenchItem}
use Rattle.tb_items.specs.declared.item.BenchItem.TheVariants as b
use Rattle.tb_refusals.specs.Refusals.{Context, declared_start, generator_faults, AreFaultless}
use Rattle.tb_contents.specs.Nets.{nodes_of}

-- No bit has two writers.
abbrev pub NetsAreApart : Type 0
NetsAreApart = (c : Context) (items : List BenchItem) (inputs : List ℕ) → AreSized c.names → AreFaultless c items (length items) → AreApart (wiring c.names inputs c.outputs) (nodes_of items)

-- Nothing is wrong with the assignments among the nets.

abbrev pub IsClean : Names → NetNode → Type 0
IsClean names (Assign a) = assign_faults names a.left a.value ≡ []
IsClean names Design = Unit {0}

abbrev pub NetsAreClean : Type 0
NetsAreClean = (c : Context) (items : List BenchItem) → AreFaultless c items (length items) → All (IsClean c.names) (nodes_of items)

-- Nothing is wrong with the processes, nor with the start values.

abbrev pub IsCleanItem : Context → BenchItem → Type 0
IsCleanItem c (b.Runs p) = (may_start : Bool) × (process_faults c.names c.clock may_start p ≡ [])
IsCleanItem c (b.Starts k x) = declared_start c x (slice_get c.signals k) ≡ []
IsCleanItem c (b.Clocks at g) = generator_faults c g ≡ []
IsCleanItem c other = Unit {0}

abbrev pub ItemsAreClean : Type 0
ItemsAreClean = (c : Context) (items : List BenchItem) → AreFaultless c items (length items) → All (IsCleanItem c) items
