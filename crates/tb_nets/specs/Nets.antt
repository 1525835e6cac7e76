-- The nets of a testbench: continuous assignments, connections of the instance among them (IEEE 1364-2005, 6.1 and 12.3.9.2),
-- and the design, which reads the signals at its inputs and writes those at its outputs. Which of them reads which.
use Rattle.std.specs.Prelude.{◌≡◌, ℕ, true, false, ◌&&◌, ◌||◌, nat_eq, nat_lt, List, [], ◌∷◌, length, slice_get, Option, Some, None}
use Rattle.vlog_meaning.specs.Scopes.{Names}
use Rattle.vlog_meaning.specs.Senses.{Bits, sense, no_bits, either, IsWhole}
use Rattle.vlog_effects.specs.LeftSides.{parts_of}
use Rattle.signal_masks.specs.Parts.{AreFit, indices_read}
use Rattle.net_order.specs.Orders.{IsOnLoop, IsOrder}
use Rattle.tb_nets.specs.declared.node.NetNode.{NetNode}
use Rattle.tb_nets.specs.declared.node.NetNode.TheVariants.{Assign, Design}
use Rattle.tb_nets.specs.declared.nets.Nets.{Nets}
use Rattle.tb_nets.specs.Lefts.{left_writes}

-- The names that expressions see, and the numbers of the signals at the design's inputs and outputs.
pub record Wiring : Type 0 where
  pub names : Names
  pub inputs : List ℕ
  pub outputs : List ℕ

abbrev pub wiring : Names → List ℕ → List ℕ → Wiring
wiring names inputs outputs = record { names = names; inputs = inputs; outputs = outputs }

-- all bits of signals, of which each has at most 128
abbrev pub signal_bits : List ℕ → Bits
signal_bits [] n i = false
signal_bits (k ∷ more) n i = (nat_eq n k && nat_lt i 128) || signal_bits more n i

-- the bits that a node reads: the design reads all its inputs
abbrev pub node_reads : Wiring → NetNode → Bits
node_reads w (Assign a) = either (sense w.names a.value).reads (indices_read w.names (parts_of a.left))
node_reads w Design = signal_bits w.inputs

-- the bits that it writes: the design writes all its outputs
abbrev pub node_writes : Wiring → NetNode → Bits
node_writes w (Assign a) = left_writes w.names (parts_of a.left)
node_writes w Design = signal_bits w.outputs

-- the same of the node at a place, if there is one
abbrev pub reads_of : Wiring → Option NetNode → Bits
reads_of w None = no_bits
reads_of w (Some node) = node_reads w node

abbrev pub writes_of : Wiring → Option NetNode → Bits
writes_of w None = no_bits
writes_of w (Some node) = node_writes w node

-- node c reads a bit that node d writes
abbrev pub ReadsNode : Wiring → List NetNode → ℕ → ℕ → Type 0
ReadsNode w nodes c d = (n : ℕ) × (i : ℕ) × (reads_of w (slice_get nodes c) n i ≡ true) × (writes_of w (slice_get nodes d) n i ≡ true)

-- no bit has two writers
abbrev pub AreApart : Wiring → List NetNode → Type 0
AreApart w nodes = (c d n i : ℕ) → writes_of w (slice_get nodes c) n i ≡ true → writes_of w (slice_get nodes d) n i ≡ true → c ≡ d

-- nothing is wrong with the expressions of an assignment
abbrev pub IsSided : Names → NetNode → Type 0
IsSided names (Assign a) = IsWhole names a.value × AreFit names (parts_of a.left)
IsSided names Design = Unit {0}

-- the order of nets has each node behind all that it reads, and none is on a loop
pub record IsSettled (w : Wiring) (nets : Nets) : Type 0 where
  pub order : IsOrder (length nets.nodes) (ReadsNode w nets.nodes) nets.order
  pub never : (c : ℕ) → ¬ IsOnLoop (ReadsNode w nets.nodes) c
