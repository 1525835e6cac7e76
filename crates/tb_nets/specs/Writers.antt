-- Which nodes write the bits of each signal, as a table: for each signal a list of nodes with the bits that each writes.
use Rattle.std.specs.Prelude.{◌≡◌, ℕ, Bool, true, false, not, ◌&&◌, ◌||◌, nat_eq, nat_lt, bit_and, List, [], ◌∷◌, ◌++◌, length, map, slice_get, slice_index_or, if◌then◌else◌}
use Rattle.std.specs.List.{Contains}
use Rattle.vlog_meaning.specs.Senses.{Bits}
use Rattle.signal_masks.specs.declared.mask.Mask.{Mask}
use Rattle.signal_masks.specs.Masks.{has_bit}
use Rattle.net_order.specs.Orders.{row_of}
use Rattle.tb_nets.specs.declared.node.NetNode.{NetNode}
use Rattle.tb_nets.specs.declared.table.Writer.{Writer}
use Rattle.tb_nets.specs.declared.table.Writers.{Writers}
use Rattle.tb_nets.specs.Nets.{Wiring, writes_of, ReadsNode}

-- For proofs alone.

-- one of the writers is node d and writes bit i
abbrev pub some_writes : List Writer → ℕ → ℕ → Bool
some_writes [] i d = false
some_writes (w ∷ more) i d = (nat_eq d w.node && has_bit w.bits i) || some_writes more i d

abbrev pub rows_of : Writers → List (List Writer)
rows_of t = map (λ row. row.items) t.rows.items

-- node d writes bit i of signal n
abbrev pub writes_in : List (List Writer) → ℕ → ℕ → ℕ → Bool
writes_in rows n i d = some_writes (slice_index_or rows n []) i d

-- the table has what the first nodes write, so many
abbrev pub AreWriters : Wiring → List NetNode → ℕ → List (List Writer) → Type 0
AreWriters w nodes count rows = (n i d : ℕ) → writes_in rows n i d ≡ (nat_lt d count && writes_of w (slice_get nodes d) n i)

-- whether two numbers have a bit in common
abbrev pub shares : ℕ → ℕ → Bool
shares a b = not (nat_eq (bit_and a b) 0)

-- the writers that write one of the bits, in front of more
abbrev pub with_sharing : ℕ → Writer → List ℕ → List ℕ
with_sharing bits w more = if shares w.bits bits then w.node ∷ more else more

abbrev pub sharing : ℕ → List Writer → List ℕ
sharing bits [] = []
sharing bits (w ∷ more) = with_sharing bits w (sharing bits more)

-- the nodes that write one of the bits of masks
abbrev pub all_sharing : List (List Writer) → List Mask → List ℕ
all_sharing rows [] = []
all_sharing rows (m ∷ more) = sharing m.bits (slice_index_or rows m.number []) ++ all_sharing rows more

-- the nodes of a list are those that write one of the bits
pub record AreWritersOf (writes : ℕ → ℕ → ℕ → Bool) (bits : Bits) (row : List ℕ) : Type 0 where
  pub sound : (d : ℕ) → Contains row d → (n : ℕ) × (i : ℕ) × (bits n i ≡ true) × (writes n i d ≡ true)
  pub covers : (d n i : ℕ) → bits n i ≡ true → writes n i d ≡ true → Contains row d

-- a list for each node: those that write what it reads
pub record IsGraph (w : Wiring) (nodes : List NetNode) (graph : List (List ℕ)) : Type 0 where
  pub count : length graph ≡ length nodes
  pub sound : (c d : ℕ) → Contains (row_of graph c) d → ReadsNode w nodes c d
  pub covers : (c d : ℕ) → ReadsNode w nodes c d → Contains (row_of graph c) d
