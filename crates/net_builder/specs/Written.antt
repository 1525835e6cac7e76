-- What each net of a builder is written by: a bit that it is joined to, or a register.
use Rattle.std.specs.Prelude.{ℕ, Bool, true, false, ◌||◌, List, [], ◌∷◌, Option, None, Some, nat_eq, slice_index_or, if◌then◌else◌}
use Rattle.std.specs.List.{Contains}
use Rattle.netlist_core.specs.declared.bit.Bit.{Bit}
use Rattle.netlist_core.specs.declared.bit.Bit.TheVariants.{Fixed, Net}
use Rattle.netlist_core.specs.declared.port.Register.{Register}
use Rattle.net_builder.specs.Building.{Building}
use Rattle.net_builder.specs.declared.builder.Joint.{Joint}
use Rattle.net_builder.specs.declared.writers.Writer.{Writer}
use Rattle.net_builder.specs.declared.writers.Writer.TheVariants.{Nothing, Joined, Stored}
use Rattle.net_builder.specs.declared.writers.Writers.{Writers}

-- the net is joined, and it is a bit of a register
abbrev pub IsJoined : Building → ℕ → Type 0
IsJoined b n = (bit : Bit) × Contains b.joints (record { net = n; bit = bit })

abbrev pub IsStored : Building → ℕ → Type 0
IsStored b n = (r : Register) × Contains b.registers r × Contains r.q (Net n)

-- the bit that a net is joined to, by the first of the joints that name it
abbrev pub joint_of : List Joint → ℕ → Option Bit
joint_of [] n = None
joint_of (j ∷ more) n = if nat_eq n j.net then Some j.bit else joint_of more n

-- the net is one of the bits
abbrev pub has_net : List Bit → ℕ → Bool
has_net [] n = false
has_net (Fixed b ∷ more) n = has_net more n
has_net (Net m ∷ more) n = nat_eq n m || has_net more n

-- the net is a bit of a register's Q
abbrev pub is_stored : List Register → ℕ → Bool
is_stored [] n = false
is_stored (r ∷ more) n = has_net r.q n || is_stored more n

-- For proofs alone.

abbrev pub writer : Option Bit → Bool → Writer
writer (Some bit) stored = Joined bit
writer None true = Stored
writer None false = Nothing

-- what a net is written by, where these are the joints and the registers
abbrev pub writer_of : List Joint → List Register → ℕ → Writer
writer_of joints registers n = writer (joint_of joints n) (is_stored registers n)

-- The same as a table, net by net.

abbrev pub writer_in : List Writer → ℕ → Writer
writer_in table n = slice_index_or table n Nothing

abbrev pub writers_of : Writers → ℕ → Writer
writers_of w = writer_in w.table.items

abbrev pub no_writers : ℕ → Writer
no_writers n = Nothing

abbrev pub joined_by : Bit → Writer → Writer
joined_by bit (Joined b) = Joined b
joined_by bit Stored = Joined bit
joined_by bit Nothing = Joined bit

abbrev pub stored_by : Writer → Writer
stored_by (Joined b) = Joined b
stored_by Stored = Stored
stored_by Nothing = Stored

abbrev pub after_joint : ℕ → Bit → (ℕ → Writer) → ℕ → Writer
after_joint net bit f n = if nat_eq n net then joined_by bit (f n) else f n

abbrev pub after_stored : ℕ → (ℕ → Writer) → ℕ → Writer
after_stored net f n = if nat_eq n net then stored_by (f n) else f n

abbrev pub after_stores : List Bit → (ℕ → Writer) → ℕ → Writer
after_stores [] f = f
after_stores (Fixed b ∷ more) f = after_stores more f
after_stores (Net m ∷ more) f = after_stores more (after_stored m f)
