-- Which cells each cell reads, by a table of the drivers.
use Rattle.std.specs.Prelude.{◌≡◌, ℕ, ◌≤◌, List, [], ◌∷◌, ◌++◌, slice_get}
use Rattle.netlist_core.specs.declared.bit.Bit.{Bit}
use Rattle.netlist_core.specs.declared.bit.Bit.TheVariants.{Fixed, Net}
use Rattle.netlist_core.specs.declared.cell.Cell.{Cell as Gate}
use Rattle.netlist_core.specs.declared.drivers.Driver.{Driver}
use Rattle.netlist_core.specs.declared.drivers.Driver.TheVariants.{Nothing, Source, Cell}
use Rattle.netlist_core.specs.declared.raw.RawNetlist.{RawNetlist}
use Rattle.netlist_core.specs.Runs.{input_ports, output_port}
use Rattle.netlist_core.specs.Drivers.{times}
use Rattle.netlist_core.specs.Orders.{ports_of}

-- For proofs alone.

-- The cells that drive what is read, bit by bit.

-- the cell that drives, in front of others
abbrev pub with_source : Driver → List ℕ → List ℕ
with_source Nothing more = more
with_source Source more = more
with_source (Cell c) more = c ∷ more

abbrev pub sources : (ℕ → Driver) → List Bit → List ℕ
sources driver [] = []
sources driver (Fixed b ∷ more) = sources driver more
sources driver (Net n ∷ more) = with_source (driver n) (sources driver more)

abbrev pub sources_at : (ℕ → Driver) → List (List Bit) → List ℕ
sources_at driver [] = []
sources_at driver (bits ∷ more) = sources driver bits ++ sources_at driver more

-- for each cell those that it reads
abbrev pub all_sources : (ℕ → Driver) → List Gate → List (List ℕ)
all_sources driver [] = []
all_sources driver (cell ∷ more) = sources_at driver (input_ports cell.ports) ∷ all_sources driver more

-- the bits of a cell's Y
abbrev pub y_of : RawNetlist → ℕ → List Bit
y_of netlist c = output_port (ports_of (slice_get netlist.cells c))

-- a table names the driving cell of each net that a cell drives
pub record IsLinked (netlist : RawNetlist) (driver : ℕ → Driver) : Type 0 where
  pub drives : (n c : ℕ) → driver n ≡ Cell c → 1 ≤ times n (y_of netlist c)
  pub driven : (n c : ℕ) → 1 ≤ times n (y_of netlist c) → driver n ≡ Cell c
