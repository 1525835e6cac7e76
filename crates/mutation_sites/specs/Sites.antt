-- The sites of a netlist, in their order: by place, port, bit and mode. Places are the cells and then the registers.
use Rattle.std.specs.Prelude.{ℕ, ◌+◌, List, [], ◌∷◌, ◌++◌, map, length}
use Rattle.netlist_core.specs.declared.bit.Bit.{Bit}
use Rattle.netlist_core.specs.declared.cell.Cell.{Cell as Gate}
use Rattle.netlist_core.specs.declared.port.Register.{Register as Flop}
use Rattle.netlist_core.specs.declared.raw.RawNetlist.{RawNetlist}
use Rattle.mutation_sites.specs.declared.mode.Mode.{Mode}
use Rattle.mutation_sites.specs.declared.mode.ModeSet.{ModeSet}
use Rattle.mutation_sites.specs.declared.site.Place.{Place}
use Rattle.mutation_sites.specs.declared.site.Place.TheVariants.{Cell, Register}
use Rattle.mutation_sites.specs.declared.site.Site.{Site}
use Rattle.mutation_sites.specs.Modes.{modes_of, set_at}

-- the sites at a bit: one for each mode
abbrev pub bit_sites : List Mode → Place → ℕ → ℕ → List Site
bit_sites modes place p i = map (λ mode. record { mode = mode; place = place; port = p; bit = i }) modes

-- the sites at the bits of a port, from this bit on
abbrev pub bits_sites : List Mode → Place → ℕ → ℕ → List Bit → List Site
bits_sites modes place p i [] = []
bits_sites modes place p i (bit ∷ more) = bit_sites modes place p i ++ bits_sites modes place p (i + 1) more

-- the sites at a port
abbrev pub port_sites : ModeSet → Place → ℕ → List Bit → List Site
port_sites set place p bits = bits_sites (modes_of (set_at set (length bits))) place p 0 bits

-- the sites at ports, from this port on
abbrev pub ports_sites : ModeSet → Place → ℕ → List (List Bit) → List Site
ports_sites set place p [] = []
ports_sites set place p (bits ∷ more) = port_sites set place p bits ++ ports_sites set place (p + 1) more

-- the sites at cells, from this cell on
abbrev pub cells_sites : ModeSet → ℕ → List Gate → List Site
cells_sites set c [] = []
cells_sites set c (cell ∷ more) = ports_sites set (Cell c) 0 cell.ports ++ cells_sites set (c + 1) more

-- the sites at registers, from this register on: D, then Q
abbrev pub registers_sites : ModeSet → ℕ → List Flop → List Site
registers_sites set r [] = []
registers_sites set r (register ∷ more) = port_sites set (Register r) 0 register.d ++ (port_sites set (Register r) 1 register.q ++ registers_sites set (r + 1) more)

-- the sites of the netlist
abbrev pub sites : ModeSet → RawNetlist → List Site
sites set netlist = cells_sites set 0 netlist.cells ++ registers_sites set 0 netlist.registers
