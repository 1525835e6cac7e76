-- The mutant of a netlist at a site: its equations with one replaced, the one at the site.
use Rattle.std.specs.Prelude.{◌≡◌, ℕ, zero, suc, ◌+◌, ◌≤◌, ◌<◌, ◌%◌, Bool, true, false, not, ◌&&◌, List, [], ◌∷◌, ◌++◌, length, map, take, slice_get, slice_set, slice_index_or, Option, Some, None, nat_eq, if◌then◌else◌}
use Rattle.netlist_core.specs.declared.bit.Bit.{Bit}
use Rattle.netlist_core.specs.declared.bit.Bit.TheVariants.{Fixed, Net}
use Rattle.netlist_core.specs.declared.cell.Cell.{Cell as Gate}
use Rattle.netlist_core.specs.declared.cell.CellKind.{CellKind}
use Rattle.netlist_core.specs.declared.cell.CellKind.TheVariants.{Not, Xor, Xnor}
use Rattle.netlist_core.specs.declared.port.Port as port
use Rattle.netlist_core.specs.declared.port.Register.{Register as Flop}
use Rattle.netlist_core.specs.declared.raw.RawNetlist.{RawNetlist}
use Rattle.netlist_core.specs.Runs.{Nets, Reader, Port, Next, Sight, values, bits_at, q_bits, Holds, taken, IsRun, IsRunBy, plain, outputs_by}
use Rattle.netlist_core.specs.Settled.{with_net}
use Rattle.netlist_core.specs.Drivers.{drivers}
use Rattle.netlist_core.specs.Shapes.{widths}
use Rattle.netlist_core.specs.Orders.{ports_of}
use Rattle.mutation_sites.specs.declared.mode.Mode.{Mode}
use Rattle.mutation_sites.specs.declared.mode.Mode.TheVariants.{Inv, Const0, Const1, Cnot0, Cnot1}
use Rattle.mutation_sites.specs.declared.site.Place.{Place}
use Rattle.mutation_sites.specs.declared.site.Place.TheVariants.{Cell, Register}
use Rattle.mutation_sites.specs.declared.site.Site.{Site}
use Rattle.mutation_sites.specs.declared.readers.Readers.{Readers}
use Rattle.mutation_sites.specs.declared.readers.Readers.TheVariants.{Nobody, OfPort, OfNext, OfNet}
use Rattle.mutation_sites.specs.declared.readers.Change.{Change}
use Rattle.mutation_sites.specs.declared.readers.Change.TheVariants.{Nothing, AtBit, AtNet}

-- the mutated bit, from the unmutated bit and the unmutated control bit (modes of Yosys's `mutate`)
abbrev pub mutated : Mode → Bool → Bool → Bool
mutated Inv bit control = not bit
mutated Const0 bit control = false
mutated Const1 bit control = true
mutated Cnot0 bit control = if control then bit else not bit
mutated Cnot1 bit control = if control then not bit else bit

-- the D or the Q of a register
abbrev pub register_port : Option Flop → ℕ → List Bit
register_port None p = []
register_port (Some register) zero = register.d
register_port (Some register) (suc p) = register.q

-- the bits at a port of a place
abbrev pub port_at : RawNetlist → Place → ℕ → List Bit
port_at netlist (Cell c) p = slice_index_or (ports_of (slice_get netlist.cells c)) p []
port_at netlist (Register r) p = register_port (slice_get netlist.registers r) p

-- there is a bit at the site
abbrev pub IsSite : RawNetlist → Site → Type 0
IsSite netlist site = site.bit < length (port_at netlist site.place site.port)

-- the mutated bit at bit i of these bits; the control bit is the next one, and after the last the first
abbrev pub mutated_at : Mode → ℕ → List Bool → Bool
mutated_at mode i bits = mutated mode (slice_index_or bits i false) (slice_index_or bits ((i + 1) % length bits) false)

-- Who reads the mutated bit. At a Y or a Q, all readers of its net.
abbrev pub readers_of_bit : Bit → Readers
readers_of_bit (Fixed b) = Nobody
readers_of_bit (Net n) = OfNet n

-- At an input port, the cell alone.
abbrev pub readers_at_port : ℕ → ℕ → ℕ → List (List Bit) → Readers
readers_at_port c p i ports = if nat_eq (p + 1) (length ports) then readers_of_bit (slice_index_or (slice_index_or ports p []) i (Fixed false)) else OfPort c p i

-- At a D, the register alone.
abbrev pub readers_at_register : ℕ → ℕ → ℕ → List Bit → Readers
readers_at_register r zero i q = OfNext r i
readers_at_register r (suc p) i q = readers_of_bit (slice_index_or q i (Fixed false))

abbrev pub readers_at : RawNetlist → Place → ℕ → ℕ → Readers
readers_at netlist (Cell c) p i = readers_at_port c p i (ports_of (slice_get netlist.cells c))
readers_at netlist (Register r) p i = readers_at_register r p i (register_port (slice_get netlist.registers r) 1)

-- what changes for a reader
abbrev pub change_of : Readers → Reader → Change
change_of (OfPort c p i) (Port d q) = if nat_eq c d && nat_eq p q then AtBit i else Nothing
change_of (OfNext r i) (Next s) = if nat_eq r s then AtBit i else Nothing
change_of (OfNet n) reader = AtNet n
change_of readers reader = Nothing

-- what a reader sees at its bits, where the mutated bit has this value
abbrev pub seen : Change → Bool → Nets → List Bit → List Bool
seen Nothing v nets bits = values nets bits
seen (AtBit i) v nets bits = slice_set (values nets bits) i v
seen (AtNet n) v nets bits = values (with_net nets n v) bits

-- the mutated bit at a site
abbrev pub mutated_value : RawNetlist → Site → Nets → Bool
mutated_value netlist site nets = mutated_at site.mode site.bit (values nets (port_at netlist site.place site.port))

-- what readers see in the mutant at a site
abbrev pub sight_at : RawNetlist → Site → Nets → Sight
sight_at netlist site nets reader bits = seen (change_of (readers_at netlist site.place site.port site.bit) reader) (mutated_value netlist site nets) nets bits

-- Each run of a mutant has the values of a run of the netlist with the equation at the site replaced, and shows the same; in each
-- cycle the registers take the same.
pub record RunsAlike (netlist mutant : RawNetlist) (site : Site) : Type 0 where
  pub runs : (state : List ℕ) (inputs : List (List ℕ)) (cycles : List Nets) → IsRun mutant state inputs cycles → IsRunBy (sight_at netlist site) netlist state inputs cycles
  pub outputs : (state : List ℕ) (inputs : List (List ℕ)) (cycles : List Nets) → IsRun mutant state inputs cycles → outputs_by plain mutant cycles ≡ outputs_by (sight_at netlist site) netlist cycles
  pub next : (inputs state : List ℕ) (nets : Nets) → Holds (plain nets) nets mutant inputs state → taken (plain nets) 0 mutant.registers ≡ taken (sight_at netlist site nets) 0 netlist.registers

-- the values of a cycle, with the mutated bit at a net that is new
abbrev pub with_mutated : RawNetlist → Site → ℕ → Nets → Nets
with_mutated netlist site fresh nets = with_net nets fresh (mutated_value netlist site nets)

-- Each run of the netlist with the equation at the site replaced is one of the mutant, with a value for the new net, and shows the
-- same; in each cycle the registers take the same.
pub record HasEachRun (netlist mutant : RawNetlist) (site : Site) : Type 0 where
  pub fresh : ℕ
  pub unused : drivers netlist fresh ≡ 0
  pub runs : (state : List ℕ) (inputs : List (List ℕ)) (cycles : List Nets) → IsRunBy (sight_at netlist site) netlist state inputs cycles → IsRun mutant state inputs (map (with_mutated netlist site fresh) cycles)
  pub outputs : (cycles : List Nets) → outputs_by plain mutant (map (with_mutated netlist site fresh) cycles) ≡ outputs_by (sight_at netlist site) netlist cycles
  pub next : (nets : Nets) → taken (plain (with_mutated netlist site fresh nets)) 0 mutant.registers ≡ taken (sight_at netlist site nets) 0 netlist.registers

-- The mutant has the netlist's inputs, registers with the same Q's, and kinds of cells, and at most one cell more, the last.
pub record HasOneMore (netlist mutant : RawNetlist) : Type 0 where
  pub inputs : mutant.inputs ≡ netlist.inputs
  pub registers : q_bits mutant.registers ≡ q_bits netlist.registers
  pub count : length mutant.cells ≤ length netlist.cells + 1
  pub kinds : take (length netlist.cells) (map (λ (cell : Gate). cell.kind) mutant.cells) ≡ map (λ (cell : Gate). cell.kind) netlist.cells

-- The mutant's outputs have the netlist's names and widths, and its registers the netlist's names and start values.
pub record HasSameNames (netlist mutant : RawNetlist) : Type 0 where
  pub outputs : map (λ (p : port.Port). p.name) mutant.outputs ≡ map (λ (p : port.Port). p.name) netlist.outputs
  pub widths : map length (bits_at mutant.outputs) ≡ map length (bits_at netlist.outputs)
  pub registers : map (λ (r : Flop). r.name) mutant.registers ≡ map (λ (r : Flop). r.name) netlist.registers
  pub starts : map (λ (r : Flop). r.start.bits) mutant.registers ≡ map (λ (r : Flop). r.start.bits) netlist.registers

-- the kind of a cell, and the widths of its ports
pub record CellShape : Type 0 where
  pub kind : CellKind
  pub widths : List ℕ

abbrev pub cell_shape : Gate → CellShape
cell_shape cell = record { kind = cell.kind; widths = widths cell.ports }

-- the cell that drives the mutated bit, none where it is a constant
abbrev pub driver_shapes : Mode → List CellShape
driver_shapes Inv = record { kind = Not; widths = 1 ∷ 1 ∷ [] } ∷ []
driver_shapes Const0 = []
driver_shapes Const1 = []
driver_shapes Cnot0 = record { kind = Xnor; widths = 1 ∷ 1 ∷ 1 ∷ [] } ∷ []
driver_shapes Cnot1 = record { kind = Xor; widths = 1 ∷ 1 ∷ 1 ∷ [] } ∷ []

-- The mutant's cells have the netlist's kinds and widths, and behind them stands the one that drives the mutated bit.
abbrev pub HasSameShapes : RawNetlist → RawNetlist → Mode → Type 0
HasSameShapes netlist mutant mode = map cell_shape mutant.cells ≡ map cell_shape netlist.cells ++ driver_shapes mode
