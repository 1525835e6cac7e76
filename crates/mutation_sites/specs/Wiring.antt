-- The parts of a mutant: the netlist's, where readers of the mutated bit are connected to a new one, and at most one cell more,
-- which drives it.
use Rattle.std.specs.Prelude.{◌≡◌, ℕ, ◌+◌, ◌%◌, ◌^◌, ◌<◌, ◌≤◌, true, false, List, [], ◌∷◌, ◌++◌, map, length, slice_get, slice_set, slice_index_or, Option, None, Some, nat_eq, if◌then◌else◌}
use Rattle.mcy_base.specs.declared.span.Span.{Span}
use Rattle.netlist_core.specs.declared.bit.Bit.{Bit}
use Rattle.netlist_core.specs.declared.bit.Bit.TheVariants.{Fixed, Net}
use Rattle.netlist_core.specs.declared.cell.Cell.{Cell as Gate}
use Rattle.netlist_core.specs.declared.cell.CellKind.TheVariants.{Not, Xor, Xnor}
use Rattle.netlist_core.specs.declared.port.Port as port
use Rattle.netlist_core.specs.declared.port.Register.{Register as Flop}
use Rattle.netlist_core.specs.declared.raw.RawNetlist.{RawNetlist}
use Rattle.netlist_core.specs.Runs.{Port, Next, Outputs}
use Rattle.netlist_core.specs.Drivers.{drivers}
use Rattle.netlist_core.specs.Checked.{Plan}
use Rattle.mutation_sites.specs.declared.mode.Mode.{Mode}
use Rattle.mutation_sites.specs.declared.mode.Mode.TheVariants.{Inv, Const0, Const1, Cnot0, Cnot1}
use Rattle.mutation_sites.specs.declared.site.Place.{Place}
use Rattle.mutation_sites.specs.declared.site.Place.TheVariants.{Cell, Register}
use Rattle.mutation_sites.specs.declared.site.Site.{Site}
use Rattle.mutation_sites.specs.declared.readers.Readers.{Readers}
use Rattle.mutation_sites.specs.declared.readers.Change.{Change}
use Rattle.mutation_sites.specs.declared.readers.Change.TheVariants.{Nothing, AtBit, AtNet}
use Rattle.mutation_sites.specs.Mutants.{change_of, readers_at, port_at}

-- a bit, where a net is replaced
abbrev pub replaced : ℕ → Bit → Bit → Bit
replaced n new (Fixed b) = Fixed b
replaced n new (Net m) = if nat_eq m n then new else Net m

-- a reader's bits with the change, which connects it to a new bit
abbrev pub connected : Change → Bit → List Bit → List Bit
connected Nothing new bits = bits
connected (AtBit i) new bits = slice_set bits i new
connected (AtNet n) new bits = map (replaced n new) bits

-- the input ports of a cell from this port on, and Y, which reads nothing
abbrev pub ports_connected : Readers → Bit → ℕ → ℕ → List (List Bit) → List (List Bit)
ports_connected readers new c p [] = []
ports_connected readers new c p (y ∷ []) = y ∷ []
ports_connected readers new c p (a ∷ b ∷ more) = connected (change_of readers (Port c p)) new a ∷ ports_connected readers new c (p + 1) (b ∷ more)

abbrev pub cell_connected : Readers → Bit → ℕ → Gate → Gate
cell_connected readers new c cell = record { kind = cell.kind; is_signed = cell.is_signed; ports = ports_connected readers new c 0 cell.ports; span = cell.span }

abbrev pub cells_connected : Readers → Bit → ℕ → List Gate → List Gate
cells_connected readers new c [] = []
cells_connected readers new c (cell ∷ more) = cell_connected readers new c cell ∷ cells_connected readers new (c + 1) more

abbrev pub register_connected : Readers → Bit → ℕ → Flop → Flop
register_connected readers new r register = record { name = register.name; span = register.span; d = connected (change_of readers (Next r)) new register.d; q = register.q; start = register.start }

abbrev pub registers_connected : Readers → Bit → ℕ → List Flop → List Flop
registers_connected readers new r [] = []
registers_connected readers new r (register ∷ more) = register_connected readers new r register ∷ registers_connected readers new (r + 1) more

abbrev pub port_connected : Change → Bit → port.Port → port.Port
port_connected change new p = record { name = p.name; bits = connected change new p.bits }

-- the bit that is read in place of the unmutated one
abbrev pub new_bit : Mode → ℕ → Bit
new_bit Const0 fresh = Fixed false
new_bit Const1 fresh = Fixed true
new_bit mode fresh = Net fresh

-- the cell that drives it, from the unmutated bit and control bit
abbrev pub new_cells : Mode → Bit → Bit → ℕ → Span → List Gate
new_cells Inv bit control fresh span = record { kind = Not; is_signed = false; ports = (bit ∷ []) ∷ (Net fresh ∷ []) ∷ []; span = span } ∷ []
new_cells Const0 bit control fresh span = []
new_cells Const1 bit control fresh span = []
new_cells Cnot0 bit control fresh span = record { kind = Xnor; is_signed = false; ports = (bit ∷ []) ∷ (control ∷ []) ∷ (Net fresh ∷ []) ∷ []; span = span } ∷ []
new_cells Cnot1 bit control fresh span = record { kind = Xor; is_signed = false; ports = (bit ∷ []) ∷ (control ∷ []) ∷ (Net fresh ∷ []) ∷ []; span = span } ∷ []

-- bit i of these bits, and the bit that controls it
abbrev pub bit_of : List Bit → ℕ → Bit
bit_of bits i = slice_index_or bits i (Fixed false)

abbrev pub control_of : List Bit → ℕ → Bit
control_of bits i = slice_index_or bits ((i + 1) % length bits) (Fixed false)

-- the place in the source of a cell or a register
abbrev pub no_span : Span
no_span = record { file = 0; line = 0; col = 0 }

abbrev pub cell_span : Option Gate → Span
cell_span None = no_span
cell_span (Some cell) = cell.span

abbrev pub register_span : Option Flop → Span
register_span None = no_span
register_span (Some register) = register.span

abbrev pub span_at : RawNetlist → Place → Span
span_at netlist (Cell c) = cell_span (slice_get netlist.cells c)
span_at netlist (Register r) = register_span (slice_get netlist.registers r)

-- the parts of the mutant at a site, with the number of the new net
abbrev pub parts_connected : RawNetlist → Readers → Mode → List Bit → ℕ → ℕ → Span → RawNetlist
parts_connected netlist readers mode bits i fresh span = record {
  top = netlist.top;
  clock = netlist.clock;
  inputs = netlist.inputs;
  outputs = map (port_connected (change_of readers Outputs) (new_bit mode fresh)) netlist.outputs;
  registers = registers_connected readers (new_bit mode fresh) 0 netlist.registers;
  cells = cells_connected readers (new_bit mode fresh) 0 netlist.cells ++ new_cells mode (bit_of bits i) (control_of bits i) fresh span;
}

abbrev pub mutant_of : RawNetlist → Site → ℕ → RawNetlist
mutant_of netlist site fresh = parts_connected netlist (readers_at netlist site.place site.port site.bit) site.mode (port_at netlist site.place site.port) site.bit fresh (span_at netlist site.place)

-- The number of the new net: the one past all nets that are driven, and where that is no net's number, the least that isn't driven.
pub record IsNewNet (plan : Plan) (n : ℕ) : Type 0 where
  pub undriven : drivers plan.raw n ≡ 0
  pub past : plan.nets < 2 ^ 32 → n ≡ plan.nets
  pub least : 2 ^ 32 ≤ plan.nets → (m : ℕ) → m < n → 1 ≤ drivers plan.raw m

-- The parts are the mutant's at the site, with such a number.
pub record IsMutant (plan : Plan) (site : Site) (mutant : RawNetlist) : Type 0 where
  pub fresh : ℕ
  pub new : IsNewNet plan fresh
  pub is : mutant ≡ mutant_of plan.raw site fresh
