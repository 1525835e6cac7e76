-- The parts of a mutant are formed: widths are as they were, and drivers are nets.
use Rattle.mutation_sites.proofs.Common.{◌≡◌, ℕ, ◌+◌, List, [], ◌∷◌, ◌++◌, map, length, refl, sym, subst, ◌∙◌, arith, length-set, length-map, Span, Bit, Gate, Flop, RawNetlist, Port, Next, bits_at}
use Rattle.mutation_sites.proofs.Common.{y_bits, AllWide, AllNets, AllPortsNets, AllRegistersFit, AllCellsWide, IsFormed, Mode, Inv, Const0, Const1, Cnot0, Cnot1, Site, Readers, Change, Nothing}
use Rattle.mutation_sites.proofs.Common.{AtBit, AtNet, change_of, readers_at, port_at, replaced, connected, ports_connected, cells_connected, registers_connected, port_connected, new_bit, new_cells}
use Rattle.mutation_sites.proofs.Common.{bit_of, control_of, span_at, mutant_of}
use Rattle.netlist_core.specs.declared.port.Port as port
use Rattle.mutation_sites.proofs.Alike.{output-same, q-same}

pub length-connected : (change : Change) (new : Bit) (bits : List Bit) → length (connected change new bits) ≡ length bits
length-connected Nothing new bits = refl
length-connected (AtBit i) new bits = length-set bits i new
length-connected (AtNet n) new bits = length-map bits (replaced n new)

outputs-wide : (change : Change) (new : Bit) (outputs : List port.Port) → AllWide (bits_at outputs) → AllWide (bits_at (map (port_connected change new) outputs))
outputs-wide change new [] all = tt
outputs-wide change new (p ∷ more) all = (omega (arith, length-connected change new p.bits, all.0), omega (arith, length-connected change new p.bits, all.1), outputs-wide change new more all.2)

ports-wide : (readers : Readers) (new : Bit) (c p : ℕ) (ports : List (List Bit)) → AllWide ports → AllWide (ports_connected readers new c p ports)
ports-wide readers new c p [] all = tt
ports-wide readers new c p (y ∷ []) all = all
ports-wide readers new c p (a ∷ b ∷ more) all =
    let same = length-connected (change_of readers (Port c p)) new a in
    (omega (arith, same, all.0), omega (arith, same, all.1), ports-wide readers new c (p + 1) (b ∷ more) all.2)

new-wide : (mode : Mode) (bit control : Bit) (fresh : ℕ) (span : Span) → AllCellsWide (new_cells mode bit control fresh span)
new-wide Inv bit control fresh span = ((omega arith, omega arith, (omega arith, omega arith, tt)), tt)
new-wide Const0 bit control fresh span = tt
new-wide Const1 bit control fresh span = tt
new-wide Cnot0 bit control fresh span = ((omega arith, omega arith, (omega arith, omega arith, (omega arith, omega arith, tt))), tt)
new-wide Cnot1 bit control fresh span = ((omega arith, omega arith, (omega arith, omega arith, (omega arith, omega arith, tt))), tt)

cells-wide : (readers : Readers) (new : Bit) (c : ℕ) (cells extra : List Gate) → AllCellsWide cells → AllCellsWide extra → AllCellsWide (cells_connected readers new c cells ++ extra)
cells-wide readers new c [] extra all more = more
cells-wide readers new c (cell ∷ rest) extra all more = (ports-wide readers new c 0 cell.ports all.0, cells-wide readers new (c + 1) rest extra all.1 more)

registers-fit : (readers : Readers) (new : Bit) (r : ℕ) (registers : List Flop) → AllRegistersFit registers → AllRegistersFit (registers_connected readers new r registers)
registers-fit readers new r [] all = tt
registers-fit readers new r (register ∷ more) all = (length-connected (change_of readers (Next r)) new register.d ∙ all.0, all.1, registers-fit readers new (r + 1) more all.2)

new-nets : (mode : Mode) (bit control : Bit) (fresh : ℕ) (span : Span) → AllPortsNets (y_bits (new_cells mode bit control fresh span))
new-nets Inv bit control fresh span = (tt, tt)
new-nets Const0 bit control fresh span = tt
new-nets Const1 bit control fresh span = tt
new-nets Cnot0 bit control fresh span = (tt, tt)
new-nets Cnot1 bit control fresh span = (tt, tt)

y-nets : (readers : Readers) (new : Bit) (c : ℕ) (cells extra : List Gate) → AllPortsNets (y_bits cells) → AllPortsNets (y_bits extra) → AllPortsNets (y_bits (cells_connected readers new c cells ++ extra))
y-nets readers new c [] extra all more = more
y-nets readers new c (cell ∷ rest) extra all more = (subst AllNets (sym (output-same readers new c 0 cell.ports)) all.0, y-nets readers new (c + 1) rest extra all.1 more)

pub mutant-formed : (netlist : RawNetlist) (site : Site) (fresh : ℕ) → IsFormed netlist → IsFormed (mutant_of netlist site fresh)
mutant-formed netlist site fresh formed =
    let readers = readers_at netlist site.place site.port site.bit in
    let new = new_bit site.mode fresh in
    let bits = port_at netlist site.place site.port in
    let bit = bit_of bits site.bit in
    let control = control_of bits site.bit in
    let span = span_at netlist site.place in
    record {
      inputs = formed.inputs;
      outputs = outputs-wide _ new netlist.outputs formed.outputs;
      registers = registers-fit readers new 0 netlist.registers formed.registers;
      cells = cells-wide readers new 0 netlist.cells (new_cells site.mode bit control fresh span) formed.cells (new-wide site.mode bit control fresh span);
      entered = formed.entered;
      stored = subst AllPortsNets (sym (q-same readers new 0 netlist.registers)) formed.stored;
      computed = y-nets readers new 0 netlist.cells (new_cells site.mode bit control fresh span) formed.computed (new-nets site.mode bit control fresh span);
    }
