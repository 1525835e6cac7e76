-- A mutant has the netlist's names and widths, Q's and kinds of cells, and at most one cell more, the last.
use Rattle.mutation_sites.proofs.Common.{◌≡◌, ℕ, ◌+◌, ◌≤◌, List, [], ◌∷◌, ◌++◌, map, take, length, refl, ap, arith, Span, Bit, Gate, Flop, RawNetlist, Outputs, bits_at, Mode, Inv, Const0, Const1}
use Rattle.mutation_sites.proofs.Common.{Cnot0, Cnot1, Site, Readers, Change, change_of, readers_at, port_at, HasOneMore, HasSameNames, port_connected, registers_connected, cells_connected, new_bit}
use Rattle.mutation_sites.proofs.Common.{new_cells, bit_of, control_of, span_at, mutant_of}
use Rattle.netlist_core.specs.declared.cell.CellKind.{CellKind}
use Rattle.netlist_core.specs.declared.port.Port as port
use Rattle.mutation_sites.proofs.Alike.{q-same}
use Rattle.mutation_sites.proofs.Formed.{length-connected}

kinds-first : (readers : Readers) (new : Bit) (c : ℕ) (cells extra : List Gate) → take (length cells) (map (λ (cell : Gate). cell.kind) (cells_connected readers new c cells ++ extra)) ≡ map (λ (cell : Gate). cell.kind) cells
kinds-first readers new c [] extra = refl
kinds-first readers new c (cell ∷ rest) extra = ap (λ (kinds : List CellKind). cell.kind ∷ kinds) (kinds-first readers new (c + 1) rest extra)

pub length-cells : (readers : Readers) (new : Bit) (c : ℕ) (cells extra : List Gate) → length (cells_connected readers new c cells ++ extra) ≡ length cells + length extra
length-cells readers new c [] extra = omega arith
length-cells readers new c (cell ∷ rest) extra = let later = length-cells readers new (c + 1) rest extra in omega (arith, later)

pub new-few : (mode : Mode) (bit control : Bit) (fresh : ℕ) (span : Span) → length (new_cells mode bit control fresh span) ≤ 1
new-few Inv bit control fresh span = omega arith
new-few Const0 bit control fresh span = omega arith
new-few Const1 bit control fresh span = omega arith
new-few Cnot0 bit control fresh span = omega arith
new-few Cnot1 bit control fresh span = omega arith

pub has-one-more : (netlist : RawNetlist) (site : Site) (fresh : ℕ) → HasOneMore netlist (mutant_of netlist site fresh)
has-one-more netlist site fresh =
    let readers = readers_at netlist site.place site.port site.bit in
    let new = new_bit site.mode fresh in
    let bits = port_at netlist site.place site.port in
    let bit = bit_of bits site.bit in
    let control = control_of bits site.bit in
    let span = span_at netlist site.place in
    record {
      inputs = refl;
      registers = q-same readers new 0 netlist.registers;
      count = omega (arith, length-cells readers new 0 netlist.cells (new_cells site.mode bit control fresh span), new-few site.mode bit control fresh span);
      kinds = kinds-first readers new 0 netlist.cells (new_cells site.mode bit control fresh span);
    }

outputs-named : (change : Change) (new : Bit) (outputs : List port.Port) → map (λ (p : port.Port). p.name) (map (port_connected change new) outputs) ≡ map (λ (p : port.Port). p.name) outputs
outputs-named change new [] = refl
outputs-named change new (p ∷ more) = ap (λ (names : List (List ℕ)). p.name ∷ names) (outputs-named change new more)

outputs-same-wide : (change : Change) (new : Bit) (outputs : List port.Port) → map length (bits_at (map (port_connected change new) outputs)) ≡ map length (bits_at outputs)
outputs-same-wide change new [] = refl
outputs-same-wide change new (p ∷ more) =
    let first = length-connected change new p.bits in
    let rest = outputs-same-wide change new more in
    λ i. first i ∷ rest i

registers-named : (readers : Readers) (new : Bit) (r : ℕ) (registers : List Flop) → map (λ (f : Flop). f.name) (registers_connected readers new r registers) ≡ map (λ (f : Flop). f.name) registers
registers-named readers new r [] = refl
registers-named readers new r (register ∷ more) = ap (λ (names : List (List ℕ)). register.name ∷ names) (registers-named readers new (r + 1) more)

registers-started : (readers : Readers) (new : Bit) (r : ℕ) (registers : List Flop) → map (λ (f : Flop). f.start.bits) (registers_connected readers new r registers) ≡ map (λ (f : Flop). f.start.bits) registers
registers-started readers new r [] = refl
registers-started readers new r (register ∷ more) = ap (λ (starts : List ℕ). register.start.bits ∷ starts) (registers-started readers new (r + 1) more)

pub has-same-names : (netlist : RawNetlist) (site : Site) (fresh : ℕ) → HasSameNames netlist (mutant_of netlist site fresh)
has-same-names netlist site fresh =
    let readers = readers_at netlist site.place site.port site.bit in
    let new = new_bit site.mode fresh in
    record {
      outputs = outputs-named (change_of readers Outputs) new netlist.outputs;
      widths = outputs-same-wide (change_of readers Outputs) new netlist.outputs;
      registers = registers-named readers new 0 netlist.registers;
      starts = registers-started readers new 0 netlist.registers;
    }
