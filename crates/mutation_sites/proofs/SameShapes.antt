-- The cells of a mutant have the kinds and widths of its netlist's, and one more drives the mutated bit.
use Rattle.mutation_sites.proofs.Common.{◌≡◌, ℕ, ◌+◌, List, [], ◌∷◌, ◌++◌, map, refl, ap, ◌∙◌, Span, Bit, Gate, RawNetlist, widths, Mode, Inv, Const0, Const1, Cnot0, Cnot1, Site, Readers, readers_at}
use Rattle.mutation_sites.proofs.Common.{port_at, CellShape, cell_shape, driver_shapes, HasSameShapes, ports_connected, cells_connected, new_bit, new_cells, bit_of, control_of, span_at, mutant_of}
use Rattle.mutation_sites.proofs.Kept.{widths-same}

shapes-same : (readers : Readers) (new : Bit) (c : ℕ) (cells extra : List Gate) → map cell_shape (cells_connected readers new c cells ++ extra) ≡ map cell_shape cells ++ map cell_shape extra
shapes-same readers new c [] extra = refl
shapes-same readers new c (cell ∷ rest) extra =
    let first : widths (ports_connected readers new c 0 cell.ports) ≡ widths cell.ports = widths-same readers new c 0 cell.ports in
    let later = shapes-same readers new (c + 1) rest extra in
    λ i. record { kind = cell.kind; widths = first i } ∷ later i

driver-shaped : (mode : Mode) (bit control : Bit) (fresh : ℕ) (span : Span) → map cell_shape (new_cells mode bit control fresh span) ≡ driver_shapes mode
driver-shaped Inv bit control fresh span = refl
driver-shaped Const0 bit control fresh span = refl
driver-shaped Const1 bit control fresh span = refl
driver-shaped Cnot0 bit control fresh span = refl
driver-shaped Cnot1 bit control fresh span = refl

pub has-same-shapes : (netlist : RawNetlist) (site : Site) (fresh : ℕ) → HasSameShapes netlist (mutant_of netlist site fresh) site.mode
has-same-shapes netlist site fresh =
    let readers = readers_at netlist site.place site.port site.bit in
    let new = new_bit site.mode fresh in
    let bits = port_at netlist site.place site.port in
    let bit = bit_of bits site.bit in
    let control = control_of bits site.bit in
    let span = span_at netlist site.place in
    shapes-same readers new 0 netlist.cells (new_cells site.mode bit control fresh span)
    ∙ ap (λ (shapes : List CellShape). map cell_shape netlist.cells ++ shapes) (driver-shaped site.mode bit control fresh span)
