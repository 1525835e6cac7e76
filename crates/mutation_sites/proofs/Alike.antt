-- The runs of the parts of a mutant are runs of the netlist in which readers see the mutated bit.
use Rattle.mutation_sites.proofs.Common.{◌≡◌, ℕ, zero, suc, ◌+◌, ◌%◌, Bool, true, false, List, [], ◌∷◌, ◌++◌, map, length, get_or, slice_get, Some, refl, sym, ap, subst, ◌∙◌, inl, inr, arith, not}
use Rattle.mutation_sites.proofs.Common.{eqb_tells, map-set, length-map, Span, Bit, Fixed, Net, Gate, Flop, RawNetlist, number, Not, Xor, Xnor, cell_value, Nets, Port, Next, Outputs, Sight, bit_value}
use Rattle.mutation_sites.proofs.Common.{values, plain, bits_at, q_bits, input_ports, output_port, ports_seen, Computes, port_numbers, Holds, shown, taken, IsRun, IsRunBy, outputs_by, with_net, Mode}
use Rattle.mutation_sites.proofs.Common.{Inv, Const0, Const1, Cnot0, Cnot1, Site, Readers, Change, Nothing, AtBit, AtNet, mutated, mutated_at, change_of, readers_at, port_at, seen, sight_at}
use Rattle.mutation_sites.proofs.Common.{RunsAlike, replaced, connected, ports_connected, cell_connected, cells_connected, registers_connected, port_connected, new_bit, new_cells, bit_of, control_of}
use Rattle.mutation_sites.proofs.Common.{span_at, mutant_of}
use Rattle.std.proofs.Math.ListN.{get_or-map}
use Rattle.netlist_core.specs.declared.port.Port as port

-- what readers see where the mutated bit has this value
abbrev pub see_by : Readers → Bool → Nets → Sight
see_by readers v nets reader bits = seen (change_of readers reader) v nets bits

-- What is seen at the bits of a mutant.

value-replaced : (nets : Nets) (n : ℕ) (new bit : Bit) → bit_value nets (replaced n new bit) ≡ bit_value (with_net nets n (bit_value nets new)) bit
value-replaced nets n new (Fixed b) = refl
value-replaced nets n new (Net m) = elim (eqb_tells m n) [
  | inl same ↦ rw same.0 refl
  | inr other ↦ rw other.0 refl
]

values-replaced : (nets : Nets) (n : ℕ) (new : Bit) (bits : List Bit) → values nets (map (replaced n new) bits) ≡ values (with_net nets n (bit_value nets new)) bits
values-replaced nets n new [] = refl
values-replaced nets n new (bit ∷ more) =
    let first = value-replaced nets n new bit in
    let rest = values-replaced nets n new more in
    cc

pub values-connected : (nets : Nets) (change : Change) (new : Bit) (bits : List Bit) → values nets (connected change new bits) ≡ seen change (bit_value nets new) nets bits
values-connected nets Nothing new bits = refl
values-connected nets (AtBit i) new bits = map-set (bit_value nets) bits i new
values-connected nets (AtNet n) new bits = values-replaced nets n new bits

-- At the ports of a cell.

pub ports-seen : (nets : Nets) (readers : Readers) (new : Bit) (c p : ℕ) (ports : List (List Bit)) → ports_seen (plain nets) c p (input_ports (ports_connected readers new c p ports)) ≡ ports_seen (see_by readers (bit_value nets new) nets) c p (input_ports ports)
ports-seen nets readers new c p [] = refl
ports-seen nets readers new c p (y ∷ []) = refl
ports-seen nets readers new c p (a ∷ b ∷ []) = ap (λ x. x ∷ []) (values-connected nets (change_of readers (Port c p)) new a)
ports-seen nets readers new c p (a ∷ b ∷ d ∷ more) =
    let first = values-connected nets (change_of readers (Port c p)) new a in
    let rest = ports-seen nets readers new c (p + 1) (b ∷ d ∷ more) in
    cc

pub output-same : (readers : Readers) (new : Bit) (c p : ℕ) (ports : List (List Bit)) → output_port (ports_connected readers new c p ports) ≡ output_port ports
output-same readers new c p [] = refl
output-same readers new c p (y ∷ []) = refl
output-same readers new c p (a ∷ b ∷ []) = refl
output-same readers new c p (a ∷ b ∷ d ∷ more) = output-same readers new c (p + 1) (b ∷ d ∷ more)

computes : (nets : Nets) (readers : Readers) (new : Bit) (c : ℕ) (cell : Gate) → Computes (plain nets) nets c (cell_connected readers new c cell) → Computes (see_by readers (bit_value nets new) nets) nets c cell
computes nets readers new c cell h =
    let ins = ports-seen nets readers new c 0 cell.ports in
    let out = output-same readers new c 0 cell.ports in
    let left = ap (λ (y : List Bit). number (values nets y)) out in
    let right = ap (λ (y : List Bit). cell_value cell.kind cell.is_signed (length y) (ports_seen (plain nets) c 0 (input_ports (ports_connected readers new c 0 cell.ports)))) out in
    let seen_same = ap (cell_value cell.kind cell.is_signed (length (output_port cell.ports))) ins in
    sym left ∙ h ∙ right ∙ seen_same

cell-there : (readers : Readers) (new : Bit) (k c : ℕ) (cells extra : List Gate) (cell : Gate) → slice_get cells c ≡ Some cell → slice_get (cells_connected readers new k cells ++ extra) c ≡ Some (cell_connected readers new (k + c) cell)
cell-there readers new k c [] extra cell is = absurd (cc)
cell-there readers new k zero (first ∷ more) extra cell is =
    let here : first ≡ cell = cc in
    ap (λ (x : Gate). Some (cell_connected readers new k x)) here ∙ ap (λ (j : ℕ). Some (cell_connected readers new j cell)) (let e : k ≡ k + zero = omega arith in e)
cell-there readers new k (suc c) (first ∷ more) extra cell is =
    cell-there readers new (k + 1) c more extra cell is ∙ ap (λ (j : ℕ). Some (cell_connected readers new j cell)) (let e : k + 1 + c ≡ k + suc c = omega arith in e)

extra-there : (readers : Readers) (new : Bit) (k : ℕ) (cells : List Gate) (cell : Gate) → slice_get (cells_connected readers new k cells ++ cell ∷ []) (length cells) ≡ Some cell
extra-there readers new k [] cell = refl
extra-there readers new k (first ∷ more) cell = extra-there readers new (k + 1) more cell

-- The value of the new bit.

not_value : (y b : Bool) → number (y ∷ []) ≡ cell_value Not false 1 ((b ∷ []) ∷ []) → y ≡ not b
not_value true true h = absurd (omega (arith, h))
not_value true false h = refl
not_value false true h = refl
not_value false false h = absurd (omega (arith, h))

xnor_value : (y b k : Bool) → number (y ∷ []) ≡ cell_value Xnor false 1 ((b ∷ []) ∷ (k ∷ []) ∷ []) → y ≡ mutated Cnot0 b k
xnor_value true true true h = refl
xnor_value true true false h = absurd (omega (arith, h))
xnor_value true false true h = absurd (omega (arith, h))
xnor_value true false false h = refl
xnor_value false true true h = absurd (omega (arith, h))
xnor_value false true false h = refl
xnor_value false false true h = refl
xnor_value false false false h = absurd (omega (arith, h))

xor_value : (y b k : Bool) → number (y ∷ []) ≡ cell_value Xor false 1 ((b ∷ []) ∷ (k ∷ []) ∷ []) → y ≡ mutated Cnot1 b k
xor_value true true true h = absurd (omega (arith, h))
xor_value true true false h = refl
xor_value true false true h = refl
xor_value true false false h = absurd (omega (arith, h))
xor_value false true true h = refl
xor_value false true false h = absurd (omega (arith, h))
xor_value false false true h = absurd (omega (arith, h))
xor_value false false false h = refl

-- the new bit has the mutated bit's value where the cells compute
new_value : (nets : Nets) (readers : Readers) (mode : Mode) (bit control : Bit) (fresh : ℕ) (span : Span) (cells : List Gate) → ((c : ℕ) (cell : Gate) → slice_get (cells_connected readers (new_bit mode fresh) 0 cells ++ new_cells mode bit control fresh span) c ≡ Some cell → Computes (plain nets) nets c cell) → bit_value nets (new_bit mode fresh) ≡ mutated mode (bit_value nets bit) (bit_value nets control)
new_value nets readers Inv bit control fresh span cells all =
    let cell : Gate = record { kind = Not; is_signed = false; ports = (bit ∷ []) ∷ (Net fresh ∷ []) ∷ []; span = span } in
    not_value (nets fresh) (bit_value nets bit) (all (length cells) cell (extra-there readers (Net fresh) 0 cells cell))
new_value nets readers Const0 bit control fresh span cells all = refl
new_value nets readers Const1 bit control fresh span cells all = refl
new_value nets readers Cnot0 bit control fresh span cells all =
    let cell : Gate = record { kind = Xnor; is_signed = false; ports = (bit ∷ []) ∷ (control ∷ []) ∷ (Net fresh ∷ []) ∷ []; span = span } in
    xnor_value (nets fresh) (bit_value nets bit) (bit_value nets control) (all (length cells) cell (extra-there readers (Net fresh) 0 cells cell))
new_value nets readers Cnot1 bit control fresh span cells all =
    let cell : Gate = record { kind = Xor; is_signed = false; ports = (bit ∷ []) ∷ (control ∷ []) ∷ (Net fresh ∷ []) ∷ []; span = span } in
    xor_value (nets fresh) (bit_value nets bit) (bit_value nets control) (all (length cells) cell (extra-there readers (Net fresh) 0 cells cell))

-- it is what the mutation makes of the values at the port
pub mutated_at-bits : (nets : Nets) (mode : Mode) (i : ℕ) (bits : List Bit) → mutated mode (bit_value nets (bit_of bits i)) (bit_value nets (control_of bits i)) ≡ mutated_at mode i (values nets bits)
mutated_at-bits nets mode i bits =
    let bit : get_or (values nets bits) i false ≡ bit_value nets (bit_of bits i) = get_or-map (bit_value nets) bits i (Fixed false) in
    let control : get_or (values nets bits) ((i + 1) % length bits) false ≡ bit_value nets (control_of bits i) = get_or-map (bit_value nets) bits ((i + 1) % length bits) (Fixed false) in
    let same : length (values nets bits) ≡ length bits = length-map bits (bit_value nets) in
    rw (same, bit, control) refl

-- Registers and outputs.

pub q-same : (readers : Readers) (new : Bit) (r : ℕ) (registers : List Flop) → q_bits (registers_connected readers new r registers) ≡ q_bits registers
q-same readers new r [] = refl
q-same readers new r (register ∷ more) = ap (λ (rest : List (List Bit)). register.q ∷ rest) (q-same readers new (r + 1) more)

pub taken-same : (nets : Nets) (readers : Readers) (new : Bit) (r : ℕ) (registers : List Flop) → taken (plain nets) r (registers_connected readers new r registers) ≡ taken (see_by readers (bit_value nets new) nets) r registers
taken-same nets readers new r [] = refl
taken-same nets readers new r (register ∷ more) =
    let first = ap number (values-connected nets (change_of readers (Next r)) new register.d) in
    let rest = taken-same nets readers new (r + 1) more in
    cc

pub shown-same : (nets : Nets) (readers : Readers) (new : Bit) (outputs : List port.Port) → map (λ bits. number (values nets bits)) (bits_at (map (port_connected (change_of readers Outputs) new) outputs)) ≡ map (λ bits. number (see_by readers (bit_value nets new) nets Outputs bits)) (bits_at outputs)
shown-same nets readers new [] = refl
shown-same nets readers new (p ∷ more) =
    let first = ap number (values-connected nets (change_of readers Outputs) new p.bits) in
    let rest = shown-same nets readers new more in
    cc

-- Runs.

value-at : (netlist : RawNetlist) (site : Site) (fresh : ℕ) (nets : Nets) (inputs state : List ℕ) → Holds (plain nets) nets (mutant_of netlist site fresh) inputs state → bit_value nets (new_bit site.mode fresh) ≡ mutated_at site.mode site.bit (values nets (port_at netlist site.place site.port))
value-at netlist site fresh nets inputs state h =
    let bits = port_at netlist site.place site.port in
    new_value nets (readers_at netlist site.place site.port site.bit) site.mode (bit_of bits site.bit) (control_of bits site.bit) fresh (span_at netlist site.place) netlist.cells h.computed ∙ mutated_at-bits nets site.mode site.bit bits

holds-by : (netlist : RawNetlist) (site : Site) (fresh : ℕ) (nets : Nets) (inputs state : List ℕ) → Holds (plain nets) nets (mutant_of netlist site fresh) inputs state → Holds (see_by (readers_at netlist site.place site.port site.bit) (bit_value nets (new_bit site.mode fresh)) nets) nets netlist inputs state
holds-by netlist site fresh nets inputs state h =
    let readers = readers_at netlist site.place site.port site.bit in
    let new = new_bit site.mode fresh in
    let bits = port_at netlist site.place site.port in
    record {
      entered = h.entered;
      stored = ap (port_numbers nets) (sym (q-same readers new 0 netlist.registers)) ∙ h.stored;
      computed = λ c cell is. computes nets readers new c cell (h.computed c (cell_connected readers new c cell) (cell-there readers new 0 c netlist.cells (new_cells site.mode (bit_of bits site.bit) (control_of bits site.bit) fresh (span_at netlist site.place)) cell is ∙ ap (λ (j : ℕ). Some (cell_connected readers new j cell)) (let e : 0 + c ≡ c = omega arith in e)));
    }

holds : (netlist : RawNetlist) (site : Site) (fresh : ℕ) (nets : Nets) (inputs state : List ℕ) → Holds (plain nets) nets (mutant_of netlist site fresh) inputs state → Holds (sight_at netlist site nets) nets netlist inputs state
holds netlist site fresh nets inputs state h =
    let P : Bool → Type 0 = λ v. Holds (see_by (readers_at netlist site.place site.port site.bit) v nets) nets netlist inputs state in
    subst P (value-at netlist site fresh nets inputs state h) (holds-by netlist site fresh nets inputs state h)

taken-at : (netlist : RawNetlist) (site : Site) (fresh : ℕ) (nets : Nets) (inputs state : List ℕ) → Holds (plain nets) nets (mutant_of netlist site fresh) inputs state → taken (plain nets) 0 (mutant_of netlist site fresh).registers ≡ taken (sight_at netlist site nets) 0 netlist.registers
taken-at netlist site fresh nets inputs state h =
    let readers = readers_at netlist site.place site.port site.bit in
    taken-same nets readers (new_bit site.mode fresh) 0 netlist.registers ∙ ap (λ (v : Bool). taken (see_by readers v nets) 0 netlist.registers) (value-at netlist site fresh nets inputs state h)

shown-at : (netlist : RawNetlist) (site : Site) (fresh : ℕ) (nets : Nets) (inputs state : List ℕ) → Holds (plain nets) nets (mutant_of netlist site fresh) inputs state → shown (plain nets) (mutant_of netlist site fresh) ≡ shown (sight_at netlist site nets) netlist
shown-at netlist site fresh nets inputs state h =
    let readers = readers_at netlist site.place site.port site.bit in
    shown-same nets readers (new_bit site.mode fresh) netlist.outputs ∙ ap (λ (v : Bool). shown (see_by readers v nets) netlist) (value-at netlist site fresh nets inputs state h)

runs-by : (netlist : RawNetlist) (site : Site) (fresh : ℕ) (state : List ℕ) (inputs : List (List ℕ)) (cycles : List Nets) → IsRun (mutant_of netlist site fresh) state inputs cycles → IsRunBy (sight_at netlist site) netlist state inputs cycles
runs-by netlist site fresh state [] [] run = tt
runs-by netlist site fresh state [] (nets ∷ more) run = absurd run
runs-by netlist site fresh state (first ∷ later) [] run = absurd run
runs-by netlist site fresh state (first ∷ later) (nets ∷ more) run =
    let P : List ℕ → Type 0 = λ s. IsRunBy (sight_at netlist site) netlist s later more in
    (holds netlist site fresh nets first state run.0, subst P (taken-at netlist site fresh nets first state run.0) (runs-by netlist site fresh (taken (plain nets) 0 (mutant_of netlist site fresh).registers) later more run.1))

outputs-alike : (netlist : RawNetlist) (site : Site) (fresh : ℕ) (state : List ℕ) (inputs : List (List ℕ)) (cycles : List Nets) → IsRun (mutant_of netlist site fresh) state inputs cycles → outputs_by plain (mutant_of netlist site fresh) cycles ≡ outputs_by (sight_at netlist site) netlist cycles
outputs-alike netlist site fresh state [] [] run = refl
outputs-alike netlist site fresh state [] (nets ∷ more) run = absurd run
outputs-alike netlist site fresh state (first ∷ later) [] run = absurd run
outputs-alike netlist site fresh state (first ∷ later) (nets ∷ more) run =
    let here = shown-at netlist site fresh nets first state run.0 in
    let rest = outputs-alike netlist site fresh (taken (plain nets) 0 (mutant_of netlist site fresh).registers) later more run.1 in
    cc

pub runs-alike : (netlist : RawNetlist) (site : Site) (fresh : ℕ) → RunsAlike netlist (mutant_of netlist site fresh) site
runs-alike netlist site fresh = record { runs = runs-by netlist site fresh; outputs = outputs-alike netlist site fresh; next = λ inputs state nets h. taken-at netlist site fresh nets inputs state h }
