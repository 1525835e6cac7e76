-- What a gate computes is the number of its cell.
use Rattle.cycle_sim.proofs.Common.{◌≡◌, ℕ, zero, suc, ◌%◌, ◌^◌, ◌<◌, ◌≤◌, Bool, List, [], ◌∷◌, ◌++◌, map, length, get_or, slice_get, Option, Some, refl, sym, ◌∙◌, ap, subst, arith, map-append, Word}
use Rattle.cycle_sim.proofs.Common.{Bit, Cell, CellKind, low_bits, cell_value, shape_of, HasWidths, HasShape, Nets, plain, input_ports, output_port, ports_seen, Plan, IsSound, AllWide, number_at}
use Rattle.cycle_sim.proofs.Common.{FitPorts, driving, word_bits, Wires, Gate, IsReadable, AllReadable, parts_number, wires_bits, IsGate, IsGateOf, IsComputable, gate_number, nets_of, cell-wide}
use Rattle.cycle_sim.proofs.CellShapes.{input-count, inputs-wide}
use Rattle.cycle_sim.proofs.Wired.{wired-length, wires-seen, wires-widths, all-readable}
use Rattle.cycle_sim.proofs.Plans.{driving-narrow, table-numbers, y-narrow}
use Rattle.cycle_sim.proofs.Computed.{item-some}

-- Words at the ports of a gate. Ports are read from `list`, which is theirs.

readable-at : (table : List ℕ) (ports : List Wires) (i : ℕ) (d : Wires) → AllReadable table ports → i < length ports → IsReadable table (get_or ports i d)
readable-at table [] i d all inside = absurd (omega (arith, inside))
readable-at table (x ∷ more) zero d all inside = all.0
readable-at table (x ∷ more) (suc i) d all inside = readable-at table more i d all.1 (omega (arith, inside))

pub item-readable : (table : List ℕ) (ports list : List Wires) (i : ℕ) (x : Wires) → AllReadable table ports → list ≡ ports → i < length list → x ≡ get_or list i x → IsReadable table x
item-readable table ports list i x all same inside is =
    subst (IsReadable table) (sym is) (readable-at table list i x (subst (AllReadable table) (sym same) all) inside)

pub one-item : (ports list : List Wires) (x : Wires) → list ≡ ports → length list ≡ 1 → x ≡ get_or list 0 x → ports ≡ x ∷ []
one-item ports [] x same long is = absurd (omega (arith, long))
one-item ports (p ∷ []) x same long is = sym same ∙ (λ i. sym is i ∷ [])
one-item ports (p ∷ q ∷ more) x same long is = absurd (omega (arith, long))

pub two-items : (ports list : List Wires) (x y : Wires) → list ≡ ports → length list ≡ 2 → x ≡ get_or list 0 x → y ≡ get_or list 1 y → ports ≡ x ∷ y ∷ []
two-items ports [] x y same long is_x is_y = absurd (omega (arith, long))
two-items ports (p ∷ []) x y same long is_x is_y = absurd (omega (arith, long))
two-items ports (p ∷ q ∷ []) x y same long is_x is_y = sym same ∙ (λ i. sym is_x i ∷ sym is_y i ∷ [])
two-items ports (p ∷ q ∷ r ∷ more) x y same long is_x is_y = absurd (omega (arith, long))

pub three-items : (ports list : List Wires) (x y z : Wires) → list ≡ ports → length list ≡ 3 → x ≡ get_or list 0 x → y ≡ get_or list 1 y → z ≡ get_or list 2 z → ports ≡ x ∷ y ∷ z ∷ []
three-items ports [] x y z same long is_x is_y is_z = absurd (omega (arith, long))
three-items ports (p ∷ []) x y z same long is_x is_y is_z = absurd (omega (arith, long))
three-items ports (p ∷ q ∷ []) x y z same long is_x is_y is_z = absurd (omega (arith, long))
three-items ports (p ∷ q ∷ r ∷ []) x y z same long is_x is_y is_z = sym same ∙ (λ i. sym is_x i ∷ sym is_y i ∷ sym is_z i ∷ [])
three-items ports (p ∷ q ∷ r ∷ s ∷ more) x y z same long is_x is_y is_z = absurd (omega (arith, long))

pub word-is : (table : List ℕ) (wires : Wires) (word : Word) → word.width ≡ wires.width → word.bits ≡ parts_number table wires.parts → word_bits word ≡ wires_bits table wires
word-is table wires word wide same = ap (λ (k : ℕ). low_bits k word.bits) wide ∙ ap (low_bits wires.width) same

-- the gate with these ports
pub shape-is : (gate : Gate) (ports : List Wires) → gate.ports ≡ ports → HasWidths (shape_of gate.kind) (map (λ (w : Wires). w.width) gate.ports ++ gate.width ∷ []) → HasWidths (shape_of gate.kind) (map (λ (w : Wires). w.width) ports ++ gate.width ∷ [])
shape-is gate ports is shape = subst (λ (l : List Wires). HasWidths (shape_of gate.kind) (map (λ (w : Wires). w.width) l ++ gate.width ∷ [])) is shape

pub number-is : (table : List ℕ) (gate : Gate) (ports : List Wires) (n : ℕ) → gate.ports ≡ ports → n ≡ cell_value gate.kind gate.is_signed gate.width (map (wires_bits table) ports) → n ≡ gate_number table gate
number-is table gate ports n is value = value ∙ sym (ap (λ (l : List Wires). cell_value gate.kind gate.is_signed gate.width (map (wires_bits table) l)) is)

-- The gate of a cell.

ports-split : (ports : List (List Bit)) → 1 ≤ length (input_ports ports) → ports ≡ input_ports ports ++ output_port ports ∷ []
ports-split [] some = absurd (omega (arith, some))
ports-split (y ∷ []) some = absurd (omega (arith, some))
ports-split (a ∷ y ∷ []) some = refl
ports-split (a ∷ b ∷ e ∷ more) some = ap (λ (l : List (List Bit)). a ∷ l) (ports-split (b ∷ e ∷ more) (omega arith))

y-some : (ports : List (List Bit)) → AllWide ports → 1 ≤ length (input_ports ports) → 1 ≤ length (output_port ports)
y-some [] wide some = absurd (omega (arith, some))
y-some (y ∷ []) wide some = wide.0
y-some (a ∷ y ∷ []) wide some = wide.2.0
y-some (a ∷ b ∷ e ∷ more) wide some = y-some (b ∷ e ∷ more) wide.2 (omega arith)

module _ (plan : Plan) (sound : IsSound plan) (table : List ℕ) (fit : FitPorts (driving plan.raw) table) (c : ℕ) (cell : Cell) (found : slice_get plan.raw.cells c ≡ Some cell) (gate : Gate) (is : IsGate (driving plan.raw) gate cell) where
  abbrev ins : List (List Bit)
  ins = input_ports cell.ports

  abbrev y : List Bit
  y = output_port cell.ports

  gate-shape : HasWidths (shape_of gate.kind) (map (λ (w : Wires). w.width) gate.ports ++ gate.width ∷ [])
  gate-shape =
      let shape : HasShape cell = sound.connected.driven.shaped.shapes c cell found in
      let split : map length cell.ports ≡ map length ins ++ length y ∷ [] = ap (map length) (ports-split cell.ports (input-count cell shape).0) ∙ map-append (λ (b : List Bit). length b) ins (y ∷ []) in
      let all : map length cell.ports ≡ map (λ (w : Wires). w.width) gate.ports ++ gate.width ∷ [] = split
      ∙ ap (λ (l : List ℕ). l ++ length y ∷ []) (sym (wires-widths (driving plan.raw) gate.ports ins is.ports))
      ∙ ap (λ (k : ℕ). map (λ (w : Wires). w.width) gate.ports ++ k ∷ []) (sym is.width) in
      subst (λ (k : CellKind). HasWidths (shape_of k) (map (λ (w : Wires). w.width) gate.ports ++ gate.width ∷ [])) (sym is.kind) (subst (λ (l : List ℕ). HasWidths (shape_of cell.kind) l) all shape)

  computable : IsComputable table gate
  computable =
      let count = input-count cell (sound.connected.driven.shaped.shapes c cell found) in
      let wide = cell-wide plan sound c cell found in
      let long = wired-length (driving plan.raw) gate.ports ins is.ports in
      let w = is.width in
      record {
        some = (let s = y-some cell.ports wide count.0 in omega (arith, s, w));
        narrow = (let n = y-narrow cell.ports wide in omega (arith, n, w));
        ports = omega (arith, count.0, long);
        few = omega (arith, count.1, long);
        shape = gate-shape;
        readable = all-readable (nets_of plan.raw table) (driving plan.raw) table (table-numbers plan sound table fit) gate.ports ins (driving-narrow plan sound) is.ports (inputs-wide cell.ports wide);
      }

  computed : gate_number table gate ≡ number_at (plain (nets_of plan.raw table)) c cell % 2 ^ length (output_port cell.ports)
  computed =
      let nets : Nets = nets_of plan.raw table in
      ap (λ (ports : List (List Bool)). cell_value gate.kind gate.is_signed gate.width ports) (wires-seen nets table (driving plan.raw) gate.ports ins c 0 (table-numbers plan sound table fit) is.ports)
      ∙ ap (λ (k : CellKind). cell_value k gate.is_signed gate.width (ports_seen (plain nets) c 0 ins)) is.kind
      ∙ ap (λ (s : Bool). cell_value cell.kind s gate.width (ports_seen (plain nets) c 0 ins)) is.is_signed
      ∙ ap (λ (w : ℕ). cell_value cell.kind cell.is_signed w (ports_seen (plain nets) c 0 ins)) is.width

pub gate-computable : (plan : Plan) → IsSound plan → (table : List ℕ) → FitPorts (driving plan.raw) table → (c : ℕ) (gate : Gate) → c < length plan.raw.cells → IsGateOf (driving plan.raw) gate (slice_get plan.raw.cells c) → IsComputable table gate
gate-computable plan sound table fit c gate inside is =
    let cell = item-some plan.raw.cells c inside in
    computable plan sound table fit c cell.0 cell.1 gate (subst (λ (o : Option Cell). IsGateOf (driving plan.raw) gate o) cell.1 is)

pub gate-computes : (plan : Plan) → IsSound plan → (table : List ℕ) → FitPorts (driving plan.raw) table → (c : ℕ) (gate : Gate) (n : ℕ) → IsGateOf (driving plan.raw) gate (slice_get plan.raw.cells c) → n ≡ gate_number table gate → (cell : Cell) → slice_get plan.raw.cells c ≡ Some cell → n ≡ number_at (plain (nets_of plan.raw table)) c cell % 2 ^ length (output_port cell.ports)
gate-computes plan sound table fit c gate n is value cell found = value ∙ computed plan sound table fit c cell found gate (subst (λ (o : Option Cell). IsGateOf (driving plan.raw) gate o) found is)
