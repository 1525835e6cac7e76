-- What is read is driven, and has a place.
use Rattle.cycle_sim.proofs.Common.{◌≡◌, ℕ, zero, suc, ◌+◌, ◌<◌, ◌≤◌, List, [], ◌∷◌, ◌++◌, length, take, get_or, sym, ◌∙◌, ap, subst, arith, length-map, get_or-map, take_more, Bit, Cell, Register}
use Rattle.cycle_sim.proofs.Common.{RawNetlist, bits_at, d_bits, input_ports, output_port, times, times_at, cell_readers, readers, Plan, IsSound, AllWide, AllRegistersFit, AllCellsWide, driving}
use Rattle.cycle_sim.proofs.Common.{Place, Wires, IsWired, AllWired, place_of, IsAt, ArePortsPlaced, Gate, IsGate, AllGates}
use Rattle.netlist_core.specs.declared.port.Port as port
use Rattle.cycle_sim.proofs.Wired.{AllNarrow, wired-push}
use Rattle.cycle_sim.proofs.Placed.{times_at-at}
use Rattle.cycle_sim.proofs.Plans.{read-driven, driven-below, narrow-wide, y-narrow}
use Rattle.cycle_sim.proofs.CellShapes.{inputs-wide}
use Rattle.cycle_sim.proofs.Computed.{gates-push}

pub read-below : (plan : Plan) → IsSound plan → (n : ℕ) → 1 ≤ readers plan.raw n → n < plan.nets
read-below plan sound n some = driven-below plan sound n (read-driven plan sound n some)

pub read-placed : (plan : Plan) → IsSound plan → (places : List Place) → ArePortsPlaced (driving plan.raw) places (driving plan.raw) → (n : ℕ) → 1 ≤ readers plan.raw n → IsAt (driving plan.raw) (place_of places n) n
read-placed plan sound places placed n some = placed n (read-driven plan sound n some)

-- D's.

pub d-at : (rs : List Register) (i : ℕ) (r : Register) → i < length rs → r ≡ get_or rs i r → r.d ≡ get_or (d_bits rs) i []
d-at rs i r inside is = ap (λ (x : Register). x.d) is ∙ sym (get_or-map (λ (x : Register). x.d) rs i r [] inside)

pub d-inside : (rs : List Register) (i : ℕ) → i < length rs → i < length (d_bits rs)
d-inside rs i inside = (let long = length-map rs (λ (x : Register). x.d) in omega (arith, inside, long))

pub d-read : (raw : RawNetlist) (i : ℕ) (r : Register) → i < length raw.registers → r ≡ get_or raw.registers i r → (n : ℕ) → 1 ≤ times n r.d → 1 ≤ readers raw n
d-read raw i r inside is n some =
    let here : 1 ≤ times n (get_or (d_bits raw.registers) i []) = subst (λ (b : List Bit). 1 ≤ times n b) (d-at raw.registers i r inside is) some in
    let all = times_at-at n (d_bits raw.registers) i [] (d-inside raw.registers i inside) in
    omega (arith, here, all)

d-few : (rs : List Register) (i : ℕ) → AllRegistersFit rs → i < length rs → length (get_or (d_bits rs) i []) ≤ 128
d-few [] i all inside = absurd (omega (arith, inside))
d-few (r ∷ rs) zero all inside = (let same = all.0 in let few = r.start.narrow in omega (arith, same, few))
d-few (r ∷ rs) (suc i) all inside = d-few rs i all.2 (omega (arith, inside))

pub d-narrow : (plan : Plan) → IsSound plan → (i : ℕ) (r : Register) → i < length plan.raw.registers → r ≡ get_or plan.raw.registers i r → length r.d ≤ 128
d-narrow plan sound i r inside is = subst (λ (b : List Bit). length b ≤ 128) (sym (d-at plan.raw.registers i r inside is)) (d-few plan.raw.registers i sound.formed.registers inside)

-- Outputs.

pub output-at : (ports : List port.Port) (i : ℕ) (p : port.Port) → i < length ports → p ≡ get_or ports i p → p.bits ≡ get_or (bits_at ports) i []
output-at ports i p inside is = ap (λ (x : port.Port). x.bits) is ∙ sym (get_or-map (λ (x : port.Port). x.bits) ports i p [] inside)

pub output-inside : (ports : List port.Port) (i : ℕ) → i < length ports → i < length (bits_at ports)
output-inside ports i inside = (let long = length-map ports (λ (x : port.Port). x.bits) in omega (arith, inside, long))

pub output-read : (raw : RawNetlist) (i : ℕ) (p : port.Port) → i < length raw.outputs → p ≡ get_or raw.outputs i p → (n : ℕ) → 1 ≤ times n p.bits → 1 ≤ readers raw n
output-read raw i p inside is n some =
    let here : 1 ≤ times n (get_or (bits_at raw.outputs) i []) = subst (λ (b : List Bit). 1 ≤ times n b) (output-at raw.outputs i p inside is) some in
    let all = times_at-at n (bits_at raw.outputs) i [] (output-inside raw.outputs i inside) in
    omega (arith, here, all)

pub output-narrow : (plan : Plan) → IsSound plan → (i : ℕ) (p : port.Port) → i < length plan.raw.outputs → p ≡ get_or plan.raw.outputs i p → length p.bits ≤ 128
output-narrow plan sound i p inside is = subst (λ (b : List Bit). length b ≤ 128) (sym (output-at plan.raw.outputs i p inside is)) (narrow-wide (bits_at plan.raw.outputs) sound.formed.outputs i [] (output-inside plan.raw.outputs i inside))

-- Input ports of cells.

cell-readers : (cells : List Cell) (i : ℕ) (cell : Cell) (n : ℕ) → i < length cells → cell ≡ get_or cells i cell → times_at n (input_ports cell.ports) ≤ cell_readers cells n
cell-readers [] i cell n inside is = absurd (omega (arith, inside))
cell-readers (x ∷ more) zero cell n inside is = subst (λ (y : Cell). times_at n (input_ports y.ports) ≤ cell_readers (x ∷ more) n) (sym is) (omega arith)
cell-readers (x ∷ more) (suc i) cell n inside is = (let rest = cell-readers more i cell n (omega (arith, inside)) is in omega (arith, rest))

pub cell-read : (raw : RawNetlist) (i : ℕ) (cell : Cell) → i < length raw.cells → cell ≡ get_or raw.cells i cell → (n : ℕ) → 1 ≤ times_at n (input_ports cell.ports) → 1 ≤ readers raw n
cell-read raw i cell inside is n some = (let all = cell-readers raw.cells i cell n inside is in omega (arith, some, all))

ports-wide : (cells : List Cell) (i : ℕ) (cell : Cell) → AllCellsWide cells → i < length cells → cell ≡ get_or cells i cell → AllWide cell.ports
ports-wide [] i cell all inside is = absurd (omega (arith, inside))
ports-wide (x ∷ more) zero cell all inside is = subst (λ (y : Cell). AllWide y.ports) (sym is) all.0
ports-wide (x ∷ more) (suc i) cell all inside is = ports-wide more i cell all.1 (omega (arith, inside)) is

pub inputs-narrow : (plan : Plan) → IsSound plan → (i : ℕ) (cell : Cell) → i < length plan.raw.cells → cell ≡ get_or plan.raw.cells i cell → AllNarrow (input_ports cell.ports)
inputs-narrow plan sound i cell inside is = narrow-wide (input_ports cell.ports) (inputs-wide cell.ports (ports-wide plan.raw.cells i cell sound.formed.cells inside is))

pub y-few : (plan : Plan) → IsSound plan → (i : ℕ) (cell : Cell) → i < length plan.raw.cells → cell ≡ get_or plan.raw.cells i cell → length (output_port cell.ports) ≤ 128
y-few plan sound i cell inside is = y-narrow cell.ports (ports-wide plan.raw.cells i cell sound.formed.cells inside is)

-- One more.

pub wired-more : (drivers : List (List Bit)) (old new : List Wires) (ports : List (List Bit)) (i : ℕ) (w : Wires) (bits : List Bit) → AllWired drivers old (take i ports) → new ≡ old ++ w ∷ [] → i < length ports → bits ≡ get_or ports i [] → IsWired drivers w bits → AllWired drivers new (take (i + 1) ports)
wired-more drivers old new ports i w bits wired grown inside at is =
    let more : take (i + 1) ports ≡ take i ports ++ bits ∷ [] = take_more ports i [] inside ∙ ap (λ (b : List Bit). take i ports ++ b ∷ []) (sym at) in
    subst (λ (l : List Wires). AllWired drivers l (take (i + 1) ports)) (sym grown) (subst (λ (p : List (List Bit)). AllWired drivers (old ++ w ∷ []) p) (sym more) (wired-push drivers old (take i ports) w bits wired is))

pub gates-more : (drivers : List (List Bit)) (old new : List Gate) (cells : List Cell) (i : ℕ) (g : Gate) (cell : Cell) → AllGates drivers old (take i cells) → new ≡ old ++ g ∷ [] → i < length cells → cell ≡ get_or cells i cell → IsGate drivers g cell → AllGates drivers new (take (i + 1) cells)
gates-more drivers old new cells i g cell are grown inside at is =
    let more : take (i + 1) cells ≡ take i cells ++ cell ∷ [] = take_more cells i cell inside ∙ ap (λ (x : Cell). take i cells ++ x ∷ []) (sym at) in
    subst (λ (l : List Gate). AllGates drivers l (take (i + 1) cells)) (sym grown) (subst (λ (p : List Cell). AllGates drivers (old ++ g ∷ []) p) (sym more) (gates-push drivers old (take i cells) g cell are is))
