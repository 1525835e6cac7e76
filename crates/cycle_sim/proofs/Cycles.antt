-- A cycle that is settled, and what readers find in its table.
use Rattle.cycle_sim.proofs.Common.{◌≡◌, ℕ, zero, suc, ◌^◌, ◌<◌, ◌≤◌, List, [], ◌∷◌, length, get_or, slice_get, Some, sym, ◌∙◌, ap, subst, arith, length-map, get_or-map, Bit, Register, number, Nets}
use Rattle.cycle_sim.proofs.Common.{plain, values, bits_at, q_bits, d_bits, Holds, drivers, Plan, IsSound, AllWide, AllRegistersFit, FitPorts, driving, OneRunBySight, plain-causal, Wires, IsWired}
use Rattle.cycle_sim.proofs.Common.{AllWired, IsReadable, parts_number, nets_of}
use Rattle.netlist_core.specs.declared.port.Port as port
use Rattle.cycle_sim.proofs.Wired.{wired-readable, wired-at, wires-number}
use Rattle.cycle_sim.proofs.Plans.{driving-narrow, table-numbers}

-- a solution of a cycle agrees with any other at each net that is driven
pub cycle-alone : OneRunBySight → (plan : Plan) → IsSound plan → (inputs registers : List ℕ) → FitPorts (bits_at plan.raw.inputs) inputs → FitPorts (q_bits plan.raw.registers) registers → (x y : Nets) → Holds (plain x) x plan.raw inputs registers → Holds (plain y) y plan.raw inputs registers → (n : ℕ) → 1 ≤ drivers plan.raw n → x n ≡ y n
cycle-alone runs plan sound inputs registers fit stored x y in_x in_y n some =
    let run = runs plan plain sound (plain-causal plan.raw) registers (inputs ∷ []) stored (fit, tt) in
    let agree = run.one (x ∷ []) (y ∷ []) (in_x, tt) (in_y, tt) in
    agree.0 n some

-- Reading.

d-wide : (rs : List Register) (i : ℕ) → AllRegistersFit rs → i < length rs → (1 ≤ length (get_or (d_bits rs) i [])) × (length (get_or (d_bits rs) i []) ≤ 128)
d-wide [] i all inside = absurd (omega (arith, inside))
d-wide (r ∷ rs) zero all inside = (let same = all.0 in let some = r.start.some in let few = r.start.narrow in (omega (arith, same, some), omega (arith, same, few)))
d-wide (r ∷ rs) (suc i) all inside = d-wide rs i all.2 (omega (arith, inside))

pub wide-at : (ports : List (List Bit)) (i : ℕ) → AllWide ports → i < length ports → (1 ≤ length (get_or ports i [])) × (length (get_or ports i []) ≤ 128)
wide-at [] i wide inside = absurd (omega (arith, inside))
wide-at (bits ∷ more) zero wide inside = (wide.0, wide.1)
wide-at (bits ∷ more) (suc i) wide inside = wide-at more i wide.2 (omega (arith, inside))

readable-at : (plan : Plan) → IsSound plan → (table : List ℕ) → FitPorts (driving plan.raw) table → (wires : Wires) (bits : List Bit) → IsWired (driving plan.raw) wires bits → (1 ≤ length bits) × (length bits ≤ 128) → IsReadable table wires
readable-at plan sound table fit wires bits wired wide = wired-readable (nets_of plan.raw table) (driving plan.raw) table (table-numbers plan sound table fit) wires bits (driving-narrow plan sound) wired wide.0 wide.1

pub next-readable : (plan : Plan) → IsSound plan → (table : List ℕ) → FitPorts (driving plan.raw) table → (next : List Wires) → AllWired (driving plan.raw) next (d_bits plan.raw.registers) → (i : ℕ) (w : Wires) → i < length plan.raw.registers → i < length next → w ≡ get_or next i w → IsReadable table w
next-readable plan sound table fit next wired i w inside within is =
    let here = subst (λ (x : Wires). IsWired (driving plan.raw) x (get_or (d_bits plan.raw.registers) i [])) (sym is) (wired-at (driving plan.raw) next (d_bits plan.raw.registers) i w [] wired within) in
    readable-at plan sound table fit w (get_or (d_bits plan.raw.registers) i []) here (d-wide plan.raw.registers i sound.formed.registers inside)

pub next-number : (plan : Plan) → IsSound plan → (table : List ℕ) → FitPorts (driving plan.raw) table → (next : List Wires) → AllWired (driving plan.raw) next (d_bits plan.raw.registers) → (i : ℕ) (w : Wires) (r : Register) → i < length plan.raw.registers → i < length next → w ≡ get_or next i w → parts_number table w.parts ≡ number (values (nets_of plan.raw table) (get_or plan.raw.registers i r).d)
next-number plan sound table fit next wired i w r inside within is =
    let here = subst (λ (x : Wires). IsWired (driving plan.raw) x (get_or (d_bits plan.raw.registers) i [])) (sym is) (wired-at (driving plan.raw) next (d_bits plan.raw.registers) i w [] wired within) in
    wires-number (nets_of plan.raw table) (driving plan.raw) table w (get_or (d_bits plan.raw.registers) i []) (table-numbers plan sound table fit) here
    ∙ ap (λ (b : List Bit). number (values (nets_of plan.raw table) b)) (get_or-map (λ (x : Register). x.d) plan.raw.registers i r [] inside)

pub output-readable : (plan : Plan) → IsSound plan → (table : List ℕ) → FitPorts (driving plan.raw) table → (outputs : List Wires) → AllWired (driving plan.raw) outputs (bits_at plan.raw.outputs) → (i : ℕ) (w : Wires) → i < length plan.raw.outputs → i < length outputs → w ≡ get_or outputs i w → IsReadable table w
output-readable plan sound table fit outputs wired i w inside within is =
    let long : length (bits_at plan.raw.outputs) ≡ length plan.raw.outputs = length-map plan.raw.outputs (λ (p : port.Port). p.bits) in
    let here = subst (λ (x : Wires). IsWired (driving plan.raw) x (get_or (bits_at plan.raw.outputs) i [])) (sym is) (wired-at (driving plan.raw) outputs (bits_at plan.raw.outputs) i w [] wired within) in
    readable-at plan sound table fit w (get_or (bits_at plan.raw.outputs) i []) here (wide-at (bits_at plan.raw.outputs) i sound.formed.outputs (omega (arith, inside, long)))

-- the wires of an output: their width, and the number there
pub output-wired : (plan : Plan) (outputs : List Wires) → AllWired (driving plan.raw) outputs (bits_at plan.raw.outputs) → (i : ℕ) (w : Wires) → i < length outputs → w ≡ get_or outputs i w → IsWired (driving plan.raw) w (get_or (bits_at plan.raw.outputs) i [])
output-wired plan outputs wired i w within is = subst (λ (x : Wires). IsWired (driving plan.raw) x (get_or (bits_at plan.raw.outputs) i [])) (sym is) (wired-at (driving plan.raw) outputs (bits_at plan.raw.outputs) i w [] wired within)

pub output-is : (ports : List port.Port) (i : ℕ) (p : port.Port) → slice_get ports i ≡ Some p → get_or (bits_at ports) i [] ≡ p.bits
output-is [] i p is = absurd (cc)
output-is (x ∷ more) zero p is = (let same : x ≡ p = cc in ap (λ (q : port.Port). q.bits) same)
output-is (x ∷ more) (suc i) p is = output-is more i p is

-- the number of a register fits its start value's width, which is that of Q
pub stored-at : (rs : List Register) (vs : List ℕ) (i d : ℕ) (r : Register) → AllRegistersFit rs → FitPorts (q_bits rs) vs → i < length rs → r ≡ get_or rs i r → (get_or vs i d < 2 ^ r.start.width) × (r.start.width ≡ length r.q)
stored-at [] vs i d r all fit inside is = absurd (omega (arith, inside))
stored-at (x ∷ rs) [] i d r all fit inside is = absurd fit
stored-at (x ∷ rs) (v ∷ vs) zero d r all fit inside is =
    let small : v < 2 ^ x.start.width = subst (λ (w : ℕ). v < 2 ^ w) all.1 fit.0 in
    subst (λ (y : Register). (v < 2 ^ y.start.width) × (y.start.width ≡ length y.q)) (sym is) (small, sym all.1)
stored-at (x ∷ rs) (v ∷ vs) (suc i) d r all fit inside is = stored-at rs vs i d r all.2 fit.1 (omega (arith, inside)) is
