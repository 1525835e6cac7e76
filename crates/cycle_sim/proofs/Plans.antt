-- The drivers of a sound netlist.
use Rattle.cycle_sim.proofs.Common.{◌≡◌, ℕ, zero, suc, ◌+◌, ◌^◌, ◌<◌, ◌≤◌, List, [], ◌∷◌, ◌++◌, length, map, replicate, get_or, set, slice_get, Some, refl, sym, ◌∙◌, ap, subst, inl, inr, arith}
use Rattle.cycle_sim.proofs.Common.{cases_lt, pow_pos, length-append, length-map, get_or-append-add, Word, Bit, Cell, Register, RawNetlist, bits_at, q_bits, output_port, port_numbers, plain, taken}
use Rattle.cycle_sim.proofs.Common.{values, Nets, number, times_at, y_bits, drivers, readers, AllWide, AllPortsNets, AllRegistersFit, AllCellsWide, Plan, IsSound, FitPorts, driving, all_zero}
use Rattle.cycle_sim.proofs.Common.{length-values, number-fits, laid_all-numbers, nets_of, numbers_of, HaveWidths}
use Rattle.netlist_core.specs.declared.port.Port as port
use Rattle.netlist_core.specs.Checked.{all_bits}
use Rattle.cycle_sim.proofs.Laid.{times_at-append}
use Rattle.cycle_sim.proofs.Wired.{AllNarrow}

-- Ports side by side.

pub nets-append : (xs ys : List (List Bit)) → AllPortsNets xs → AllPortsNets ys → AllPortsNets (xs ++ ys)
nets-append [] ys a b = b
nets-append (x ∷ xs) ys a b = (a.0, nets-append xs ys a.1 b)

pub fit-length : (ports : List (List Bit)) (vs : List ℕ) → FitPorts ports vs → length vs ≡ length ports
fit-length [] [] fit = refl
fit-length [] (v ∷ vs) fit = absurd fit
fit-length (bits ∷ more) [] fit = absurd fit
fit-length (bits ∷ more) (v ∷ vs) fit = ap suc (fit-length more vs fit.1)

pub fit-set : (ports : List (List Bit)) (vs : List ℕ) (d v : ℕ) → FitPorts ports vs → v < 2 ^ length (get_or ports d []) → FitPorts ports (set vs d v)
fit-set [] [] d v fit small = tt
fit-set [] (x ∷ vs) d v fit small = absurd fit
fit-set (bits ∷ more) [] d v fit small = absurd fit
fit-set (bits ∷ more) (x ∷ vs) zero v fit small = (small, fit.1)
fit-set (bits ∷ more) (x ∷ vs) (suc d) v fit small = (fit.0, fit-set more vs d v fit.1 small)

pub fit-zeros : (ports : List (List Bit)) → FitPorts ports (replicate (length ports) 0)
fit-zeros [] = tt
fit-zeros (bits ∷ more) = (pow_pos (length bits), fit-zeros more)

pub fit-words : (ports : List (List Bit)) (words : List Word) → HaveWidths ports words → FitPorts ports (numbers_of words)
fit-words [] [] have = tt
fit-words [] (w ∷ words) have = absurd have
fit-words (bits ∷ more) [] have = absurd have
fit-words (bits ∷ more) (w ∷ words) have = (subst (λ (k : ℕ). w.bits < 2 ^ k) have.0 w.fits, fit-words more words have.1)

pub words-length : (ports : List (List Bit)) (words : List Word) → HaveWidths ports words → length words ≡ length ports
words-length [] [] have = refl
words-length [] (w ∷ words) have = absurd have
words-length (bits ∷ more) [] have = absurd have
words-length (bits ∷ more) (w ∷ words) have = ap suc (words-length more words have.1)

fit-start : (r : Register) → length r.q ≡ r.start.width → r.start.bits < 2 ^ length r.q
fit-start r same = subst (λ (k : ℕ). r.start.bits < 2 ^ k) (sym same) r.start.fits

pub fit-starts : (rs : List Register) → AllRegistersFit rs → FitPorts (q_bits rs) (map (λ (r : Register). r.start.bits) rs)
fit-starts [] all = tt
fit-starts (r ∷ rs) all = (fit-start r all.1, fit-starts rs all.2)

pub fit-taken : (nets : Nets) (k : ℕ) (rs : List Register) → AllRegistersFit rs → FitPorts (q_bits rs) (taken (plain nets) k rs)
fit-taken nets k [] all = tt
fit-taken nets k (r ∷ rs) all =
    let wide : length (values nets r.d) ≡ length r.q = length-values nets r.d ∙ all.0 ∙ sym all.1 in
    (subst (λ (w : ℕ). number (values nets r.d) < 2 ^ w) wide (number-fits (values nets r.d)), fit-taken nets (k + 1) rs all.2)

-- Widths.

narrow-cons : (bits : List Bit) (more : List (List Bit)) → length bits ≤ 128 → AllNarrow more → AllNarrow (bits ∷ more)
narrow-cons bits more here rest zero d inside = here
narrow-cons bits more here rest (suc i) d inside = rest i d (omega (arith, inside))

pub narrow-append : (xs ys : List (List Bit)) → AllNarrow xs → AllNarrow ys → AllNarrow (xs ++ ys)
narrow-append [] ys a b = b
narrow-append (x ∷ xs) ys a b = narrow-cons x (xs ++ ys) (a 0 [] (omega arith)) (narrow-append xs ys (λ i d h. a (suc i) d (omega (arith, h))) b)

pub narrow-wide : (ports : List (List Bit)) → AllWide ports → AllNarrow ports
narrow-wide [] wide = λ i d h. absurd (omega (arith, h))
narrow-wide (bits ∷ more) wide = narrow-cons bits more wide.1 (narrow-wide more wide.2)

narrow-q : (rs : List Register) → AllRegistersFit rs → AllNarrow (q_bits rs)
narrow-q [] all = λ i d h. absurd (omega (arith, h))
narrow-q (r ∷ rs) all = narrow-cons r.q (q_bits rs) (let few = r.start.narrow in let same = all.1 in omega (arith, few, same)) (narrow-q rs all.2)

pub y-narrow : (ports : List (List Bit)) → AllWide ports → length (output_port ports) ≤ 128
y-narrow [] wide = omega arith
y-narrow (y ∷ []) wide = wide.1
y-narrow (a ∷ b ∷ more) wide = y-narrow (b ∷ more) wide.2

narrow-y : (cells : List Cell) → AllCellsWide cells → AllNarrow (y_bits cells)
narrow-y [] all = λ i d h. absurd (omega (arith, h))
narrow-y (cell ∷ more) all = narrow-cons (output_port cell.ports) (y_bits more) (y-narrow cell.ports all.0) (narrow-y more all.1)

pub driving-narrow : (plan : Plan) → IsSound plan → AllNarrow (driving plan.raw)
driving-narrow plan sound =
    let raw : RawNetlist = plan.raw in
    narrow-append (bits_at raw.inputs) (q_bits raw.registers ++ y_bits raw.cells) (narrow-wide (bits_at raw.inputs) sound.formed.inputs) (narrow-append (q_bits raw.registers) (y_bits raw.cells) (narrow-q raw.registers sound.formed.registers) (narrow-y raw.cells sound.formed.cells))

-- Each net is driven once.

pub driving-times : (raw : RawNetlist) (n : ℕ) → times_at n (driving raw) ≡ drivers raw n
driving-times raw n =
    let outer = times_at-append n (bits_at raw.inputs) (q_bits raw.registers ++ y_bits raw.cells) in
    let inner = times_at-append n (q_bits raw.registers) (y_bits raw.cells) in
    omega (arith, outer, inner)

pub driving-once : (plan : Plan) → IsSound plan → (n : ℕ) → times_at n (driving plan.raw) ≤ 1
driving-once plan sound n = elim (cases_lt 1 (drivers plan.raw n)) [
  | inl twice ↦ absurd (sound.connected.driven.single n (omega (arith, twice)))
  | inr one ↦ (let same = driving-times plan.raw n in omega (arith, one, same))
]

pub driving-nets : (plan : Plan) → IsSound plan → AllPortsNets (driving plan.raw)
driving-nets plan sound =
    let raw : RawNetlist = plan.raw in
    nets-append (bits_at raw.inputs) (q_bits raw.registers ++ y_bits raw.cells) sound.formed.entered (nets-append (q_bits raw.registers) (y_bits raw.cells) sound.formed.stored sound.formed.computed)

-- the drivers have their numbers in the table
pub table-numbers : (plan : Plan) → IsSound plan → (table : List ℕ) → FitPorts (driving plan.raw) table → port_numbers (nets_of plan.raw table) (driving plan.raw) ≡ table
table-numbers plan sound table fit = laid_all-numbers all_zero (driving plan.raw) table (driving-nets plan sound) (driving-once plan sound) fit

-- what is read is driven
pub read-driven : (plan : Plan) → IsSound plan → (n : ℕ) → 1 ≤ readers plan.raw n → 1 ≤ times_at n (driving plan.raw)
read-driven plan sound n reads = elim (cases_lt 0 (drivers plan.raw n)) [
  | inl some ↦ (let same = driving-times plan.raw n in omega (arith, some, same))
  | inr none ↦ absurd (sound.connected.reads n (reads, omega (arith, none)))
]

pub driven-below : (plan : Plan) → IsSound plan → (n : ℕ) → 1 ≤ times_at n (driving plan.raw) → n < plan.nets
driven-below plan sound n some = (let same = driving-times plan.raw n in sound.below n (omega (arith, some, same)))

-- How many drivers there are, and where they stand.

pub driving-length : (raw : RawNetlist) → length (driving raw) ≡ length raw.inputs + length raw.registers + length raw.cells
driving-length raw =
    let outer = length-append (bits_at raw.inputs) (q_bits raw.registers ++ y_bits raw.cells) in
    let inner = length-append (q_bits raw.registers) (y_bits raw.cells) in
    let a = length-map raw.inputs (λ (p : port.Port). p.bits) in
    let b = length-map raw.registers (λ (r : Register). r.q) in
    let e = length-map raw.cells (λ (c : Cell). output_port c.ports) in
    omega (arith, outer, inner, a, b, e)

pub ports-few : (ports : List (List Bit)) → AllWide ports → length ports ≤ all_bits ports
ports-few [] wide = omega arith
ports-few (bits ∷ more) wide = (let rest = ports-few more wide.2 in let here = wide.0 in omega (arith, rest, here))

pub registers-few : (rs : List Register) → AllRegistersFit rs → length rs ≤ all_bits (q_bits rs)
registers-few [] all = omega arith
registers-few (r ∷ rs) all = (let rest = registers-few rs all.2 in let some = r.start.some in let same = all.1 in omega (arith, rest, some, same))

pub driving-few : (plan : Plan) → IsSound plan → length (driving plan.raw) < 2 ^ 32
driving-few plan sound =
    let raw : RawNetlist = plan.raw in
    let a = ports-few (bits_at raw.inputs) sound.formed.inputs in
    let b = registers-few raw.registers sound.formed.registers in
    let small = sound.connected.driven.shaped.small in
    let bits = small.bits in
    let cells = small.cells in
    let long = driving-length raw in
    let same = length-map raw.inputs (λ (p : port.Port). p.bits) in
    omega (arith, a, b, bits, cells, long, same)

-- a cell's Y among the drivers
pub driving-y : (raw : RawNetlist) (c : ℕ) (cell : Cell) → slice_get raw.cells c ≡ Some cell → get_or (driving raw) (length raw.inputs + length raw.registers + c) [] ≡ output_port cell.ports
driving-y raw c cell is =
    let a = length-map raw.inputs (λ (p : port.Port). p.bits) in
    let b = length-map raw.registers (λ (r : Register). r.q) in
    let place : length raw.inputs + length raw.registers + c ≡ length (bits_at raw.inputs) + (length (q_bits raw.registers) + c) = omega (arith, a, b) in
    ap (λ (k : ℕ). get_or (driving raw) k []) place
    ∙ get_or-append-add (bits_at raw.inputs) (q_bits raw.registers ++ y_bits raw.cells) (length (q_bits raw.registers) + c) []
    ∙ get_or-append-add (q_bits raw.registers) (y_bits raw.cells) c []
    ∙ y-at raw.cells c is
  where
    y-at : (cells : List Cell) (c : ℕ) → slice_get cells c ≡ Some cell → get_or (y_bits cells) c [] ≡ output_port cell.ports
    y-at [] c is = absurd (cc)
    y-at (first ∷ more) zero is = (let here : first ≡ cell = cc in ap (λ (x : Cell). output_port x.ports) here)
    y-at (first ∷ more) (suc c) is = y-at more c is
