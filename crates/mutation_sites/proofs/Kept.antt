-- A mutant passes the tests on sizes, shapes, drivers and readers.
use Rattle.mutation_sites.proofs.Common.{◌≡◌, ◌≢◌, ℕ, zero, suc, ◌+◌, ◌%◌, ◌≤◌, false, List, [], ◌∷◌, ◌++◌, map, length, set, slice_get, Some, ◌⊎◌, inl, inr, refl, sym, ap, subst, arith, cases_lt}
use Rattle.mutation_sites.proofs.Common.{eqb_tells, Span, Bit, Fixed, Net, Gate, Not, Xor, Xnor, Flop, RawNetlist, Port, Next, Outputs, bits_at, d_bits, input_ports, output_port, times, times_at}
use Rattle.mutation_sites.proofs.Common.{y_bits, drivers, cell_readers, readers, HasTwoDrivers, IsUndriven, shape_of, HasWidths, HasShape, widths, all_bits, net_bits, IsMisshapen, Never, Plan}
use Rattle.mutation_sites.proofs.Common.{IsSound, not-misshapen, Mode, Inv, Const0, Const1, Cnot0, Cnot1, Site, Readers, Change, Nothing, AtBit, AtNet, change_of, readers_at, port_at, replaced}
use Rattle.mutation_sites.proofs.Common.{connected, ports_connected, cell_connected, cells_connected, registers_connected, port_connected, new_bit, new_cells, bit_of, control_of, span_at, mutant_of}
use Rattle.netlist_core.specs.declared.port.Port as port
use Rattle.mutation_sites.proofs.Alike.{output-same, q-same}
use Rattle.mutation_sites.proofs.Formed.{length-connected}
use Rattle.mutation_sites.proofs.Unread.{times-self, times-other, times-cons, bit-has, place-has, unread, cell-cases}
use Rattle.netlist_core.proofs.Sources.{some-of}

-- Net bits: at most one more.

outputs-bits : (change : Change) (new : Bit) (outputs : List port.Port) → all_bits (bits_at (map (port_connected change new) outputs)) ≡ all_bits (bits_at outputs)
outputs-bits change new [] = refl
outputs-bits change new (p ∷ more) = omega (arith, length-connected change new p.bits, outputs-bits change new more)

y-bits : (readers : Readers) (new : Bit) (c : ℕ) (cells extra : List Gate) → all_bits (y_bits (cells_connected readers new c cells ++ extra)) ≡ all_bits (y_bits cells) + all_bits (y_bits extra)
y-bits readers new c [] extra = omega arith
y-bits readers new c (cell ∷ rest) extra =
    let here : length (output_port (ports_connected readers new c 0 cell.ports)) ≡ length (output_port cell.ports) = ap length (output-same readers new c 0 cell.ports) in
    omega (arith, here, y-bits readers new (c + 1) rest extra)

new-bits : (mode : Mode) (bit control : Bit) (fresh : ℕ) (span : Span) → all_bits (y_bits (new_cells mode bit control fresh span)) ≤ 1
new-bits Inv bit control fresh span = omega arith
new-bits Const0 bit control fresh span = omega arith
new-bits Const1 bit control fresh span = omega arith
new-bits Cnot0 bit control fresh span = omega arith
new-bits Cnot1 bit control fresh span = omega arith

pub bits-kept : (netlist : RawNetlist) (site : Site) (fresh : ℕ) → net_bits (mutant_of netlist site fresh) ≤ net_bits netlist + 1
bits-kept netlist site fresh =
    let readers = readers_at netlist site.place site.port site.bit in
    let new = new_bit site.mode fresh in
    let bits = port_at netlist site.place site.port in
    let extra = new_cells site.mode (bit_of bits site.bit) (control_of bits site.bit) fresh (span_at netlist site.place) in
    omega (
      arith,
      outputs-bits (change_of readers Outputs) new netlist.outputs,
      ap all_bits (q-same readers new 0 netlist.registers),
      y-bits readers new 0 netlist.cells extra,
      new-bits site.mode (bit_of bits site.bit) (control_of bits site.bit) fresh (span_at netlist site.place),
    )

-- Shapes.

pub widths-same : (readers : Readers) (new : Bit) (c p : ℕ) (ports : List (List Bit)) → widths (ports_connected readers new c p ports) ≡ widths ports
widths-same readers new c p [] = refl
widths-same readers new c p (y ∷ []) = refl
widths-same readers new c p (a ∷ b ∷ more) =
    let first = length-connected (change_of readers (Port c p)) new a in
    let rest = widths-same readers new c (p + 1) (b ∷ more) in
    cc

new-shape : (mode : Mode) (bit control : Bit) (fresh : ℕ) (span : Span) (j : ℕ) (got : Gate) → slice_get (new_cells mode bit control fresh span) j ≡ Some got → HasShape got
new-shape Inv bit control fresh span zero got is =
    let made : Gate = record { kind = Not; is_signed = false; ports = (bit ∷ []) ∷ (Net fresh ∷ []) ∷ []; span = span } in
    let here : made ≡ got = cc in
    subst HasShape here refl
new-shape Cnot0 bit control fresh span zero got is =
    let made : Gate = record { kind = Xnor; is_signed = false; ports = (bit ∷ []) ∷ (control ∷ []) ∷ (Net fresh ∷ []) ∷ []; span = span } in
    let here : made ≡ got = cc in
    subst HasShape here (refl, refl)
new-shape Cnot1 bit control fresh span zero got is =
    let made : Gate = record { kind = Xor; is_signed = false; ports = (bit ∷ []) ∷ (control ∷ []) ∷ (Net fresh ∷ []) ∷ []; span = span } in
    let here : made ≡ got = cc in
    subst HasShape here (refl, refl)
new-shape Const0 bit control fresh span j got is = absurd (cc)
new-shape Const1 bit control fresh span j got is = absurd (cc)
new-shape Inv bit control fresh span (suc j) got is = absurd (cc)
new-shape Cnot0 bit control fresh span (suc j) got is = absurd (cc)
new-shape Cnot1 bit control fresh span (suc j) got is = absurd (cc)

connected-shape : (readers : Readers) (new : Bit) (c : ℕ) (cell : Gate) → HasShape cell → HasShape (cell_connected readers new c cell)
connected-shape readers new c cell shape = subst (HasWidths (shape_of cell.kind)) (sym (widths-same readers new c 0 cell.ports)) shape

shape-at : (plan : Plan) → IsSound plan → (site : Site) (fresh c : ℕ) (got : Gate) → slice_get (mutant_of plan.raw site fresh).cells c ≡ Some got → HasShape got
shape-at plan sound site fresh c got is =
    let netlist = plan.raw in
    let bits = port_at netlist site.place site.port in
    let bit = bit_of bits site.bit in
    let control = control_of bits site.bit in
    let span = span_at netlist site.place in
    let readers = readers_at netlist site.place site.port site.bit in
    let new = new_bit site.mode fresh in
    elim (cell-cases readers new 0 c netlist.cells (new_cells site.mode bit control fresh span) got is) [
      | inl old ↦ subst HasShape old.2 (connected-shape readers new (0 + c) old.0 (sound.connected.driven.shaped.shapes c old.0 old.1))
      | inr added ↦ new-shape site.mode bit control fresh span added.0 got added.2
    ]

pub shapes-kept : (plan : Plan) → IsSound plan → (site : Site) (fresh : ℕ) → Never (IsMisshapen (mutant_of plan.raw site fresh))
shapes-kept plan sound site fresh c = not-misshapen (slice_get (mutant_of plan.raw site fresh).cells c) (shape-at plan sound site fresh c)

-- Drivers: the new cell drives the new net alone.

y-times : (n : ℕ) (readers : Readers) (new : Bit) (c : ℕ) (cells extra : List Gate) → times_at n (y_bits (cells_connected readers new c cells ++ extra)) ≡ times_at n (y_bits cells) + times_at n (y_bits extra)
y-times n readers new c [] extra = omega arith
y-times n readers new c (cell ∷ rest) extra =
    let here : times n (output_port (ports_connected readers new c 0 cell.ports)) ≡ times n (output_port cell.ports) = ap (times n) (output-same readers new c 0 cell.ports) in
    omega (arith, here, y-times n readers new (c + 1) rest extra)

-- the new cell's Y is the new bit, where there is such a cell
new-times : (n : ℕ) (mode : Mode) (bit control : Bit) (fresh : ℕ) (span : Span) → times_at n (y_bits (new_cells mode bit control fresh span)) ≡ times n (new_bit mode fresh ∷ [])
new-times n Inv bit control fresh span = omega arith
new-times n Const0 bit control fresh span = refl
new-times n Const1 bit control fresh span = refl
new-times n Cnot0 bit control fresh span = omega arith
new-times n Cnot1 bit control fresh span = omega arith

pub drivers-more : (netlist : RawNetlist) (site : Site) (fresh n : ℕ) → drivers (mutant_of netlist site fresh) n ≡ drivers netlist n + times n (new_bit site.mode fresh ∷ [])
drivers-more netlist site fresh n =
    let readers = readers_at netlist site.place site.port site.bit in
    let new = new_bit site.mode fresh in
    let bits = port_at netlist site.place site.port in
    let bit = bit_of bits site.bit in
    let control = control_of bits site.bit in
    let span = span_at netlist site.place in
    omega (
      arith,
      ap (times_at n) (q-same readers new 0 netlist.registers),
      y-times n readers new 0 netlist.cells (new_cells site.mode bit control fresh span),
      new-times n site.mode bit control fresh span,
    )

new-once : (mode : Mode) (n : ℕ) → times n (new_bit mode n ∷ []) ≤ 1
new-once Inv n = omega (arith, times-self n)
new-once Const0 n = omega arith
new-once Const1 n = omega arith
new-once Cnot0 n = omega (arith, times-self n)
new-once Cnot1 n = omega (arith, times-self n)

pub new-other : (mode : Mode) (fresh n : ℕ) → fresh ≢ n → times n (new_bit mode fresh ∷ []) ≡ 0
new-other Inv fresh n other = times-other fresh n other
new-other Const0 fresh n other = refl
new-other Const1 fresh n other = refl
new-other Cnot0 fresh n other = times-other fresh n other
new-other Cnot1 fresh n other = times-other fresh n other

pub single-kept : (plan : Plan) → IsSound plan → (site : Site) (fresh : ℕ) → drivers plan.raw fresh ≡ 0 → Never (HasTwoDrivers (mutant_of plan.raw site fresh))
single-kept plan sound site fresh none n two = elim (eqb_tells fresh n) [
  | inl same ↦ (
      let lacks : drivers plan.raw n ≡ 0 = subst (λ (k : ℕ). drivers plan.raw k ≡ 0) same.1 none in
      let once : times n (new_bit site.mode fresh ∷ []) ≤ 1 = subst (λ (k : ℕ). times n (new_bit site.mode k ∷ []) ≤ 1) (sym same.1) (new-once site.mode n) in
      absurd (omega (arith, two, drivers-more plan.raw site fresh n, lacks, once)))
  | inr other ↦ sound.connected.driven.single n (omega (arith, two, drivers-more plan.raw site fresh n, new-other site.mode fresh n other.1))
]

-- Readers: what a mutant reads was read or stood at the site, or is the new net.

-- the change takes away one of the bits
abbrev pub Tapped : Change → List Bit → Type 0
Tapped Nothing bits = ⊥
Tapped (AtBit i) bits = Unit {0}
Tapped (AtNet k) bits = 1 ≤ times k bits

set-cases : (n : ℕ) (bits : List Bit) (i : ℕ) (new : Bit) → 1 ≤ times n (set bits i new) → (1 ≤ times n bits) ⊎ (1 ≤ times n (new ∷ []))
set-cases n [] i new h = inl h
set-cases n (b ∷ more) zero new h = elim (some-of (times n (new ∷ [])) (times n more) (omega (arith, h, times-cons n new more))) [
  | inl here ↦ inr here
  | inr there ↦ inl (omega (arith, there, times-cons n b more))
]
set-cases n (b ∷ more) (suc i) new h = elim (some-of (times n (b ∷ [])) (times n (set more i new)) (omega (arith, h, times-cons n b (set more i new)))) [
  | inl here ↦ inl (omega (arith, here, times-cons n b more))
  | inr there ↦ elim (set-cases n more i new there) [
    | inl old ↦ inl (omega (arith, old, times-cons n b more))
    | inr added ↦ inr added
  ]
]

replaced-one : (n k : ℕ) (new b : Bit) → 1 ≤ times n (replaced k new b ∷ []) → (1 ≤ times n (b ∷ [])) ⊎ ((1 ≤ times n (new ∷ [])) × (1 ≤ times k (b ∷ [])))
replaced-one n k new (Fixed v) h = inl h
replaced-one n k new (Net m) h = elim (eqb_tells m k) [
  | inl same ↦ (
      let is : replaced k new (Net m) ≡ new = rw same.0 refl in
      inr (subst (λ (x : Bit). 1 ≤ times n (x ∷ [])) is h, subst (λ (j : ℕ). 1 ≤ times j (Net m ∷ [])) same.1 (omega (arith, times-self m))))
  | inr other ↦ (
      let is : replaced k new (Net m) ≡ Net m = rw other.0 refl in
      inl (subst (λ (x : Bit). 1 ≤ times n (x ∷ [])) is h))
]

replaced-cases : (n k : ℕ) (new : Bit) (bits : List Bit) → 1 ≤ times n (map (replaced k new) bits) → (1 ≤ times n bits) ⊎ ((1 ≤ times n (new ∷ [])) × (1 ≤ times k bits))
replaced-cases n k new [] h = inl h
replaced-cases n k new (b ∷ more) h = elim (some-of (times n (replaced k new b ∷ [])) (times n (map (replaced k new) more)) (omega (arith, h, times-cons n (replaced k new b) (map (replaced k new) more)))) [
  | inl here ↦ elim (replaced-one n k new b here) [
    | inl old ↦ inl (omega (arith, old, times-cons n b more))
    | inr added ↦ inr (added.0, omega (arith, added.1, times-cons k b more))
  ]
  | inr there ↦ elim (replaced-cases n k new more there) [
    | inl old ↦ inl (omega (arith, old, times-cons n b more))
    | inr added ↦ inr (added.0, omega (arith, added.1, times-cons k b more))
  ]
]

pub connected-cases : (n : ℕ) (change : Change) (new : Bit) (bits : List Bit) → 1 ≤ times n (connected change new bits) → (1 ≤ times n bits) ⊎ ((1 ≤ times n (new ∷ [])) × Tapped change bits)
connected-cases n Nothing new bits h = inl h
connected-cases n (AtBit i) new bits h = elim (set-cases n bits i new h) [ inl old ↦ inl old | inr added ↦ inr (added, tt) ]
connected-cases n (AtNet k) new bits h = replaced-cases n k new bits h

connected-none : (n : ℕ) (change : Change) (new : Bit) (bits : List Bit) → times n bits ≡ 0 → times n (new ∷ []) ≡ 0 → times n (connected change new bits) ≡ 0
connected-none n change new bits none lacks = elim (cases_lt 0 (times n (connected change new bits))) [
  | inl some ↦ absurd (elim (connected-cases n change new bits (omega (arith, some))) [
    | inl old ↦ omega (arith, old, none)
    | inr added ↦ omega (arith, added.0, lacks)
  ])
  | inr past ↦ omega (arith, past)
]

ports-none : (n : ℕ) (readers : Readers) (new : Bit) (c p : ℕ) (ports : List (List Bit)) → times_at n (input_ports ports) ≡ 0 → times n (new ∷ []) ≡ 0 → times_at n (input_ports (ports_connected readers new c p ports)) ≡ 0
ports-none n readers new c p [] none lacks = refl
ports-none n readers new c p (y ∷ []) none lacks = refl
ports-none n readers new c p (a ∷ b ∷ []) none lacks =
    let first = connected-none n (change_of readers (Port c p)) new a (omega (arith, none)) lacks in
    omega (arith, first)
ports-none n readers new c p (a ∷ b ∷ d ∷ more) none lacks =
    let first = connected-none n (change_of readers (Port c p)) new a (omega (arith, none)) lacks in
    let rest = ports-none n readers new c (p + 1) (b ∷ d ∷ more) (omega (arith, none)) lacks in
    omega (arith, first, rest)

cells-none : (n : ℕ) (readers : Readers) (new : Bit) (c : ℕ) (cells extra : List Gate) → cell_readers cells n ≡ 0 → times n (new ∷ []) ≡ 0 → cell_readers extra n ≡ 0 → cell_readers (cells_connected readers new c cells ++ extra) n ≡ 0
cells-none n readers new c [] extra none lacks last = last
cells-none n readers new c (cell ∷ more) extra none lacks last =
    let first = ports-none n readers new c 0 cell.ports (omega (arith, none)) lacks in
    let rest = cells-none n readers new (c + 1) more extra (omega (arith, none)) lacks last in
    omega (arith, first, rest)

new-none : (n : ℕ) (mode : Mode) (bit control : Bit) (fresh : ℕ) (span : Span) → times n (bit ∷ []) ≡ 0 → times n (control ∷ []) ≡ 0 → cell_readers (new_cells mode bit control fresh span) n ≡ 0
new-none n Inv bit control fresh span first second = omega (arith, first)
new-none n Const0 bit control fresh span first second = refl
new-none n Const1 bit control fresh span first second = refl
new-none n Cnot0 bit control fresh span first second = omega (arith, first, second)
new-none n Cnot1 bit control fresh span first second = omega (arith, first, second)

d-none : (n : ℕ) (readers : Readers) (new : Bit) (r : ℕ) (registers : List Flop) → times_at n (d_bits registers) ≡ 0 → times n (new ∷ []) ≡ 0 → times_at n (d_bits (registers_connected readers new r registers)) ≡ 0
d-none n readers new r [] none lacks = refl
d-none n readers new r (register ∷ more) none lacks =
    let first = connected-none n (change_of readers (Next r)) new register.d (omega (arith, none)) lacks in
    let rest = d-none n readers new (r + 1) more (omega (arith, none)) lacks in
    omega (arith, first, rest)

outputs-none : (n : ℕ) (change : Change) (new : Bit) (outputs : List port.Port) → times_at n (bits_at outputs) ≡ 0 → times n (new ∷ []) ≡ 0 → times_at n (bits_at (map (port_connected change new) outputs)) ≡ 0
outputs-none n change new [] none lacks = refl
outputs-none n change new (p ∷ more) none lacks =
    let first = connected-none n change new p.bits (omega (arith, none)) lacks in
    let rest = outputs-none n change new more (omega (arith, none)) lacks in
    omega (arith, first, rest)

readers-none : (plan : Plan) → IsSound plan → (site : Site) (fresh n : ℕ) → drivers (mutant_of plan.raw site fresh) n ≡ 0 → readers (mutant_of plan.raw site fresh) n ≡ 0
readers-none plan sound site fresh n gone =
    let netlist = plan.raw in
    let taps = readers_at netlist site.place site.port site.bit in
    let new = new_bit site.mode fresh in
    let bits = port_at netlist site.place site.port in
    let bit = bit_of bits site.bit in
    let control = control_of bits site.bit in
    let span = span_at netlist site.place in
    let none : drivers netlist n ≡ 0 = omega (arith, gone, drivers-more netlist site fresh n) in
    let lacks : times n (new ∷ []) ≡ 0 = omega (arith, gone, drivers-more netlist site fresh n) in
    let away : readers netlist n ≡ 0 = unread plan sound n none in
    let there = place-has netlist site.place site.port n in
    let first : times n (bit ∷ []) ≡ 0 = omega (arith, bit-has n bits site.bit, there, none, away) in
    let second : times n (control ∷ []) ≡ 0 = omega (arith, bit-has n bits ((site.bit + 1) % length bits), there, none, away) in
    let last = new-none n site.mode bit control fresh span first second in
    let cells = cells-none n taps new 0 netlist.cells (new_cells site.mode bit control fresh span) (omega (arith, away)) lacks last in
    let d = d-none n taps new 0 netlist.registers (omega (arith, away)) lacks in
    let outputs = outputs-none n (change_of taps Outputs) new netlist.outputs (omega (arith, away)) lacks in
    omega (arith, cells, d, outputs)

pub reads-kept : (plan : Plan) → IsSound plan → (site : Site) (fresh : ℕ) → Never (IsUndriven (mutant_of plan.raw site fresh))
reads-kept plan sound site fresh n undriven = omega (arith, undriven.0, readers-none plan sound site fresh n undriven.1)
