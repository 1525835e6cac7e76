-- Bits, ports and cells in which nets are replaced by the bits that they lead to.
use Rattle.elab_finish.proofs.Common.{◌≡◌, ◌⊎◌, ℕ, zero, suc, ◌<◌, ◌≤◌, List, [], ◌∷◌, map, length, slice_get, refl, sym, ◌∙◌, ap, subst, inl, inr, arith, Contains, cases_lt, Bit, Fixed, Net, Cell}
use Rattle.elab_finish.proofs.Common.{Register, input_ports, output_port, times, times_at, y_bits, cell_readers, AllWide, AllNets, AllPortsNets, AllCellsWide, HasBadShape, AllBelow, PortsBelow}
use Rattle.elab_finish.proofs.Common.{AreCellsBelow, AreJointsBelow, AreRegistersBelow, AreFormed, all_led, led_cell, one_at-cases, times_get, input-led, length-led, output-led, has_none, has_cases}
use Rattle.netlist_core.specs.Shapes.{HasShape, HasWidths, shape_of, widths}
use Rattle.net_builder.specs.declared.builder.Joint.{Joint}
use Rattle.flat_runs.proofs.Growing.{inputs_below}

-- Bits that are led are as many.

pub led_widths : (to : ℕ → Bit) (ports : List (List Bit)) → widths (map (all_led to) ports) ≡ widths ports
led_widths to [] = refl
led_widths to (x ∷ ports) = let head : length (all_led to x) ≡ length x = length-led to x in let tail : widths (map (all_led to) ports) ≡ widths ports = led_widths to ports in rw (head, tail) refl

pub led_wide : (to : ℕ → Bit) (ports : List (List Bit)) → AllWide ports → AllWide (map (all_led to) ports)
led_wide to [] h = tt
led_wide to (x ∷ ports) h = (let e = length-led to x in omega (arith, e, h.0), let e = length-led to x in omega (arith, e, h.1), led_wide to ports h.2)

-- nets that lead to themselves
pub led_same : (to : ℕ → Bit) (bits : List Bit) → AllNets bits → ((n : ℕ) → 1 ≤ times n bits → to n ≡ Net n) → all_led to bits ≡ bits
led_same to [] nets h = refl
led_same to (Fixed v ∷ bits) nets h = absurd nets
led_same to (Net n ∷ bits) nets h =
    let head : to n ≡ Net n = h n (times_get (Net n ∷ bits) 0 n refl) in
    let tail : all_led to bits ≡ bits = led_same to bits nets (λ m some. h m (omega (arith, some))) in
    rw (head, tail) refl

pub led_ys : (to : ℕ → Bit) (cells : List Cell) → AreFormed cells → ((n : ℕ) → 1 ≤ times_at n (y_bits cells) → to n ≡ Net n) → y_bits (map (led_cell to) cells) ≡ y_bits cells
led_ys to [] formed h = refl
led_ys to (cell ∷ cells) formed h =
    let head : output_port (map (all_led to) cell.ports) ≡ output_port cell.ports = output-led to cell.ports ∙ led_same to (output_port cell.ports) formed.2 (λ n some. h n (omega (arith, some))) in
    let tail : y_bits (map (led_cell to) cells) ≡ y_bits cells = led_ys to cells formed.3 (λ n some. h n (omega (arith, some))) in
    rw (head, tail) refl

pub led_cells_wide : (to : ℕ → Bit) (cells : List Cell) → AreFormed cells → AllCellsWide (map (led_cell to) cells)
led_cells_wide to [] formed = tt
led_cells_wide to (cell ∷ cells) formed = (led_wide to cell.ports formed.1, led_cells_wide to cells formed.3)

pub led_shape : (to : ℕ → Bit) (cell : Cell) → HasShape cell → HasShape (led_cell to cell)
led_shape to cell h = subst (λ (ws : List ℕ). HasWidths (shape_of cell.kind) ws) (sym (led_widths to cell.ports)) h

pub none_misshapen : (to : ℕ → Bit) (cells : List Cell) (c : ℕ) → AreFormed cells → HasBadShape (slice_get (map (led_cell to) cells) c) → ⊥
none_misshapen to [] c formed bad = bad
none_misshapen to (cell ∷ cells) zero formed bad = bad (led_shape to cell formed.0)
none_misshapen to (cell ∷ cells) (suc c) formed bad = none_misshapen to cells c formed.3 bad

pub ys_nets : (cells : List Cell) → AreFormed cells → AllPortsNets (y_bits cells)
ys_nets [] formed = tt
ys_nets (cell ∷ cells) formed = (formed.2, ys_nets cells formed.3)

-- Which net a led bit is.

pub first_or_later : (m : ℕ) (x : Bit) (bits : List Bit) → 1 ≤ times m (x ∷ bits) → (x ≡ Net m) ⊎ (1 ≤ times m bits)
first_or_later m (Fixed v) bits some = inr some
first_or_later m (Net k) bits some = elim (one_at-cases k m) [ inl same ↦ inl (ap Net same.0) | inr other ↦ inr (omega (arith, some, other.1)) ]

-- a net stands in led bits where one that leads to it stands in the bits
pub led_net : (to : ℕ → Bit) (limit m : ℕ) (bits : List Bit) → AllBelow limit bits → 1 ≤ times m (all_led to bits) → (n : ℕ) × (n < limit) × (to n ≡ Net m)
led_net to limit m [] below some = absurd (omega (arith, some))
led_net to limit m (Fixed v ∷ bits) below some = led_net to limit m bits below some
led_net to limit m (Net n ∷ bits) below some = elim (first_or_later m (to n) (all_led to bits) some) [
  | inl here ↦ (n, below.0, here)
  | inr later ↦ led_net to limit m bits below.1 later
]

pub led_port_net : (to : ℕ → Bit) (limit m : ℕ) (ports : List (List Bit)) → PortsBelow limit ports → 1 ≤ times_at m (map (all_led to) ports) → (n : ℕ) × (n < limit) × (to n ≡ Net m)
led_port_net to limit m [] below some = absurd (omega (arith, some))
led_port_net to limit m (x ∷ ports) below some = elim (cases_lt (times m (all_led to x)) 1) [
  | inl none ↦ led_port_net to limit m ports below.1 (omega (arith, some, none))
  | inr here ↦ led_net to limit m x below.0 here
]

pub cells_net : (to : ℕ → Bit) (limit m : ℕ) (cells : List Cell) → AreCellsBelow limit cells → 1 ≤ cell_readers (map (led_cell to) cells) m → (n : ℕ) × (n < limit) × (to n ≡ Net m)
cells_net to limit m [] below some = absurd (omega (arith, some))
cells_net to limit m (cell ∷ cells) below some = elim (cases_lt (times_at m (input_ports (map (all_led to) cell.ports))) 1) [
  | inl none ↦ cells_net to limit m cells below.1 (omega (arith, some, none))
  | inr here ↦ led_port_net to limit m (input_ports cell.ports) (inputs_below limit cell.ports below.0) (subst (λ (ports : List (List Bit)). 1 ≤ times_at m ports) (input-led to cell.ports) here)
]

pub register_below : (limit : ℕ) (rs : List Register) (r : Register) → AreRegistersBelow limit rs → Contains rs r → AllBelow limit r.d × (length r.d ≡ length r.q)
register_below limit [] r below has = absurd (has_none r has)
register_below limit (x ∷ rs) r below has = elim (has_cases rs x r has) [
  | inl same ↦ subst (λ (y : Register). AllBelow limit y.d × (length y.d ≡ length y.q)) same (below.0, below.1)
  | inr later ↦ register_below limit rs r below.2 later
]

pub joint_below : (limit : ℕ) (joints : List Joint) (j : Joint) → AreJointsBelow limit joints → Contains joints j → AllBelow limit (j.bit ∷ [])
joint_below limit [] j below has = absurd (has_none j has)
joint_below limit (x ∷ joints) j below has = elim (has_cases joints x j has) [
  | inl same ↦ subst (λ (y : Joint). AllBelow limit (y.bit ∷ [])) same below.1
  | inr later ↦ joint_below limit joints j below.2 later
]

pub length_map : (f : Cell → Cell) (cells : List Cell) → length (map f cells) ≡ length cells
length_map f [] = refl
length_map f (x ∷ cells) = let rest = length_map f cells in omega (arith, rest)
