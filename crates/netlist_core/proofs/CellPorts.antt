-- The cells of a list, and the ports of a netlist's cells.
use Rattle.netlist_core.proofs.Common.{◌≡◌, ℕ, zero, suc, ◌+◌, ◌-◌, ◌<◌, ◌≤◌, List, [], ◌∷◌, length, get_or, take, slice_get, Option, Some, None, refl, sym, ap, subst, inl, inr, ◌∙◌, arith, All}
use Rattle.netlist_core.proofs.Common.{eqb_tells, Bit, Cell, RawNetlist, Fixed, Net, input_ports, output_port, times, ports_of, HasShape, HasBadShape, AllWide, AllCellsWide, Plan, IsSound}
use Rattle.std.proofs.lemmas.Option.{slice_get-get_or}
use Rattle.netlist_core.specs.Below.{AllBelow}
use Rattle.netlist_core.proofs.Owners.{y-one}

-- a cell that was read is the one there
pub cell-there : (cells : List Cell) (i : ℕ) (cell : Cell) → i < length cells → cell ≡ get_or cells i cell → slice_get cells i ≡ Some cell
cell-there cells i cell h is = slice_get-get_or cells i cell h ∙ ap (λ (x : Cell). Some x) (sym is)

pub cell-at : (cells : List Cell) (c : ℕ) → c < length cells → (cell : Cell) × (slice_get cells c ≡ Some cell)
cell-at [] c h = absurd (omega (arith, h))
cell-at (cell ∷ more) zero h = (cell, refl)
cell-at (cell ∷ more) (suc c) h = cell-at more c (omega (arith, h))

pub cell-inside : (cells : List Cell) (c : ℕ) (cell : Cell) → slice_get cells c ≡ Some cell → c < length cells
cell-inside [] c cell e = absurd (cc)
cell-inside (x ∷ more) zero cell e = omega arith
cell-inside (x ∷ more) (suc c) cell e = let rest = cell-inside more c cell e in omega (arith, rest)

-- The cells in the order in which they were read.

-- a number that was read of the order is a cell's
pub ordered : (plan : Plan) → IsSound plan → (read : List ℕ) (i : ℕ) → read ≡ plan.order → i < length read → (get_or read i 0 < length plan.raw.cells) × (get_or plan.order i 0 ≡ get_or read i 0)
ordered plan sound read i same inside =
    let within : i < length plan.order = subst (λ (list : List ℕ). i < length list) same inside in
    let is : get_or plan.order i 0 ≡ get_or read i 0 = sym (ap (λ (list : List ℕ). get_or list i 0) same) in
    (subst (λ (k : ℕ). k < length plan.raw.cells) is (sound.order.places i within).ready.node, is)

pub cells-of : (raw read : RawNetlist) (cells : List Cell) → read ≡ raw → cells ≡ read.cells → cells ≡ raw.cells
cells-of raw read cells same is = is ∙ ap (λ (r : RawNetlist). r.cells) same

-- a cell that was read of the list is the one there
pub cell-read : (cells read : List Cell) (i : ℕ) (cell : Cell) → read ≡ cells → i < length cells → cell ≡ get_or read i cell → slice_get cells i ≡ Some cell
cell-read cells read i cell same inside is = cell-there cells i cell inside (is ∙ ap (λ (list : List Cell). get_or list i cell) same)

-- Shapes.

pub misshapen-at : (cells : List Cell) (c : ℕ) (x : Cell) → c < length cells → x ≡ get_or cells c x → ¬ HasShape x → HasBadShape (slice_get cells c)
misshapen-at cells c x inside is not = subst HasBadShape (sym (cell-there cells c x inside is)) not

pub shaped-at : (cells : List Cell) (c : ℕ) (x cell : Cell) → c < length cells → x ≡ get_or cells c x → HasShape x → slice_get cells c ≡ Some cell → HasShape cell
shaped-at cells c x cell inside is has found = (let both : Some x ≡ Some cell = sym (cell-there cells c x inside is) ∙ found in let same : x ≡ cell = cc in subst HasShape same has)

pub not-misshapen : (o : Option Cell) → ((cell : Cell) → o ≡ Some cell → HasShape cell) → ¬ HasBadShape o
not-misshapen None shapes bad = bad
not-misshapen (Some cell) shapes bad = bad (shapes cell refl)

-- Widths.

wide-at : (cells : List Cell) (c : ℕ) (cell : Cell) → AllCellsWide cells → slice_get cells c ≡ Some cell → AllWide cell.ports
wide-at [] c cell all is = absurd (cc)
wide-at (first ∷ more) zero cell all is = (let here : first ≡ cell = cc in subst (λ (x : Cell). AllWide x.ports) here all.0)
wide-at (first ∷ more) (suc c) cell all is = wide-at more c cell all.1 is

pub cell-wide : (plan : Plan) → IsSound plan → (c : ℕ) (cell : Cell) → slice_get plan.raw.cells c ≡ Some cell → AllWide cell.ports
cell-wide plan sound c cell is = wide-at plan.raw.cells c cell sound.formed.cells is

-- a port of 1 to 128 bits
pub wide-port : (ports : List (List Bit)) (i : ℕ) (d : List Bit) → AllWide ports → i < length ports → (1 ≤ length (get_or ports i d)) × (length (get_or ports i d) ≤ 128)
wide-port [] i d all h = absurd (omega (arith, h))
wide-port (bits ∷ more) zero d all h = (all.0, all.1)
wide-port (bits ∷ more) (suc i) d all h = wide-port more i d all.2 (omega (arith, h))

pub narrow-ports : (ports : List (List Bit)) → AllWide ports → All (λ bits. length bits ≤ 128) ports
narrow-ports ports all = λ k d h. (wide-port ports k d all h).1

-- Input ports and Y.

-- the input ports are all but the last, which is Y
input_ports-front : (ports : List (List Bit)) (k : ℕ) → length ports ≡ suc k → input_ports ports ≡ take k ports
input_ports-front [] k e = absurd (omega (arith, e))
input_ports-front (y ∷ []) zero e = refl
input_ports-front (y ∷ []) (suc k) e = absurd (omega (arith, e))
input_ports-front (a ∷ b ∷ more) zero e = absurd (omega (arith, e))
input_ports-front (a ∷ b ∷ more) (suc k) e = ap (λ (l : List (List Bit)). a ∷ l) (input_ports-front (b ∷ more) k (omega (arith, e)))

pub input_ports-take : (ports : List (List Bit)) (n : ℕ) → n ≡ length ports - 1 → take n ports ≡ input_ports ports
input_ports-take [] n e = let none : n ≡ 0 = omega (arith, e) in rw none refl
input_ports-take (a ∷ more) n e = let same : n ≡ length more = omega (arith, e) in rw same (sym (input_ports-front (a ∷ more) (length more) refl))

pub output_port-last : (ports : List (List Bit)) (k : ℕ) (y : List Bit) → length ports ≡ suc k → y ≡ get_or ports k y → y ≡ output_port ports
output_port-last [] k y e at = absurd (omega (arith, e))
output_port-last (a ∷ []) zero y e at = at
output_port-last (a ∷ []) (suc k) y e at = absurd (omega (arith, e))
output_port-last (a ∷ b ∷ more) zero y e at = absurd (omega (arith, e))
output_port-last (a ∷ b ∷ more) (suc k) y e at = output_port-last (b ∷ more) k y (omega (arith, e)) at

-- Nets that are driven are below the netlist's number.

pub bits-below : (limit : ℕ) (bits : List Bit) → ((n : ℕ) → 1 ≤ times n bits → n < limit) → AllBelow limit bits
bits-below limit [] h = tt
bits-below limit (Fixed b ∷ more) h = bits-below limit more h
bits-below limit (Net n ∷ more) h = (
  elim (eqb_tells n n) [ inl same ↦ (let once : times n (Net n ∷ more) ≡ 1 + times n more = rw same.0 refl in h n (omega (arith, once))) | inr other ↦ absurd (other.1 refl) ],
  bits-below limit more (λ m some. h m (omega (arith, some))),
)

-- the nets of a cell's Y
pub output-below : (plan : Plan) → IsSound plan → (c : ℕ) (cell : Cell) → slice_get plan.raw.cells c ≡ Some cell → AllBelow plan.nets (output_port cell.ports)
output-below plan sound c cell is = bits-below plan.nets (output_port cell.ports) (λ n some.
    let here : 1 ≤ times n (output_port (ports_of (slice_get plan.raw.cells c))) = subst (λ (o : Option Cell). 1 ≤ times n (output_port (ports_of o))) (sym is) some in
    sound.below n (omega (arith, here, y-one plan.raw.cells c n)))
