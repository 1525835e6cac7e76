-- How many sites a netlist has: what is counted is the length of the list, and a sound netlist has few.
use Rattle.mutation_sites.proofs.Common.{◌≡◌, ℕ, suc, ◌+◌, ◌*◌, ◌≤◌, Bool, true, false, List, [], ◌∷◌, ◌++◌, length, refl, ◌∙◌, arith, length-append, length-map, Bit, Gate, Flop, RawNetlist, q_bits}
use Rattle.mutation_sites.proofs.Common.{HasShape, all_bits, AllWide, AllCellsWide, AllRegistersFit, Plan, IsSound, Mode, ModeSet, Place, Cell, Register, is_in, all_modes, modes_of, set_at, bit_sites}
use Rattle.mutation_sites.proofs.Common.{bits_sites, port_sites, ports_sites, cells_sites, registers_sites, sites, port_count, ports_count, cells_count, registers_count, filter}
use Rattle.std.proofs.Math.Nat.{mul-le-mul_left}
use Rattle.mutation_sites.proofs.Ports.{few-ports}
use Rattle.std.specs.Prelude.{slice_get, Some}

-- What is counted is the length.

length-bits : (modes : List Mode) (place : Place) (p i : ℕ) (bits : List Bit) → length (bits_sites modes place p i bits) ≡ length bits * length modes
length-bits modes place p i [] = omega arith
length-bits modes place p i (bit ∷ more) =
    let here : length (bit_sites modes place p i) ≡ length modes = length-map modes _ in
    let rest : length (bits_sites modes place p (i + 1) more) ≡ length more * length modes = length-bits modes place p (i + 1) more in
    length-append (bit_sites modes place p i) (bits_sites modes place p (i + 1) more) ∙ omega (arith, here, rest)

length-port : (set : ModeSet) (place : Place) (p : ℕ) (bits : List Bit) → length (port_sites set place p bits) ≡ port_count set bits
length-port set place p bits = length-bits (modes_of (set_at set (length bits))) place p 0 bits

length-ports : (set : ModeSet) (place : Place) (p : ℕ) (ports : List (List Bit)) → length (ports_sites set place p ports) ≡ ports_count set ports
length-ports set place p [] = refl
length-ports set place p (bits ∷ more) =
    length-append (port_sites set place p bits) (ports_sites set place (p + 1) more) ∙ omega (arith, length-port set place p bits, length-ports set place (p + 1) more)

length-cells : (set : ModeSet) (c : ℕ) (cells : List Gate) → length (cells_sites set c cells) ≡ cells_count set cells
length-cells set c [] = refl
length-cells set c (cell ∷ more) =
    length-append (ports_sites set (Cell c) 0 cell.ports) (cells_sites set (c + 1) more) ∙ omega (arith, length-ports set (Cell c) 0 cell.ports, length-cells set (c + 1) more)

length-registers : (set : ModeSet) (r : ℕ) (registers : List Flop) → length (registers_sites set r registers) ≡ registers_count set registers
length-registers set r [] = refl
length-registers set r (register ∷ more) =
    length-append (port_sites set (Register r) 0 register.d) (port_sites set (Register r) 1 register.q ++ registers_sites set (r + 1) more)
    ∙ omega (arith, length-append (port_sites set (Register r) 1 register.q) (registers_sites set (r + 1) more), length-port set (Register r) 0 register.d, length-port set (Register r) 1 register.q, length-registers set (r + 1) more)

pub length-sites : (set : ModeSet) (netlist : RawNetlist) → length (sites set netlist) ≡ cells_count set netlist.cells + registers_count set netlist.registers
length-sites set netlist =
    length-append (cells_sites set 0 netlist.cells) (registers_sites set 0 netlist.registers) ∙ omega (arith, length-cells set 0 netlist.cells, length-registers set 0 netlist.registers)

-- There are few.

filter-cons : (P : Mode → Bool) (b : Bool) (m : Mode) (more : List Mode) → P m ≡ b → length (filter P more) ≤ length more → length (filter P (m ∷ more)) ≤ length (m ∷ more)
filter-cons P true m more is rest = rw is (omega (arith, rest))
filter-cons P false m more is rest = rw is (omega (arith, rest))

filter-few : (P : Mode → Bool) (modes : List Mode) → length (filter P modes) ≤ length modes
filter-few P [] = omega arith
filter-few P (m ∷ more) = filter-cons P (P m) m more refl (filter-few P more)

five : (set : ModeSet) → length (modes_of set) ≤ 5
five set = filter-few (is_in set) all_modes

port-few : (set : ModeSet) (bits : List Bit) → port_count set bits ≤ length bits * 5
port-few set bits = mul-le-mul_left (length bits) (five (set_at set (length bits)))

ports-few : (set : ModeSet) (ports : List (List Bit)) → AllWide ports → ports_count set ports ≤ length ports * 640
ports-few set [] all = omega arith
ports-few set (bits ∷ more) all = omega (arith, port-few set bits, all.1, ports-few set more all.2)

cells-few : (set : ModeSet) (cells : List Gate) → AllCellsWide cells → ((c : ℕ) (cell : Gate) → slice_get cells c ≡ Some cell → HasShape cell) → cells_count set cells ≤ length cells * 2560
cells-few set [] all shapes = omega arith
cells-few set (cell ∷ more) all shapes =
    omega (arith, ports-few set cell.ports all.0, few-ports cell (shapes 0 cell refl), cells-few set more all.1 (λ c. shapes (suc c)))

registers-few : (set : ModeSet) (registers : List Flop) → AllRegistersFit registers → registers_count set registers ≤ all_bits (q_bits registers) * 10
registers-few set [] fit = omega arith
registers-few set (r ∷ more) fit = omega (arith, port-few set r.d, port-few set r.q, fit.0, fit.1, registers-few set more fit.2)

pub cells-total : (set : ModeSet) (plan : Plan) → IsSound plan → cells_count set plan.raw.cells ≤ 167772160
cells-total set plan sound =
    omega (arith, cells-few set plan.raw.cells sound.formed.cells sound.connected.driven.shaped.shapes, sound.connected.driven.shaped.small.cells)

pub registers-total : (set : ModeSet) (plan : Plan) → IsSound plan → registers_count set plan.raw.registers ≤ 10485770
registers-total set plan sound =
    omega (arith, registers-few set plan.raw.registers sound.formed.registers, sound.connected.driven.shaped.small.bits)

-- each register has a bit or more
registers-some : (registers : List Flop) → AllRegistersFit registers → length registers ≤ all_bits (q_bits registers)
registers-some [] fit = omega arith
registers-some (r ∷ more) fit = let some : 1 ≤ r.start.width = r.start.some in omega (arith, some, fit.1, registers-some more fit.2)

pub registers-number : (plan : Plan) → IsSound plan → length plan.raw.registers ≤ 1048577
registers-number plan sound = omega (arith, registers-some plan.raw.registers sound.formed.registers, sound.connected.driven.shaped.small.bits)
