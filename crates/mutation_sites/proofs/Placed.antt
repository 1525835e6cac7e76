-- At each listed site there is a bit.
use Rattle.mutation_sites.proofs.Common.{◌≡◌, ℕ, suc, ◌+◌, ◌<◌, ◌≤◌, List, [], ◌∷◌, ◌++◌, length, get_or, slice_get, Option, Some, refl, ap, ◌∙◌, arith, All, Bit, Gate, Flop, RawNetlist, ports_of}
use Rattle.mutation_sites.proofs.Common.{Mode, ModeSet, Place, Cell, Register, Site, modes_of, set_at, bit_sites, bits_sites, port_sites, ports_sites, cells_sites, registers_sites, sites}
use Rattle.mutation_sites.proofs.Common.{register_port, port_at, IsSite}
use Rattle.std.proofs.lemmas.List.Elements.{All-nil, All-append, All-map}

-- a site at a port, at a bit below a number
abbrev IsAt : Place → ℕ → ℕ → Site → Type 0
IsAt place p n site = (site.place ≡ place) × (site.port ≡ p) × (site.bit < n)

bit-at : (modes : List Mode) (place : Place) (p i n : ℕ) → i < n → All (IsAt place p n) (bit_sites modes place p i)
bit-at modes place p i n below = All-map (IsAt place p n) (λ mode. record { mode = mode; place = place; port = p; bit = i }) modes (λ k d inside. (refl, refl, below))

bits-at : (modes : List Mode) (place : Place) (p i n : ℕ) (bits : List Bit) → i + length bits ≤ n → All (IsAt place p n) (bits_sites modes place p i bits)
bits-at modes place p i n [] fit = All-nil (IsAt place p n)
bits-at modes place p i n (bit ∷ more) fit = All-append (IsAt place p n) (bit_sites modes place p i) (bits_sites modes place p (i + 1) more) (bit-at modes place p i n (omega (arith, fit))) (bits-at modes place p (i + 1) n more (omega (arith, fit)))

placed-at : (netlist : RawNetlist) (place : Place) (p : ℕ) (bits : List Bit) (site : Site) → port_at netlist place p ≡ bits → IsAt place p (length bits) site → IsSite netlist site
placed-at netlist place p bits site is at =
    let same : port_at netlist site.place site.port ≡ bits = ap (λ (q : Place). port_at netlist q site.port) at.0 ∙ ap (port_at netlist place) at.1 ∙ is in
    omega (arith, at.2, ap length same)

port-placed : (netlist : RawNetlist) (set : ModeSet) (place : Place) (p : ℕ) (bits : List Bit) → port_at netlist place p ≡ bits → All (IsSite netlist) (port_sites set place p bits)
port-placed netlist set place p bits is = λ k d inside. placed-at netlist place p bits (get_or (port_sites set place p bits) k d) is (bits-at (modes_of (set_at set (length bits))) place p 0 (length bits) bits (omega arith) k d inside)

ports-placed : (netlist : RawNetlist) (set : ModeSet) (c p : ℕ) (ports : List (List Bit)) → ((k : ℕ) → port_at netlist (Cell c) (p + k) ≡ get_or ports k []) → All (IsSite netlist) (ports_sites set (Cell c) p ports)
ports-placed netlist set c p [] there = All-nil (IsSite netlist)
ports-placed netlist set c p (bits ∷ more) there =
    let first : p ≡ p + 0 = omega arith in
    let here : port_at netlist (Cell c) p ≡ bits = ap (port_at netlist (Cell c)) first ∙ there 0 in
    All-append (IsSite netlist) (port_sites set (Cell c) p bits) (ports_sites set (Cell c) (p + 1) more) (port-placed netlist set (Cell c) p bits here) (ports-placed netlist set c (p + 1) more (λ k. let later : p + 1 + k ≡ p + suc k = omega arith in ap (port_at netlist (Cell c)) later ∙ there (suc k)))

cells-placed : (netlist : RawNetlist) (set : ModeSet) (c : ℕ) (cells : List Gate) → ((j : ℕ) → slice_get netlist.cells (c + j) ≡ slice_get cells j) → All (IsSite netlist) (cells_sites set c cells)
cells-placed netlist set c [] there = All-nil (IsSite netlist)
cells-placed netlist set c (cell ∷ more) there =
    let first : c ≡ c + 0 = omega arith in
    let here : slice_get netlist.cells c ≡ Some cell = ap (slice_get netlist.cells) first ∙ there 0 in
    All-append (IsSite netlist) (ports_sites set (Cell c) 0 cell.ports) (cells_sites set (c + 1) more)
    (ports-placed netlist set c 0 cell.ports (λ k. let number : 0 + k ≡ k = omega arith in ap (port_at netlist (Cell c)) number ∙ ap (λ (o : Option Gate). get_or (ports_of o) k []) here))
    (cells-placed netlist set (c + 1) more (λ j. let later : c + 1 + j ≡ c + suc j = omega arith in ap (slice_get netlist.cells) later ∙ there (suc j)))

registers-placed : (netlist : RawNetlist) (set : ModeSet) (r : ℕ) (registers : List Flop) → ((j : ℕ) → slice_get netlist.registers (r + j) ≡ slice_get registers j) → All (IsSite netlist) (registers_sites set r registers)
registers-placed netlist set r [] there = All-nil (IsSite netlist)
registers-placed netlist set r (register ∷ more) there =
    let first : r ≡ r + 0 = omega arith in
    let here : slice_get netlist.registers r ≡ Some register = ap (slice_get netlist.registers) first ∙ there 0 in
    let d = port-placed netlist set (Register r) 0 register.d (ap (λ (o : Option Flop). register_port o 0) here) in
    let q = port-placed netlist set (Register r) 1 register.q (ap (λ (o : Option Flop). register_port o 1) here) in
    let rest = registers-placed netlist set (r + 1) more (λ j. let later : r + 1 + j ≡ r + suc j = omega arith in ap (slice_get netlist.registers) later ∙ there (suc j)) in
    All-append (IsSite netlist) (port_sites set (Register r) 0 register.d) (port_sites set (Register r) 1 register.q ++ registers_sites set (r + 1) more) d
    (All-append (IsSite netlist) (port_sites set (Register r) 1 register.q) (registers_sites set (r + 1) more) q rest)

pub sites-placed : (set : ModeSet) (netlist : RawNetlist) → All (IsSite netlist) (sites set netlist)
sites-placed set netlist =
    All-append (IsSite netlist) (cells_sites set 0 netlist.cells) (registers_sites set 0 netlist.registers)
    (cells-placed netlist set 0 netlist.cells (λ j. let number : 0 + j ≡ j = omega arith in ap (slice_get netlist.cells) number))
    (registers-placed netlist set 0 netlist.registers (λ j. let number : 0 + j ≡ j = omega arith in ap (slice_get netlist.registers) number))
