-- A number that nothing drives stands at no port.
use Rattle.mutation_sites.proofs.Common.{◌≡◌, ◌≢◌, ℕ, zero, suc, ◌+◌, ◌≤◌, List, [], ◌∷◌, ◌++◌, length, get_or, slice_get, Option, Some, ◌⊎◌, false, inl, inr, refl, sym, ap, subst, ◌∙◌, arith}
use Rattle.mutation_sites.proofs.Common.{cases_lt, eqb_tells, Bit, Fixed, Net, Gate, Flop, RawNetlist, q_bits, d_bits, input_ports, output_port, times, times_at, drivers, readers, ports_of, Plan}
use Rattle.mutation_sites.proofs.Common.{IsSound, y-one, Place, Cell, Register, register_port, port_at, cell_connected, cells_connected, Readers}
use Rattle.netlist_core.proofs.Reading.{cell-reads}

-- Numbers among bits.

pub times-self : (n : ℕ) → times n (Net n ∷ []) ≡ 1
times-self n = elim (eqb_tells n n) [ inl same ↦ rw same.0 refl | inr other ↦ absurd (other.1 refl) ]

pub times-other : (m n : ℕ) → m ≢ n → times n (Net m ∷ []) ≡ 0
times-other m n apart = elim (eqb_tells m n) [ inl same ↦ absurd (apart same.1) | inr other ↦ rw other.0 refl ]

pub times-cons : (n : ℕ) (b : Bit) (more : List Bit) → times n (b ∷ more) ≡ times n (b ∷ []) + times n more
times-cons n (Fixed v) more = omega arith
times-cons n (Net m) more = omega arith

-- a number that isn't among the bits is not one that is
pub apart : (n m : ℕ) (bits : List Bit) → times n bits ≡ 0 → 1 ≤ times m bits → m ≢ n
apart n m bits none some same = let gone : times m bits ≡ 0 = subst (λ (k : ℕ). times k bits ≡ 0) (sym same) none in omega (arith, gone, some)

pub apart-ports : (n m : ℕ) (ports : List (List Bit)) → times_at n ports ≡ 0 → 1 ≤ times_at m ports → m ≢ n
apart-ports n m ports none some same = let gone : times_at m ports ≡ 0 = subst (λ (k : ℕ). times_at k ports ≡ 0) (sym same) none in omega (arith, gone, some)

-- Numbers at ports.

pub bit-has : (n : ℕ) (bits : List Bit) (i : ℕ) → times n (get_or bits i (Fixed false) ∷ []) ≤ times n bits
bit-has n [] i = omega arith
bit-has n (Fixed v ∷ more) zero = omega arith
bit-has n (Net m ∷ more) zero = omega arith
bit-has n (Fixed v ∷ more) (suc i) = bit-has n more i
bit-has n (Net m ∷ more) (suc i) = let rest = bit-has n more i in omega (arith, rest)

pub ports-split : (n : ℕ) (ports : List (List Bit)) → times_at n ports ≡ times_at n (input_ports ports) + times n (output_port ports)
ports-split n [] = refl
ports-split n (y ∷ []) = omega arith
ports-split n (a ∷ b ∷ more) = let rest = ports-split n (b ∷ more) in omega (arith, rest)

port-has : (n : ℕ) (ports : List (List Bit)) (p : ℕ) → times n (get_or ports p []) ≤ times_at n ports
port-has n [] p = omega arith
port-has n (bits ∷ more) zero = omega arith
port-has n (bits ∷ more) (suc p) = let rest = port-has n more p in omega (arith, rest)

-- Y is the last port
pub last-port : (ports : List (List Bit)) (p : ℕ) (d : List Bit) → p + 1 ≡ length ports → get_or ports p d ≡ output_port ports
last-port [] p d is = absurd (omega (arith, is))
last-port (y ∷ []) zero d is = refl
last-port (y ∷ []) (suc p) d is = absurd (omega (arith, is))
last-port (a ∷ b ∷ more) zero d is = absurd (omega (arith, is))
last-port (a ∷ b ∷ more) (suc p) d is = last-port (b ∷ more) p d (omega (arith, is))

register-has : (n : ℕ) (registers : List Flop) (r p : ℕ) → times n (register_port (slice_get registers r) p) ≤ times_at n (d_bits registers) + times_at n (q_bits registers)
register-has n [] r p = omega arith
register-has n (register ∷ more) zero zero = omega arith
register-has n (register ∷ more) zero (suc p) = omega arith
register-has n (register ∷ more) (suc r) p = let rest = register-has n more r p in omega (arith, rest)

pub q-has : (n : ℕ) (registers : List Flop) (r p : ℕ) → times n (register_port (slice_get registers r) (suc p)) ≤ times_at n (q_bits registers)
q-has n [] r p = omega arith
q-has n (register ∷ more) zero p = omega arith
q-has n (register ∷ more) (suc r) p = let rest = q-has n more r p in omega (arith, rest)

-- what stands at a place is driven or read
pub place-has : (netlist : RawNetlist) (place : Place) (p n : ℕ) → times n (port_at netlist place p) ≤ drivers netlist n + readers netlist n
place-has netlist (Cell c) p n =
    let ports = ports_of (slice_get netlist.cells c) in
    omega (arith, port-has n ports p, ports-split n ports, cell-reads netlist.cells c n, y-one netlist.cells c n)
place-has netlist (Register r) p n = omega (arith, register-has n netlist.registers r p)

pub cell-has : (netlist : RawNetlist) (c n : ℕ) (cell : Gate) → slice_get netlist.cells c ≡ Some cell → times_at n cell.ports ≤ drivers netlist n + readers netlist n
cell-has netlist c n cell is =
    let ports = ports_of (slice_get netlist.cells c) in
    let same : times_at n ports ≡ times_at n cell.ports = ap (λ (o : Option Gate). times_at n (ports_of o)) is in
    omega (arith, same, ports-split n ports, cell-reads netlist.cells c n, y-one netlist.cells c n)

-- what nothing drives isn't read
pub unread : (plan : Plan) → IsSound plan → (n : ℕ) → drivers plan.raw n ≡ 0 → readers plan.raw n ≡ 0
unread plan sound n none = elim (cases_lt 0 (readers plan.raw n)) [
  | inl some ↦ absurd (sound.connected.reads n (omega (arith, some), none))
  | inr past ↦ omega (arith, past)
]

-- The cells of a mutant: those of the netlist, connected, and more.

pub cell-cases : (readers : Readers) (new : Bit) (k c : ℕ) (cells extra : List Gate) (got : Gate) → slice_get (cells_connected readers new k cells ++ extra) c ≡ Some got → ((cell : Gate) × (slice_get cells c ≡ Some cell) × (cell_connected readers new (k + c) cell ≡ got)) ⊎ ((j : ℕ) × (c ≡ length cells + j) × (slice_get extra j ≡ Some got))
cell-cases readers new k c [] extra got is = inr (c, omega arith, is)
cell-cases readers new k zero (cell ∷ more) extra got is =
    let here : cell_connected readers new k cell ≡ got = cc in
    let first : k + zero ≡ k = omega arith in
    inl (cell, refl, ap (λ (j : ℕ). cell_connected readers new j cell) first ∙ here)
cell-cases readers new k (suc c) (cell ∷ more) extra got is = elim (cell-cases readers new (k + 1) c more extra got is) [
  | inl old ↦ (let later : k + suc c ≡ k + 1 + c = omega arith in inl (old.0, old.1, ap (λ (j : ℕ). cell_connected readers new j old.0) later ∙ old.2))
  | inr fresh ↦ inr (fresh.0, omega (arith, fresh.1), fresh.2)
]
