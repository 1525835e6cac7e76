-- What readers see in a mutant rests on what stands where they read.
--
-- Where a reader alone sees the mutated bit, it stands among its own bits. Where all readers of a net see it, the bit and its
-- control bit are driven together with that net.
use Rattle.step_trials.proofs.Common.{◌≡◌, ℕ, zero, suc, ◌+◌, ◌≤◌, Bool, true, false, List, [], ◌∷◌, ◌++◌, map, length, get_or, set, slice_get, Option, None, Some, nat_eq, refl, sym, ap, subst, ◌∙◌}
use Rattle.step_trials.proofs.Common.{inl, inr, arith, if◌then◌else◌, ◌&&◌, length-set, Bit, Fixed, Net, Gate, Flop, RawNetlist, number, cell_value, Nets, Reader, Next, Outputs, Sight, values}
use Rattle.step_trials.proofs.Common.{bits_at, q_bits, input_ports, output_port, ports_seen, Holds, shown, taken, with_net, times, y_bits, driving, AgreeAround, IsCausal, length-values, values-agree}
use Rattle.step_trials.proofs.Common.{Site, register_port, port_at, mutated_at, readers_of_bit, readers_at, change_of, seen, mutated_value, sight_at}
use Rattle.std.specs.List.{Contains}
use Rattle.std.proofs.lemmas.Bool.Decides.{eqb_tells}
use Rattle.std.proofs.lemmas.List.Elements.{Contains-append_left, Contains-append_right}
use Rattle.netlist_core.specs.Runs.{Port}
use Rattle.netlist_core.specs.Orders.{ports_of}
use Rattle.mutation_sites.specs.declared.site.Place.{Place}
use Rattle.mutation_sites.specs.declared.site.Place.TheVariants.{Cell, Register}

-- Who sees the mutated bit: all readers of a net, or one reader alone.

-- the net of a bit
abbrev net_of : Bit → Option ℕ
net_of (Fixed b) = None
net_of (Net n) = Some n

-- the net at a Y or a Q whose readers all see it
abbrev net_at : RawNetlist → Place → ℕ → ℕ → Option ℕ
net_at netlist (Cell c) p i = if nat_eq (p + 1) (length (ports_of (slice_get netlist.cells c))) then net_of (get_or (get_or (ports_of (slice_get netlist.cells c)) p []) i (Fixed false)) else None
net_at netlist (Register r) zero i = None
net_at netlist (Register r) (suc p) i = net_of (get_or (register_port (slice_get netlist.registers r) 1) i (Fixed false))

-- whether it is the reader at the input port or the D
abbrev is_own : RawNetlist → Place → ℕ → Reader → Bool
is_own netlist (Cell c) p (Port d q) = if nat_eq (p + 1) (length (ports_of (slice_get netlist.cells c))) then false else (nat_eq c d && nat_eq p q)
is_own netlist (Register r) zero (Next s) = nat_eq r s
is_own netlist place p reader = false

-- what is seen where the mutated bit has this value
abbrev seen_by : Option ℕ → Bool → ℕ → Bool → Nets → List Bit → List Bool
seen_by None false i v nets bits = values nets bits
seen_by None true i v nets bits = set (values nets bits) i v
seen_by (Some n) own i v nets bits = values (with_net nets n v) bits

at-bit : (bit : Bit) (reader : Reader) (i : ℕ) (v : Bool) (nets : Nets) (bits : List Bit) → seen (change_of (readers_of_bit bit) reader) v nets bits ≡ seen_by (net_of bit) false i v nets bits
at-bit (Fixed b) (Port c p) i v nets bits = refl
at-bit (Fixed b) (Next r) i v nets bits = refl
at-bit (Fixed b) Outputs i v nets bits = refl
at-bit (Net n) (Port c p) i v nets bits = refl
at-bit (Net n) (Next r) i v nets bits = refl
at-bit (Net n) Outputs i v nets bits = refl

at-place : (netlist : RawNetlist) (place : Place) (p i : ℕ) (reader : Reader) (v : Bool) (nets : Nets) (bits : List Bit) → seen (change_of (readers_at netlist place p i) reader) v nets bits ≡ seen_by (net_at netlist place p i) (is_own netlist place p reader) i v nets bits
at-place netlist (Cell c) p i (Port d q) v nets bits = elim (eqb_tells (p + 1) (length (ports_of (slice_get netlist.cells c)))) [
  | inl same ↦ rw same.0 (at-bit (get_or (get_or (ports_of (slice_get netlist.cells c)) p []) i (Fixed false)) (Port d q) i v nets bits)
  | inr other ↦ elim (eqb_tells c d) [
    | inl cell ↦ elim (eqb_tells p q) [ inl port ↦ rw (other.0, cell.0, port.0) refl | inr apart ↦ rw (other.0, cell.0, apart.0) refl ]
    | inr apart ↦ rw (other.0, apart.0) refl
  ]
]
at-place netlist (Cell c) p i (Next s) v nets bits = elim (eqb_tells (p + 1) (length (ports_of (slice_get netlist.cells c)))) [
  | inl same ↦ rw same.0 (at-bit (get_or (get_or (ports_of (slice_get netlist.cells c)) p []) i (Fixed false)) (Next s) i v nets bits)
  | inr other ↦ rw other.0 refl
]
at-place netlist (Cell c) p i Outputs v nets bits = elim (eqb_tells (p + 1) (length (ports_of (slice_get netlist.cells c)))) [
  | inl same ↦ rw same.0 (at-bit (get_or (get_or (ports_of (slice_get netlist.cells c)) p []) i (Fixed false)) Outputs i v nets bits)
  | inr other ↦ rw other.0 refl
]
at-place netlist (Register r) zero i (Port d q) v nets bits = refl
at-place netlist (Register r) zero i (Next s) v nets bits = elim (eqb_tells r s) [ inl same ↦ rw same.0 refl | inr other ↦ rw other.0 refl ]
at-place netlist (Register r) zero i Outputs v nets bits = refl
at-place netlist (Register r) (suc p) i (Port d q) v nets bits = at-bit (get_or (register_port (slice_get netlist.registers r) 1) i (Fixed false)) (Port d q) i v nets bits
at-place netlist (Register r) (suc p) i (Next s) v nets bits = at-bit (get_or (register_port (slice_get netlist.registers r) 1) i (Fixed false)) (Next s) i v nets bits
at-place netlist (Register r) (suc p) i Outputs v nets bits = at-bit (get_or (register_port (slice_get netlist.registers r) 1) i (Fixed false)) Outputs i v nets bits

-- What readers see where the mutated bit that one reader alone sees is made of its own bits.

abbrev near_seen : RawNetlist → Site → Option ℕ → Bool → Nets → List Bit → List Bool
near_seen netlist site None false nets bits = values nets bits
near_seen netlist site None true nets bits = set (values nets bits) site.bit (mutated_at site.mode site.bit (values nets bits))
near_seen netlist site (Some n) own nets bits = values (with_net nets n (mutated_value netlist site nets)) bits

abbrev net : RawNetlist → Site → Option ℕ
net netlist site = net_at netlist site.place site.port site.bit

abbrev own : RawNetlist → Site → Reader → Bool
own netlist site reader = is_own netlist site.place site.port reader

abbrev pub near : RawNetlist → Site → Nets → Sight
near netlist site nets reader bits = near_seen netlist site (net netlist site) (own netlist site reader) nets bits

-- at the bits of the site's port it is what is seen in the mutant
near-by : (netlist : RawNetlist) (site : Site) (some : Option ℕ) (alone : Bool) (nets : Nets) (bits : List Bit) → (alone ≡ true → bits ≡ port_at netlist site.place site.port) → seen_by some alone site.bit (mutated_value netlist site nets) nets bits ≡ near_seen netlist site some alone nets bits
near-by netlist site None false nets bits at = refl
near-by netlist site None true nets bits at = ap (λ (bs : List Bit). set (values nets bits) site.bit (mutated_at site.mode site.bit (values nets bs))) (sym (at refl))
near-by netlist site (Some n) alone nets bits at = refl

seen-near : (netlist : RawNetlist) (site : Site) (reader : Reader) (nets : Nets) (bits : List Bit) → (own netlist site reader ≡ true → bits ≡ port_at netlist site.place site.port) → sight_at netlist site nets reader bits ≡ near netlist site nets reader bits
seen-near netlist site reader nets bits at =
    at-place netlist site.place site.port site.bit reader (mutated_value netlist site nets) nets bits ∙ near-by netlist site (net netlist site) (own netlist site reader) nets bits at

-- Where all readers of a net see the mutated bit, the net is driven at the site's port.

at-bits : (bits : List Bit) (i n : ℕ) → net_of (get_or bits i (Fixed false)) ≡ Some n → 1 ≤ times n bits
at-bits [] i n is = cc
at-bits (Fixed b ∷ more) zero n is = cc
at-bits (Fixed b ∷ more) (suc i) n is = at-bits more i n is
at-bits (Net m ∷ more) zero n is = (let here : m ≡ n = cc in elim (eqb_tells m n) [ inl same ↦ rw same.0 (omega arith) | inr other ↦ absurd (other.1 here) ])
at-bits (Net m ∷ more) (suc i) n is = (let rest = at-bits more i n is in omega (arith, rest))

y-driving : (cells : List Gate) (c : ℕ) (cell : Gate) → slice_get cells c ≡ Some cell → Contains (y_bits cells) (output_port cell.ports)
y-driving [] c cell is = cc
y-driving (first ∷ more) zero cell is = (let here : first ≡ cell = cc in (zero, omega arith, ap (λ (x : Gate). output_port x.ports) here))
y-driving (first ∷ more) (suc c) cell is = (let rest = y-driving more c cell is in (suc rest.0, omega (arith, rest.1), rest.2))

q-driving : (registers : List Flop) (r : ℕ) (register : Flop) → slice_get registers r ≡ Some register → Contains (q_bits registers) register.q
q-driving [] r register is = cc
q-driving (first ∷ more) zero register is = (let here : first ≡ register = cc in (zero, omega arith, ap (λ (x : Flop). x.q) here))
q-driving (first ∷ more) (suc r) register is = (let rest = q-driving more r register is in (suc rest.0, omega (arith, rest.1), rest.2))

-- Y is the last port
last-port : (ports : List (List Bit)) (p : ℕ) → p + 1 ≡ length ports → get_or ports p [] ≡ output_port ports
last-port [] p is = absurd (omega (arith, is))
last-port (y ∷ []) zero is = refl
last-port (y ∷ []) (suc p) is = absurd (omega (arith, is))
last-port (a ∷ b ∷ more) zero is = absurd (omega (arith, is))
last-port (a ∷ b ∷ more) (suc p) is = last-port (b ∷ more) p (omega (arith, is))

-- the bits are driven together, and the net is one of them
abbrev AreDriven : RawNetlist → List Bit → ℕ → Type 0
AreDriven netlist bits n = Contains (driving netlist) bits × (1 ≤ times n bits)

y-port : (netlist : RawNetlist) (c p : ℕ) (o : Option Gate) → slice_get netlist.cells c ≡ o → p + 1 ≡ length (ports_of o) → Contains (driving netlist) (get_or (ports_of o) p [])
y-port netlist c p None at last = absurd (omega (arith, last))
y-port netlist c p (Some cell) at last =
    subst (Contains (driving netlist)) (sym (last-port cell.ports p last))
    (Contains-append_right (bits_at netlist.inputs) (q_bits netlist.registers ++ y_bits netlist.cells) (output_port cell.ports)
    (Contains-append_right (q_bits netlist.registers) (y_bits netlist.cells) (output_port cell.ports) (y-driving netlist.cells c cell at)))

q-port : (netlist : RawNetlist) (r p i n : ℕ) (o : Option Flop) → slice_get netlist.registers r ≡ o → net_of (get_or (register_port o 1) i (Fixed false)) ≡ Some n → AreDriven netlist (register_port o (suc p)) n
q-port netlist r p i n None at is = cc
q-port netlist r p i n (Some register) at is = (
  Contains-append_right (bits_at netlist.inputs) (q_bits netlist.registers ++ y_bits netlist.cells) register.q
      (Contains-append_left (q_bits netlist.registers) (y_bits netlist.cells) register.q (q-driving netlist.registers r register at)),
  at-bits register.q i n is,
)

port-net : (netlist : RawNetlist) (place : Place) (p i n : ℕ) → net_at netlist place p i ≡ Some n → AreDriven netlist (port_at netlist place p) n
port-net netlist (Cell c) p i n is = elim (eqb_tells (p + 1) (length (ports_of (slice_get netlist.cells c)))) [
  | inl same ↦ (
      let found : net_of (get_or (get_or (ports_of (slice_get netlist.cells c)) p []) i (Fixed false)) ≡ Some n = rw same.0 at is in
      (y-port netlist c p (slice_get netlist.cells c) refl same.1, at-bits (get_or (ports_of (slice_get netlist.cells c)) p []) i n found))
  | inr other ↦ (let no : None ≡ Some n = rw other.0 at is in cc)
]
port-net netlist (Register r) zero i n is = cc
port-net netlist (Register r) (suc p) i n is = q-port netlist r p i n (slice_get netlist.registers r) refl is

-- So what is seen rests on what stands there.

near-length : (netlist : RawNetlist) (site : Site) (some : Option ℕ) (alone : Bool) (nets : Nets) (bits : List Bit) → length (near_seen netlist site some alone nets bits) ≡ length bits
near-length netlist site None false nets bits = length-values nets bits
near-length netlist site None true nets bits = length-set (values nets bits) site.bit (mutated_at site.mode site.bit (values nets bits)) ∙ length-values nets bits
near-length netlist site (Some n) alone nets bits = length-values (with_net nets n (mutated_value netlist site nets)) bits

mutated-agree : (netlist : RawNetlist) (site : Site) (n : ℕ) (bits : List Bit) (a b : Nets) → net netlist site ≡ Some n → 1 ≤ times n bits → AgreeAround netlist bits a b → mutated_value netlist site a ≡ mutated_value netlist site b
mutated-agree netlist site n bits a b is some h =
    let driven = port-net netlist site.place site.port site.bit n is in
    let port : List Bit = port_at netlist site.place site.port in
    ap (λ (vs : List Bool). mutated_at site.mode site.bit vs) (values-agree a b port (λ k has. h n k some (inr (port, driven.0, driven.1, has))))

near-agree : (netlist : RawNetlist) (site : Site) (some : Option ℕ) (alone : Bool) → net netlist site ≡ some → (a b : Nets) (bits : List Bit) → AgreeAround netlist bits a b → near_seen netlist site some alone a bits ≡ near_seen netlist site some alone b bits
near-agree netlist site None false is a b bits h = values-agree a b bits (λ n some. h n n some (inl refl))
near-agree netlist site None true is a b bits h = ap (λ (vs : List Bool). set vs site.bit (mutated_at site.mode site.bit vs)) (values-agree a b bits (λ n some. h n n some (inl refl)))
near-agree netlist site (Some n) alone is a b bits h =
    let v : Bool = mutated_value netlist site a in
    let w : Bool = mutated_value netlist site b in
    values-agree (with_net a n v) (with_net b n w) bits (λ m some. elim (eqb_tells m n) [
      | inl same ↦ rw same.0 (mutated-agree netlist site n bits a b is (subst (λ (k : ℕ). 1 ≤ times k bits) same.1 some) h)
      | inr other ↦ rw other.0 (h m m some (inl refl))
    ])

pub near-causal : (netlist : RawNetlist) (site : Site) → IsCausal netlist (near netlist site)
near-causal netlist site = record {
  wide = λ nets reader bits. near-length netlist site (net netlist site) (own netlist site reader) nets bits;
  alike = λ a b reader bits h. near-agree netlist site (net netlist site) (own netlist site reader) refl a b bits h;
}

-- At its own bits a reader sees the same: port p of cell c, where a reader there alone sees the mutated bit, is the site's.

at-port : (netlist : RawNetlist) (place : Place) (p c q : ℕ) → is_own netlist place p (Port c q) ≡ true → port_at netlist (Cell c) q ≡ port_at netlist place p
at-port netlist (Cell d) p c q is = elim (eqb_tells (p + 1) (length (ports_of (slice_get netlist.cells d)))) [
  | inl same ↦ (let no : false ≡ true = rw same.0 at is in cc)
  | inr other ↦ elim (eqb_tells d c) [
    | inl cell ↦ elim (eqb_tells p q) [
      | inl port ↦ sym (ap (λ (k : ℕ). port_at netlist (Cell k) p) cell.1 ∙ ap (port_at netlist (Cell c)) port.1)
      | inr apart ↦ (let no : false ≡ true = rw (other.0, cell.0, apart.0) at is in cc)
    ]
    | inr apart ↦ (let no : false ≡ true = rw (other.0, apart.0) at is in cc)
  ]
]
at-port netlist (Register r) zero c q is = cc
at-port netlist (Register r) (suc p) c q is = cc

at-next : (netlist : RawNetlist) (place : Place) (p s : ℕ) → is_own netlist place p (Next s) ≡ true → port_at netlist (Register s) 0 ≡ port_at netlist place p
at-next netlist (Cell d) p s is = cc
at-next netlist (Register r) zero s is = elim (eqb_tells r s) [
  | inl same ↦ sym (ap (λ (k : ℕ). port_at netlist (Register k) 0) same.1)
  | inr other ↦ (let no : false ≡ true = rw other.0 at is in cc)
]
at-next netlist (Register r) (suc p) s is = cc

at-outputs : (netlist : RawNetlist) (place : Place) (p : ℕ) → ¬ (is_own netlist place p Outputs ≡ true)
at-outputs netlist (Cell d) p is = cc
at-outputs netlist (Register r) zero is = cc
at-outputs netlist (Register r) (suc p) is = cc

ports-near : (netlist : RawNetlist) (site : Site) (nets : Nets) (c p : ℕ) (ports : List (List Bit)) → ((k : ℕ) (bits : List Bit) → slice_get ports k ≡ Some bits → bits ≡ port_at netlist (Cell c) (p + k)) → ports_seen (sight_at netlist site nets) c p ports ≡ ports_seen (near netlist site nets) c p ports
ports-near netlist site nets c p [] there = refl
ports-near netlist site nets c p (bits ∷ more) there =
    let here : bits ≡ port_at netlist (Cell c) p = there 0 bits refl ∙ ap (port_at netlist (Cell c)) (let e : p + 0 ≡ p = omega arith in e) in
    let first : sight_at netlist site nets (Port c p) bits ≡ near netlist site nets (Port c p) bits = seen-near netlist site (Port c p) nets bits (λ is. here ∙ at-port netlist site.place site.port c p is) in
    let rest : ports_seen (sight_at netlist site nets) c (p + 1) more ≡ ports_seen (near netlist site nets) c (p + 1) more = ports-near netlist site nets c (p + 1) more (λ k later is. there (suc k) later is ∙ ap (port_at netlist (Cell c)) (let e : p + suc k ≡ p + 1 + k = omega arith in e)) in
    λ j. first j ∷ rest j

input-port : (ports : List (List Bit)) (k : ℕ) (bits : List Bit) → slice_get (input_ports ports) k ≡ Some bits → bits ≡ get_or ports k []
input-port [] k bits is = cc
input-port (y ∷ []) k bits is = cc
input-port (a ∷ b ∷ more) zero bits is = cc
input-port (a ∷ b ∷ more) (suc k) bits is = input-port (b ∷ more) k bits is

cell-near : (netlist : RawNetlist) (site : Site) (nets : Nets) (c : ℕ) (cell : Gate) → slice_get netlist.cells c ≡ Some cell → ports_seen (sight_at netlist site nets) c 0 (input_ports cell.ports) ≡ ports_seen (near netlist site nets) c 0 (input_ports cell.ports)
cell-near netlist site nets c cell at = ports-near netlist site nets c 0 (input_ports cell.ports) (λ k bits is.
    input-port cell.ports k bits is ∙ ap (λ (o : Option Gate). get_or (ports_of o) k []) (sym at) ∙ ap (port_at netlist (Cell c)) (let e : k ≡ 0 + k = omega arith in e))

-- At the registers and the outputs.

own-next : (netlist : RawNetlist) (site : Site) (r : ℕ) (register : Flop) → slice_get netlist.registers r ≡ Some register → own netlist site (Next r) ≡ true → register.d ≡ port_at netlist site.place site.port
own-next netlist site r register there is = sym (ap (λ (o : Option Flop). register_port o 0) there) ∙ at-next netlist site.place site.port r is

taken-near : (netlist : RawNetlist) (site : Site) (nets : Nets) (k : ℕ) (registers : List Flop) → ((j : ℕ) (register : Flop) → slice_get registers j ≡ Some register → slice_get netlist.registers (k + j) ≡ Some register) → taken (sight_at netlist site nets) k registers ≡ taken (near netlist site nets) k registers
taken-near netlist site nets k [] there = refl
taken-near netlist site nets k (register ∷ more) there =
    let here : slice_get netlist.registers k ≡ Some register = ap (slice_get netlist.registers) (let e : k ≡ k + 0 = omega arith in e) ∙ there 0 register refl in
    let first : sight_at netlist site nets (Next k) register.d ≡ near netlist site nets (Next k) register.d = seen-near netlist site (Next k) nets register.d (λ is. own-next netlist site k register here is) in
    let rest : taken (sight_at netlist site nets) (k + 1) more ≡ taken (near netlist site nets) (k + 1) more = taken-near netlist site nets (k + 1) more (λ j later is. ap (slice_get netlist.registers) (let e : k + 1 + j ≡ k + suc j = omega arith in e) ∙ there (suc j) later is) in
    λ j. number (first j) ∷ rest j

pub next-near : (netlist : RawNetlist) (site : Site) (nets : Nets) → taken (sight_at netlist site nets) 0 netlist.registers ≡ taken (near netlist site nets) 0 netlist.registers
next-near netlist site nets = taken-near netlist site nets 0 netlist.registers (λ j register is. ap (slice_get netlist.registers) (let e : 0 + j ≡ j = omega arith in e) ∙ is)

outputs-near : (netlist : RawNetlist) (site : Site) (nets : Nets) (ports : List (List Bit)) → map (λ bits. number (sight_at netlist site nets Outputs bits)) ports ≡ map (λ bits. number (near netlist site nets Outputs bits)) ports
outputs-near netlist site nets [] = refl
outputs-near netlist site nets (bits ∷ more) =
    let first : sight_at netlist site nets Outputs bits ≡ near netlist site nets Outputs bits = seen-near netlist site Outputs nets bits (λ is. absurd (at-outputs netlist site.place site.port is)) in
    let rest : map (λ bits. number (sight_at netlist site nets Outputs bits)) more ≡ map (λ bits. number (near netlist site nets Outputs bits)) more = outputs-near netlist site nets more in
    λ j. number (first j) ∷ rest j

pub shown-near : (netlist : RawNetlist) (site : Site) (nets : Nets) → shown (sight_at netlist site nets) netlist ≡ shown (near netlist site nets) netlist
shown-near netlist site nets = outputs-near netlist site nets (bits_at netlist.outputs)

-- So the equations are the same.

pub holds-near : (netlist : RawNetlist) (site : Site) (nets : Nets) (inputs state : List ℕ) → Holds (sight_at netlist site nets) nets netlist inputs state → Holds (near netlist site nets) nets netlist inputs state
holds-near netlist site nets inputs state h = record {
  entered = h.entered;
  stored = h.stored;
  computed = λ c cell at. h.computed c cell at ∙ ap (cell_value cell.kind cell.is_signed (length (output_port cell.ports))) (cell-near netlist site nets c cell at);
}

pub near-holds : (netlist : RawNetlist) (site : Site) (nets : Nets) (inputs state : List ℕ) → Holds (near netlist site nets) nets netlist inputs state → Holds (sight_at netlist site nets) nets netlist inputs state
near-holds netlist site nets inputs state h = record {
  entered = h.entered;
  stored = h.stored;
  computed = λ c cell at. h.computed c cell at ∙ sym (ap (cell_value cell.kind cell.is_signed (length (output_port cell.ports))) (cell-near netlist site nets c cell at));
}
