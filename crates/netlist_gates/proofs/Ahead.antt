-- Ports whose nets are laid one after the other, and the limits of their nets.
use Rattle.netlist_gates.proofs.Common.{◌≡◌, ℕ, zero, suc, ◌+◌, ◌<◌, ◌≤◌, false, List, [], ◌∷◌, length, refl, ap, subst, arith, drop, get_or, replicate, drop_more, Bit, Port, Register, bits_at}
use Rattle.netlist_gates.proofs.Common.{q_bits, all_bits, Plan, IsSound, bits-below, Lits, lits_of, no_lits, laid_lits, variables, laid_free}
use Rattle.netlist_core.specs.Drivers.{times_at}
use Rattle.netlist_core.specs.Below.{PortsBelow}
use Rattle.gate_list.specs.declared.literal.GateLit.TheVariants as lit

-- what is laid so far, the next variable, and what is left
pub record LaidAhead (limit first : ℕ) (start : Lits) (ports : List (List Bit)) (next : ℕ) (lits : Lits) (rest : List (List Bit)) : Type 0 where
  pub laid : laid_free lits next rest ≡ laid_free start first ports
  pub bits : next + all_bits rest ≡ first + all_bits ports
  pub below : PortsBelow limit rest

pub ahead-begun : (limit first : ℕ) (start : Lits) (ports : List (List Bit)) → PortsBelow limit ports → LaidAhead limit first start ports first start ports
ahead-begun limit first start ports below = record { laid = refl; bits = refl; below = below }

ahead-more : (limit first : ℕ) (start : Lits) (ports : List (List Bit)) (next : ℕ) (lits : Lits) (bits : List Bit) (more : List (List Bit)) → LaidAhead limit first start ports next lits (bits ∷ more) → LaidAhead limit first start ports (next + length bits) (laid_lits lits bits (variables next (length bits))) more
ahead-more limit first start ports next lits bits more ahead = record { laid = ahead.laid; bits = (let e = ahead.bits in omega (arith, e)); below = ahead.below.1 }

-- one port
pub ahead-port : (limit first : ℕ) (start : Lits) (ports : List Port) (next : ℕ) (lits : Lits) (i : ℕ) (d : Port) → i < length ports → LaidAhead limit first start (bits_at ports) next lits (bits_at (drop i ports)) → LaidAhead limit first start (bits_at ports) next lits ((get_or ports i d).bits ∷ bits_at (drop (i + 1) ports))
ahead-port limit first start ports next lits i d inside ahead = subst (λ (rest : List (List Bit)). LaidAhead limit first start (bits_at ports) next lits rest) (ap (λ (l : List Port). bits_at l) (drop_more ports i d inside)) ahead

pub port-laid : (limit first : ℕ) (start : Lits) (ports : List Port) (next : ℕ) (lits : Lits) (i : ℕ) (d : Port) (new : Lits) (count : ℕ) → i < length ports → LaidAhead limit first start (bits_at ports) next lits (bits_at (drop i ports)) → new ≡ laid_lits lits (get_or ports i d).bits (variables next (length (get_or ports i d).bits)) → count ≡ next + length (get_or ports i d).bits → LaidAhead limit first start (bits_at ports) count new (bits_at (drop (i + 1) ports))
port-laid limit first start ports next lits i d new count inside ahead is counted =
    rw (is, counted) (ahead-more limit first start (bits_at ports) next lits (get_or ports i d).bits (bits_at (drop (i + 1) ports)) (ahead-port limit first start ports next lits i d inside ahead))

-- one register
pub ahead-register : (limit first : ℕ) (start : Lits) (registers : List Register) (next : ℕ) (lits : Lits) (i : ℕ) (d : Register) → i < length registers → LaidAhead limit first start (q_bits registers) next lits (q_bits (drop i registers)) → LaidAhead limit first start (q_bits registers) next lits ((get_or registers i d).q ∷ q_bits (drop (i + 1) registers))
ahead-register limit first start registers next lits i d inside ahead = subst (λ (rest : List (List Bit)). LaidAhead limit first start (q_bits registers) next lits rest) (ap (λ (l : List Register). q_bits l) (drop_more registers i d inside)) ahead

pub register-laid : (limit first : ℕ) (start : Lits) (registers : List Register) (next : ℕ) (lits : Lits) (i : ℕ) (d : Register) (new : Lits) (count : ℕ) → i < length registers → LaidAhead limit first start (q_bits registers) next lits (q_bits (drop i registers)) → new ≡ laid_lits lits (get_or registers i d).q (variables next (length (get_or registers i d).q)) → count ≡ next + length (get_or registers i d).q → LaidAhead limit first start (q_bits registers) count new (q_bits (drop (i + 1) registers))
register-laid limit first start registers next lits i d new count inside ahead is counted =
    rw (is, counted) (ahead-more limit first start (q_bits registers) next lits (get_or registers i d).q (q_bits (drop (i + 1) registers)) (ahead-register limit first start registers next lits i d inside ahead))

-- Nets that are driven are in the table.

ports-below : (limit : ℕ) (ports : List (List Bit)) → ((n : ℕ) → 1 ≤ times_at n ports → n < limit) → PortsBelow limit ports
ports-below limit [] h = tt
ports-below limit (bits ∷ more) h = (bits-below limit bits (λ n some. h n (omega (arith, some))), ports-below limit more (λ n some. h n (omega (arith, some))))

pub inputs-below : (plan : Plan) → IsSound plan → PortsBelow plan.nets (bits_at plan.raw.inputs)
inputs-below plan sound = ports-below plan.nets (bits_at plan.raw.inputs) (λ n some. sound.below n (omega (arith, some)))

pub registers-below : (plan : Plan) → IsSound plan → PortsBelow plan.nets (q_bits plan.raw.registers)
registers-below plan sound = ports-below plan.nets (q_bits plan.raw.registers) (λ n some. sound.below n (omega (arith, some)))

-- a table in which nothing was laid
zero-at : (count n : ℕ) → get_or (replicate count (lit.Fixed false)) n (lit.Fixed false) ≡ lit.Fixed false
zero-at zero n = refl
zero-at (suc count) zero = refl
zero-at (suc count) (suc n) = zero-at count n

pub zeros-none : (count : ℕ) → lits_of (replicate count (lit.Fixed false)) ≡ no_lits
zeros-none count = λ i n. zero-at count n i
