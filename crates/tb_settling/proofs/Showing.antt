-- What signals get that stand for ports, one port after the other.
use Rattle.tb_settling.proofs.Common.{◌≡◌, zero, suc, ℕ, ◌+◌, ◌^◌, ◌<◌, ◌≤◌, List, [], ◌∷◌, map, length, drop, slice_get, Some, refl, sym, ap, ◌∙◌, arith, add-one, slice_index, slice_index_or}
use Rattle.tb_settling.proofs.Common.{length-map, drop_all, Bit, Port, Plan, IsSound, all_bits, bits_at, q_bits, whole_updates, PortsFit, whole_update}
use Rattle.netlist_core.specs.Drivers.{y_bits}
use Rattle.cycle_sim.proofs.Plans.{ports-few}

pub drop_whole : (ks : List ℕ) (ports : List (List Bit)) (vs : List ℕ) (k : ℕ) → length ks ≡ length ports → length vs ≡ length ports → k < length ks → drop k (whole_updates ks ports vs) ≡ whole_update ks ports vs k ∷ drop (k + 1) (whole_updates ks ports vs)
drop_whole [] ports vs k e f h = absurd (omega (arith, h))
drop_whole (x ∷ ks) [] vs k e f h = absurd (omega (arith, e))
drop_whole (x ∷ ks) (bits ∷ ports) [] k e f h = absurd (omega (arith, f))
drop_whole (x ∷ ks) (bits ∷ ports) (v ∷ vs) zero e f h = refl
drop_whole (x ∷ ks) (bits ∷ ports) (v ∷ vs) (suc k) e f h = rw add-one (rw add-one at (drop_whole ks ports vs k (omega (arith, e)) (omega (arith, f)) (omega (arith, h))))

shorter : (ks : List ℕ) (ports : List (List Bit)) (vs : List ℕ) → length (whole_updates ks ports vs) ≤ length ks
shorter [] ports vs = omega arith
shorter (x ∷ ks) [] vs = omega arith
shorter (x ∷ ks) (bits ∷ ports) [] = omega arith
shorter (x ∷ ks) (bits ∷ ports) (v ∷ vs) = let rest = shorter ks ports vs in omega (arith, rest)

pub whole_past : (ks : List ℕ) (ports : List (List Bit)) (vs : List ℕ) (k : ℕ) → length ks ≤ k → drop k (whole_updates ks ports vs) ≡ []
whole_past ks ports vs k h = drop_all k (whole_updates ks ports vs) (let few = shorter ks ports vs in omega (arith, few, h))

-- a signal for each port
pub ports_long : (widths ks : List ℕ) (ports : List (List Bit)) → PortsFit widths ks ports → length ks ≡ length ports
ports_long widths ks ports fit = sym (length-map ks (slice_index widths)) ∙ ap (λ (l : List ℕ). length l) fit.widths_are ∙ length-map ports (λ (b : List Bit). length b)

width_at : (widths ks : List ℕ) (ports : List (List Bit)) (k : ℕ) → map (slice_index widths) ks ≡ map length ports → k < length ks → slice_index widths (slice_index ks k) ≡ length (slice_index_or ports k [])
width_at widths [] ports k e h = absurd (omega (arith, h))
width_at widths (x ∷ ks) [] k e h = absurd cc
width_at widths (x ∷ ks) (bits ∷ ports) zero e h = let first : slice_index widths x ≡ length bits = cc in first
width_at widths (x ∷ ks) (bits ∷ ports) (suc k) e h = let rest : map (slice_index widths) ks ≡ map length ports = cc in width_at widths ks ports k rest (omega (arith, h))

pub port_width : (widths ks : List ℕ) (ports : List (List Bit)) (k : ℕ) → PortsFit widths ks ports → k < length ks → slice_index widths (slice_index ks k) ≡ length (slice_index_or ports k [])
port_width widths ks ports k fit h = width_at widths ks ports k fit.widths_are h

-- the port at a place
pub port_at : (ports : List Port) (k : ℕ) → k < length ports → (p : Port) × (slice_get ports k ≡ Some p) × (length p.bits ≡ length (slice_index_or (bits_at ports) k []))
port_at [] k h = absurd (omega arith)
port_at (p ∷ more) zero h = (p, refl, refl)
port_at (p ∷ more) (suc k) h = port_at more k (omega arith)

pub outputs_few : (plan : Plan) → IsSound plan → length plan.raw.outputs < 2 ^ 32
outputs_few plan sound =
    let some = ports-few (bits_at plan.raw.outputs) sound.formed.outputs in
    let bits : all_bits (bits_at plan.raw.inputs) + all_bits (bits_at plan.raw.outputs) + all_bits (q_bits plan.raw.registers) + all_bits (y_bits plan.raw.cells) ≤ 1048577 = sound.connected.driven.shaped.small.bits in
    let long = length-map plan.raw.outputs (λ (p : Port). p.bits) in
    omega (arith, some, bits, long)
